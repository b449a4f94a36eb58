-- The roots of a job: a root's number is its place, from 0 in the order of registration.
use Rattle.std.specs.Prelude.{◌≡◌, ℕ, ◌<◌, ◌≤◌, Option, Some, option_map, position, List, [], ◌∷◌, ◌++◌, length}
use Rattle.std.specs.List.{slice_index_or}
use Rattle.std.specs.Str.{bytes_eq}
use Rattle.sj_base.specs.declared.ids.Root.{Root}
use Rattle.sj_plan.specs.declared.parts.Parts.{Parts}
use Rattle.sj_meaning.specs.declared.job.Kind.TheVariants.{Vector}
use Rattle.sj_meaning.specs.declared.job.RootInfo.{RootInfo}

-- the names of the roots, and what else is fixed of them
pub record Table : Type 0 where
  pub names : List (List ℕ)
  pub infos : List RootInfo

abbrev pub table_of : List (List ℕ) → List RootInfo → Table
table_of names infos = record { names = names; infos = infos }

abbrev pub a_root : ℕ → Root
a_root n = record { 0 = n }

-- the plan of one child, which is the whole array
abbrev pub undivided : Parts
undivided = record { r = 1; c = 1 }

-- what stands for the root of a number that no root has
abbrev pub no_info : RootInfo
no_info = record { kind = Vector; dims = record { rows = 0; cols = 0 }; parts = undivided }

abbrev pub name_of : Table → Root → List ℕ
name_of T r = slice_index_or T.names r.0 []

abbrev pub info_of : Table → Root → RootInfo
info_of T r = slice_index_or T.infos r.0 no_info

-- the root of a name
abbrev pub root_in : Table → List ℕ → Option Root
root_in T q = option_map a_root (position (bytes_eq q) T.names)

-- the number is that of its own name
abbrev pub IsRoot : Table → Root → Type 0
IsRoot T r = root_in T (name_of T r) ≡ Some r

-- two places have two names
abbrev pub AreDistinct : List (List ℕ) → Type 0
AreDistinct names = (i j : ℕ) → i < length names → j < length names → slice_index_or names i [] ≡ slice_index_or names j [] → i ≡ j

-- as many names as roots, at most as many as a job may register, and no name twice
abbrev pub IsTable : Table → Type 0
IsTable T = (length T.infos ≡ length T.names) × (length T.names ≤ 4096) × AreDistinct T.names

-- a root more
abbrev pub with_root : List ℕ → RootInfo → Table → Table
with_root name info T = table_of (T.names ++ name ∷ []) (T.infos ++ info ∷ [])
