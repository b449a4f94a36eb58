-- What an operand of a task counts as.
use Rattle.std.proofs.Common.{◌≡◌, ℕ, zero, suc, ◌+◌, ◌-◌, ◌<◌, ◌≤◌, false, List, [], ◌∷◌, ◌++◌, length, map, take, sym, ap, ◌∙◌, arith, slice_index_or}
use Rattle.std.specs.Prelude.{Contains, Option, None, Some, slice_get}
use Rattle.std.specs.List.{flat_map, range_with_len}
use Rattle.std.proofs.lemmas.List.{take_more, flat_map_more}
use Rattle.std.proofs.lemmas.List.FromFn.{length-map-range_with_len, get_or-map-range_with_len}
use Rattle.std.proofs.lemmas.List.Elements.{Contains-append_left, Contains-append_right}
use Rattle.std.proofs.lemmas.Bool.{both_ways}
use Rattle.sj_base.specs.declared.ids.Cell.{Cell}
use Rattle.sj_base.specs.declared.program.Lowered.{Lowered}
use Rattle.sj_base.specs.declared.program.Program.{Program}
use Rattle.sj_deps.specs.declared.manner.Manner.{Manner}
use Rattle.sj_deps.specs.declared.manner.Manner.TheVariants.{Contribute}
use Rattle.sj_deps.specs.Conflict.{usage, usages, usages_of, first_copy, copies_of}
use Rattle.sj_deps.specs.Chains.{joins}

pub plain_of : (m : Manner) → joins m Contribute ≡ false → m ≡ Contribute → ⊥
plain_of m apart same = both_ways _ apart (ap (λ w. joins w Contribute) same)

pub copies_some : (P : Program) (c : ℕ) (first : Cell) → first_copy P c ≡ Some first → copies_of P c ≡ range_with_len first.0 P.workers
copies_some P c first e = ap (λ (o : Option Cell). elim o [ None ↦ [] | Some f ↦ range_with_len f.0 P.workers ]) e

pub range_has : (m : Manner) (a k c : ℕ) → a ≤ c → c < a + k → Contains (map (usage m) (range_with_len a k)) (usage m c)
range_has m a k c low high =
    let long = length-map-range_with_len (usage m) a k in
    (c - a, omega arith, get_or-map-range_with_len (usage m) a k (c - a) c (usage m c) (omega arith) (omega arith))

pub flat_has : {X A : Type 0} (f : X → List A) (xs : List X) (i : ℕ) (d : X) (u : A) → i < length xs → Contains (f (slice_index_or xs i d)) u → Contains (flat_map f xs) u
flat_has f [] i d u h by = absurd (omega arith)
flat_has f (x ∷ xs) zero d u h by = Contains-append_left (f x) (flat_map f xs) u by
flat_has f (x ∷ xs) (suc i) d u h by = Contains-append_right (f x) (flat_map f xs) u (flat_has f xs i d u (omega arith) by)

pub flat_more : {X A : Type 0} (f : X → List A) (xs : List X) (i : ℕ) (d : X) → i < length xs → flat_map f (take (i + 1) xs) ≡ flat_map f (take i xs) ++ f (slice_index_or xs i d)
flat_more f xs i d h = ap (flat_map f) (take_more xs i d h) ∙ sym (flat_map_more f [] (take i xs) (slice_index_or xs i d))

pub usages_at : (P : Program) (t : ℕ) (task : Lowered) → slice_get P.tasks t ≡ Some task → usages P t ≡ flat_map (usages_of P task.codelet) task.accesses
usages_at P t task e = ap (λ (o : Option Lowered). elim o [ None ↦ [] | Some l ↦ flat_map (usages_of P l.codelet) l.accesses ]) e
