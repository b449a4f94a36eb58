-- Why the whole library meets the laws of a set: the ring's codelets do, and those of min-plus.
use Rattle.std.specs.Prelude.{◌≡◌, Bool, true, false, ◌&&◌, ◌||◌, not, IsTrue, refl}
use Rattle.std.proofs.Common.{ap, sym, ◌∙◌}
use Rattle.std.proofs.lemmas.Bool.{and_from, and_parts, false≢true}
use Rattle.sj_base.specs.declared.mode.Reduction.{Reduction}
use Rattle.sj_base.specs.declared.mode.Reduction.TheVariants.{Plus, Least}
use Rattle.sj_codelet.specs.declared.kernel.Kernel.{Kernel}
use Rattle.sj_codelet.specs.Kernel.{is_min_plus, commutes_of, contributes_of, has_reduction, out}
use Rattle.sj_codelet.specs.Laws.{DoCommute, DoesContribute, IsReduction}
use Rattle.sj_codelet.proofs.Table.{by_table}
use Rattle.sj_kernels.specs.RingLaws.{ring_commuting, ring_contributing, ring_reducing}
use Rattle.sj_minplus.specs.Has.{library_has}
use Rattle.sj_minplus.specs.LeastLaws.{least_commuting, least_contributing, least_reduces}

pub library_commuting : (kernel : Kernel) → IsTrue (library_has kernel && commutes_of kernel) → DoCommute out kernel
library_commuting kernel h = by_set (is_min_plus kernel) refl (and_parts (library_has kernel) (commutes_of kernel) h).1
  where
    by_set : (b : Bool) → is_min_plus kernel ≡ b → commutes_of kernel ≡ true → DoCommute out kernel
    by_set true e c = least_commuting kernel (and_from (is_min_plus kernel) (commutes_of kernel) e c)
    by_set false e c = ring_commuting kernel (and_from (not (is_min_plus kernel)) (commutes_of kernel) (ap not e) c)

-- what contributes to the least is of min-plus
contributing_least : (kernel : Kernel) → is_min_plus kernel ≡ false → contributes_of kernel Least ≡ true → DoesContribute out kernel Least
contributing_least kernel e c =
    absurd (false≢true (sym (ap (λ (b : Bool). b || not (contributes_of kernel Least)) e ∙ ap not c) ∙ by_table (λ k. is_min_plus k || not (contributes_of k Least)) refl kernel))

pub library_contributing : (kernel : Kernel) (by : Reduction) → IsTrue (library_has kernel && contributes_of kernel by && has_reduction library_has by) → DoesContribute out kernel by
library_contributing kernel by h =
    by_set (is_min_plus kernel) by refl (and_parts (library_has kernel) (contributes_of kernel by) (and_parts (library_has kernel && contributes_of kernel by) (has_reduction library_has by) h).0).1
  where
    by_set : (b : Bool) (r : Reduction) → is_min_plus kernel ≡ b → contributes_of kernel r ≡ true → DoesContribute out kernel r
    by_set true r e c = least_contributing kernel r (and_from (is_min_plus kernel) (contributes_of kernel r) e c)
    by_set false Plus e c = ring_contributing kernel Plus (and_from (not (is_min_plus kernel) && contributes_of kernel Plus) true (and_from (not (is_min_plus kernel)) (contributes_of kernel Plus) (ap not e) c) refl)
    by_set false Least e c = contributing_least kernel e c

pub library_reducing : (by : Reduction) → IsTrue (has_reduction library_has by) → IsReduction out by
library_reducing Plus h = ring_reducing Plus h
library_reducing Least h = least_reduces
