-- A set for the tests: the codelets whose runs on one array don't change places. No law of a set says anything of these.
use Rattle.std.specs.Prelude.{Bool, false, not, ◌&&◌, IsTrue}
use Rattle.std.proofs.Common.{sym, ap, ◌∙◌}
use Rattle.std.proofs.lemmas.Bool.{false≢true, and_parts}
use Rattle.sj_base.specs.declared.mode.Reduction.{Reduction}
use Rattle.sj_base.specs.declared.mode.Reduction.TheVariants.{Plus, Least}
use Rattle.sj_codelet.specs.declared.kernel.Kernel.{Kernel}
use Rattle.sj_codelet.specs.Kernel.{commutes_of, contributes_of, has_reduction, out}
use Rattle.sj_codelet.specs.Laws.{CommutingCommute, DoesContribute, IsReduction}

-- all of the table but those that commute
abbrev pub keeps_order : Kernel → Bool
keeps_order k = not (commutes_of k)

pub none_commutes : CommutingCommute out keeps_order
none_commutes k h =
    let both = and_parts (keeps_order k) (commutes_of k) h in
    absurd (false≢true (sym (ap (λ (b : Bool). not b) both.1) ∙ both.0))

pub none_contributes : (k : Kernel) (by : Reduction) → IsTrue (keeps_order k && contributes_of k by && has_reduction keeps_order by) → DoesContribute out k by
none_contributes k Plus h = absurd (false≢true (and_parts (keeps_order k && contributes_of k Plus) false h).1)
none_contributes k Least h = absurd (false≢true (and_parts (keeps_order k && contributes_of k Least) false h).1)

pub no_reduction : (by : Reduction) → IsTrue (has_reduction keeps_order by) → IsReduction out by
no_reduction Plus h = absurd (false≢true h)
no_reduction Least h = absurd (false≢true h)
