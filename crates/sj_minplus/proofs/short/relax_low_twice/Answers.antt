use Rattle.std.proofs.Common.{◌≡◌, ◌+ℤ◌, pos, arith}
use Rattle.std.specs.Int.{int_min}
use Rattle.std.proofs.lemmas.Int.{to_z-of_z}
use Rattle.std.proofs.lemmas.List.{get_or_default}
use Rattle.sj_base.specs.Array.{at}
use Rattle.sj_codelet.specs.MinPlus.{least}
use Rattle.sj_minplus.proofs.Lowered.{low_two_steps, low_stays}
use Rattle.sj_minplus.proofs.short.relax_low_twice.Goals as goal

pub returns-clause-value : goal.returns-clause-value
returns-clause-value c = λ j h.
    let e : at c.take_least.new.row j ≡ int_min (int_min (at c.args.row.now j) (c.args.via +ℤ least +ℤ at c.args.other.now j)) (c.args.then +ℤ least +ℤ at c.args.last.now j) = grind (arith, to_z-of_z, c.take_least.ensures j h) in
    rw e (low_two_steps c.args.via (at c.args.other.now j) c.args.then (at c.args.last.now j) (at c.args.row.now j) c.requires.via (c.requires.others j (pos 0) (omega arith)) c.requires.then (c.requires.lasts j (pos 0) (omega arith)) (c.requires.low j (pos 0) h))

pub returns-clause-low : goal.returns-clause-low
returns-clause-low c = λ k d h.
    let same = c.take_least.auto.row in
    let here = c.take_least.ensures k (omega arith) in
    let old = c.requires.low k (pos 0) (omega arith) in
    rw (get_or_default c.take_least.new.row k d (pos 0) h, here) (low_stays _ _ (low_stays _ _ old))
