use Rattle.std.proofs.Common.{append-nil, arith, get_or, ◌≤◌, length}
use Rattle.std.proofs.lemmas.List.{drop_all, get_or_default, take_all}
use Rattle.std.proofs.lemmas.List.Edits.{map_over_more}
use Rattle.sj_replica.specs.declared.mark.Mark.{Mark}
use Rattle.sj_replica.specs.declared.mark.Mark.TheVariants.{Invalid}
use Rattle.sj_replica.proofs.replica.clear_all.Goals as goal

pub loop-i-preserved : goal.loop-i-preserved
loop-i-preserved c =
    let now = c.loop-i.marks in
    map_over_more (λ (x : Mark). Invalid) c.args.marks.now now c.loop-i.i (get_or now c.loop-i.i Invalid) c.loop-i-test.true c.loop-i.invariant (get_or_default now c.loop-i.i Invalid _ (omega arith))

pub returns : goal.returns
returns c = let all : length c.args.marks.now ≤ c.loop-i.i = c.loop-i-test.false in search (arith, c.loop-i.invariant, take_all, drop_all, append-nil)
