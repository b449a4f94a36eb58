use Rattle.std.proofs.Common.{◌<◌, sym, ◌∙◌, subst, ℕ}
use Rattle.std.proofs.lemmas.List.{length-set}
use Rattle.sj_top.proofs.Finding.{finds-step, task-inside}
use Rattle.sj_top.proofs.gathering.places_of.Goals as goal

pub loop-i-preserved : goal.loop-i-preserved
loop-i-preserved c =
    let places = c.loop-i.places.items in
    let u = c.task.result in
    record {
      places = length-set places u.0 c.loop-i.i ∙ c.loop-i.invariant.places;
      found = finds-step places c.args.delivered.now.pairs c.loop-i.i u (subst (λ (n : ℕ). u.0 < n) (sym c.loop-i.invariant.places) (task-inside c.args.delivered.now.pairs c.args.tasks c.loop-i.i u c.requires c.task.ensures)) c.task.ensures c.loop-i.invariant.found;
    }
