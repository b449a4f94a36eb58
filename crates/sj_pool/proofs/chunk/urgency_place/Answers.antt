use Rattle.std.proofs.Common.{◌≡◌, ◌∙◌, length, not, unwrap_or, arith}
use Rattle.std.proofs.lemmas.Grind.{common_steps}
use Rattle.std.specs.List.{position}
use Rattle.sj_pool.specs.Entry.{precedes}
use Rattle.sj_pool.proofs.Queues.{place-or}
use Rattle.sj_pool.proofs.chunk.urgency_place.Goals as goal

pub returns-clause-place : goal.returns-clause-place
returns-clause-place c =
    let es = c.args.entries.now in
    let e = c.args.entry.now in
    let place : c.unwrap_or.result ≡ unwrap_or (position (λ x. not (precedes x e)) es) (length es) = grind (arith, common_steps) in
    place ∙ place-or (λ x. not (precedes x e)) es
