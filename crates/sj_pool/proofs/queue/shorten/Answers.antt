use Rattle.std.proofs.Common.{◌-◌, length, arith}
use Rattle.std.proofs.lemmas.List.{append_assoc, take-append-drop}
use Rattle.std.proofs.lemmas.Grind.{common_steps}
use Rattle.sj_pool.proofs.queue.shorten.Goals as goal

pub returns-clause-entries : goal.returns-clause-entries
returns-clause-entries c =
    let es = c.args.list.now.items in
    let parts = take-append-drop (length es - 32) es in
    grind (arith, common_steps, parts, append_assoc)
