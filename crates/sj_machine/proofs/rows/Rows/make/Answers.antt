use Rattle.sj_machine.proofs.Words.{empty, idle_row, length, map, no_copy, replicate, rules, Waiting, ◌≡◌}
use Rattle.sj_machine.proofs.Making.{made}
use Rattle.sj_machine.proofs.rows.Rows.make.Goals as goal

pub invariant_of-result : goal.invariant_of-result
invariant_of-result c =
    let p = c.args.program.value in
    let m = c.args.machine in
    let tasks : c.in-Ok.tasks.items ≡ replicate (length p.tasks) Waiting = search rules in
    let cells : c.in-Ok-no_copies.cells.items ≡ replicate (length p.cells) (no_copy (length m.nodes)) = search rules in
    let nodes : c.in-Ok-empty_nodes.nodes.items ≡ map (λ size. empty size (length p.cells)) m.nodes = search rules in
    let workers : c.in-Ok-idle_workers.workers.items ≡ replicate m.workers idle_row = search rules in
    (made p m c.requires.proper c.requires.machine _ _ _ _ tasks cells nodes workers).keeps

pub returns-clause-ok : goal.returns-clause-ok
returns-clause-ok c =
    let p = c.args.program.value in
    let m = c.args.machine in
    let tasks : c.in-Ok.tasks.items ≡ replicate (length p.tasks) Waiting = search rules in
    let cells : c.in-Ok-no_copies.cells.items ≡ replicate (length p.cells) (no_copy (length m.nodes)) = search rules in
    let nodes : c.in-Ok-empty_nodes.nodes.items ≡ map (λ size. empty size (length p.cells)) m.nodes = search rules in
    let workers : c.in-Ok-idle_workers.workers.items ≡ replicate m.workers idle_row = search rules in
    (made p m c.requires.proper c.requires.machine _ _ _ _ tasks cells nodes workers).opened
