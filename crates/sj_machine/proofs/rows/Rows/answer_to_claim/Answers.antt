use Rattle.sj_machine.proofs.Words.{refl, sym, task_of, ◌≡◌}
use Rattle.sj_machine.proofs.{ClaimChoice.choice-commuter, ClaimChoice.choice-found, ClaimChoice.choice-leaving, ClaimChoice.choice-work, Marked.marked-at}
use Rattle.sj_machine.proofs.rows.Rows.answer_to_claim.Goals as goal

pub returns-in-Some : goal.returns-in-Some
returns-in-Some c =
    let of_task : c.items-accesses.result.now ≡ (task_of c.self.inside.program.value c.args.t).accesses = rw c.items-accesses.ensures (rw c.task_at.ensures (rw c.deref.ensures refl)) in
    choice-commuter _ _ _ _ c.self.invariant _ c.self.view_is c.args.t c.args.w c.requires.may _ _ c.deref-2.ensures.value of_task c.in-Some.cell (sym c.in-Some.ensures)

pub returns-in-Some-leaving_at : goal.returns-in-Some-leaving_at
returns-in-Some-leaving_at c =
    let of_task : c.items-accesses.result.now ≡ (task_of c.self.inside.program.value c.args.t).accesses = rw c.items-accesses.ensures (rw c.task_at.ensures (rw c.deref.ensures refl)) in
    choice-leaving _ _ _ _ c.self.invariant _ c.self.view_is c.args.t c.args.w c.requires.may _ _ c.deref-2.ensures.value of_task (sym c.in_default.ensures) _ c.node_of-n.ensures _ c.deref-3.ensures.value c.in-Some-leaving_at.cell c.in-Some-leaving_at.ensures.some

pub on-requires-clause-work : goal.on-requires-clause-work
on-requires-clause-work c = rw c.deref-5.ensures (choice-work _ _ _ _ c.self.invariant _ c.self.view_is c.args.t c.args.w c.requires.may)

pub on-requires-clause-marked : goal.on-requires-clause-marked
on-requires-clause-marked c = marked-at _ _ _ _ c.self.invariant c.args.w _ c.node_of-n.ensures _ _ c.index-node.ensures _ c.deref-6.ensures.value

pub returns : goal.returns
returns c =
    let of_task : c.items-accesses.result.now ≡ (task_of c.self.inside.program.value c.args.t).accesses = rw c.items-accesses.ensures (rw c.task_at.ensures (rw c.deref.ensures refl)) in
    let answer = choice-found _ _ _ _ c.self.invariant _ c.self.view_is c.args.t c.args.w c.requires.may _ _ c.deref-2.ensures.value of_task (sym c.in_default.ensures) _ c.node_of-n.ensures _ c.deref-3.ensures.value c.args.gone.now c.requires.gone _ c.deref-4.ensures.value (c.in_default-leaving_at.ensures.none refl) _ _ c.index-node.ensures _ c.deref-5.ensures c.in_ok-found.found c.in_ok-found.ensures in
    rw c.ok_or.ensures.value answer
