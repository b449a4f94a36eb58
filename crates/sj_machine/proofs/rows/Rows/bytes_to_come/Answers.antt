use Rattle.sj_machine.proofs.Words.{length, Rows, subst, sym, ◌<◌, ◌∙◌}
use Rattle.sj_machine.proofs.{ClaimPlanning.proper-work, Marked.marked-at, Marked.need-read}
use Rattle.sj_machine.proofs.rows.Rows.bytes_to_come.Goals as goal

pub bytes_to_come-requires-clause-work : goal.bytes_to_come-requires-clause-work
bytes_to_come-requires-clause-work c =
    let a = c.args in
    let known = subst (λ (r : Rows). a.t.0 < length r.program.tasks) (sym c.self.view_is) c.requires.task in
    let staffed = subst (λ (r : Rows). a.w.0 < r.program.workers) (sym c.self.view_is) c.requires.worker in
    rw c.deref.ensures (proper-work _ c.self.invariant.sound.proper a.t known a.w staffed)

pub bytes_to_come-requires-clause-marked : goal.bytes_to_come-requires-clause-marked
bytes_to_come-requires-clause-marked c = marked-at _ _ _ _ c.self.invariant c.args.w _ c.node_of-n.ensures _ _ c.index-node.ensures _ c.deref-2.ensures.value

pub returns : goal.returns
returns c =
    c.bytes_to_come.ensures ∙ rw c.deref.ensures (rw (sym c.self.view_is) (need-read _ _ _ _ c.self.invariant c.args.w _ c.node_of-n.ensures _ _ c.index-node.ensures c.args.t))
