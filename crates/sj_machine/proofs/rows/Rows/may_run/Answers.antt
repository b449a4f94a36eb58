use Rattle.sj_machine.proofs.Words.{refl, sym, ◌∙◌}
use Rattle.sj_machine.proofs.rows.Rows.may_run.Goals as goal

pub returns : goal.returns
returns c = c.may_run.ensures ∙ rw c.deref-2.ensures.value (rw c.deref-3.ensures.value (rw c.deref-4.ensures (rw c.items-accesses.ensures (rw c.task_at.ensures (rw c.deref.ensures (rw c.node_of-n.ensures (rw (sym c.self.view_is) refl)))))))
