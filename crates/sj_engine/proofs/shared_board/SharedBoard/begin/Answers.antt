use Rattle.std.proofs.Common.{◌≡◌, ◌∙◌, ap, sym, subst}
use Rattle.std.proofs.Common.{◌<◌, length}
use Rattle.sj_base.specs.declared.program.Program.{Program}
use Rattle.sj_board.specs.Board.{BoardState}
use Rattle.sj_engine.proofs.StepFacts.{room-for, room-left}
use Rattle.sj_engine.proofs.BeginTurns.{begun-lent, begun-row, begun-turn, run-can, run-task, task-there}
use Rattle.sj_base.specs.declared.trace.Event.TheVariants.{Run}
use Rattle.sj_engine.proofs.BoardTurns.{happened}
use Rattle.sj_engine.proofs.shared_board.SharedBoard.begin.Goals as goal

pub task_at-requires : goal.task_at-requires
task_at-requires g c = subst (λ (p : Program). c.args.t.0 < length p.tasks) (sym (c.program.ensures ∙ ap (λ (k : BoardState g.row.D.Denot). k.run.program) (c.deref-2.ensures ∙ c.self.view_is))) (task-there g.D.Disk.size g.D.Disk.faults g.D.Disk.mismatches g.D.Disk.held c.args.w c.args.self.now c.deref.result.now c.deref.result.now c.deref.result.now c.args.t (c.deref.ensures ∙ c.self.view_is) (c.deref.ensures ∙ c.self.view_is) c.is_sound.ensures c.requires.worker c.requires.claimed c.requires.can)

pub run-requires-clause-task : goal.run-requires-clause-task
run-requires-clause-task g c = run-task g.D.Disk.size g.D.Disk.faults g.D.Disk.mismatches g.D.Disk.held c.args.w c.args.self.now c.deref.result.now c.deref_mut.result.now c.deref_mut.result.now c.args.t (c.deref.ensures ∙ c.self.view_is) (c.deref_mut.ensures.value ∙ c.self.view_is) c.is_sound.ensures c.requires.worker c.requires.claimed c.requires.can

pub run-requires-clause-can : goal.run-requires-clause-can
run-requires-clause-can g c = run-can g.D.Disk.size g.D.Disk.faults g.D.Disk.mismatches g.D.Disk.held c.args.w c.args.self.now c.deref.result.now c.deref_mut.result.now c.deref_mut.result.now c.args.t (c.deref.ensures ∙ c.self.view_is) (c.deref_mut.ensures.value ∙ c.self.view_is) c.is_sound.ensures c.requires.worker c.requires.claimed c.requires.can

pub run-requires-clause-room : goal.run-requires-clause-room
run-requires-clause-room g c = room-for c.deref_mut.result.now.run.program c.program.result.now c.args.t c.task_at.result.now c.in-Ok.frame c.len-operands.result (c.program.ensures ∙ ap (λ (k : BoardState g.row.D.Denot). k.run.program) (c.deref-2.ensures ∙ sym c.deref_mut.ensures.value)) c.task_at.ensures c.len-operands.ensures c.in-Ok.ensures.room

pub returns-clause-turn : goal.returns-clause-turn
returns-clause-turn g c = begun-turn g.D.Disk.size g.D.Disk.faults g.D.Disk.mismatches g.D.Disk.held c.args.w c.args.self.now c.deref.result.now c.deref_mut.result.now c.run.new.self c.args.t (c.deref.ensures ∙ c.self.view_is) (c.deref_mut.ensures.value ∙ c.self.view_is) c.is_sound.ensures c.requires.worker c.requires.claimed c.requires.can c.in-Ok-run.ensures.ok c.in-Ok-run.ensures.spares

pub returns-clause-row : goal.returns-clause-row
returns-clause-row g c =
    let program : c.program.result.now ≡ c.run.new.self.run.program = c.program.ensures ∙ ap (λ (k : BoardState g.row.D.Denot). k.run.program) (c.deref-2.ensures ∙ sym c.deref_mut.ensures.value) ∙ sym (ap (λ (k : BoardState g.row.D.Denot). k.run.program) c.in-Ok-run.ensures.ok) in
    (begun-row g.D.Disk.size g.D.Disk.faults g.D.Disk.mismatches g.D.Disk.held c.args.w c.args.self.now c.deref.result.now c.deref_mut.result.now c.run.new.self c.args.t (c.deref.ensures ∙ c.self.view_is) (c.deref_mut.ensures.value ∙ c.self.view_is) c.is_sound.ensures c.requires.worker c.requires.claimed c.requires.can c.in-Ok-run.ensures.ok, begun-lent g.D.Disk.size g.D.Disk.faults g.D.Disk.mismatches g.D.Disk.held c.args.w c.args.self.now c.deref.result.now c.deref_mut.result.now c.run.new.self c.args.t (c.deref.ensures ∙ c.self.view_is) (c.deref_mut.ensures.value ∙ c.self.view_is) c.is_sound.ensures c.requires.worker c.requires.claimed c.requires.can c.in-Ok-run.ensures.ok c.in-Ok-run.frame.slots c.in-Ok-run.ensures.shares, room-left c.run.new.self.run.program c.program.result.now c.args.t c.task_at.result.now c.in-Ok.frame c.in-Ok-run.frame c.len-operands.result program c.task_at.ensures c.len-operands.ensures c.in-Ok.ensures.room c.in-Ok-run.ensures.room)

pub returns-clause-event : goal.returns-clause-event
returns-clause-event g c = happened c.args.self.now c.deref_mut.result.now c.run.new.self (c.deref_mut.ensures.value ∙ c.self.view_is) (λ k. Run c.args.t c.args.w) (ap (λ (k : BoardState g.row.D.Denot). k.run) c.in-Ok-run.ensures.ok)
