use Rattle.std.proofs.Common.{◌++◌, ◌∙◌, Err, List, Ok, OnOk, Result, subst, sym}
use Rattle.sj_engine.proofs.ClaimTurns.{end-can, end-task, end-written, ended-row, ended-turn}
use Rattle.std.proofs.Common.{ap}
use Rattle.sj_base.specs.declared.trace.Event.TheVariants.{End}
use Rattle.sj_board.specs.Board.{BoardState, HasTakenReleased}
use Rattle.sj_base.specs.declared.ids.Task.{Task}
use Rattle.sj_engine.proofs.BoardTurns.{happened}
use Rattle.sj_engine.specs.Queued.{HasReleased}
use Rattle.sj_engine.proofs.shared_board.SharedBoard.end_and_take.Goals as goal

pub end-spent-requires-clause-task : goal.end-spent-requires-clause-task
end-spent-requires-clause-task g c =
    end-task g.D.Disk.size g.D.Disk.faults g.D.Disk.mismatches g.D.Disk.held c.args.w c.args.self.now c.deref.result.now c.deref_mut.result.now c.deref_mut.result.now c.args.t c.args.results.slots (c.deref.ensures ∙ c.self.view_is) (c.deref_mut.ensures.value ∙ c.self.view_is) c.is_sound.ensures c.requires.worker c.requires.runs c.requires.results

pub end-spent-requires-clause-can : goal.end-spent-requires-clause-can
end-spent-requires-clause-can g c =
    end-can g.D.Disk.size g.D.Disk.faults g.D.Disk.mismatches g.D.Disk.held c.args.w c.args.self.now c.deref.result.now c.deref_mut.result.now c.deref_mut.result.now c.args.t c.args.results.slots (c.deref.ensures ∙ c.self.view_is) (c.deref_mut.ensures.value ∙ c.self.view_is) c.is_sound.ensures c.requires.worker c.requires.runs c.requires.results

pub end-spent-requires-clause-written : goal.end-spent-requires-clause-written
end-spent-requires-clause-written g c =
    end-written g.D.Disk.size g.D.Disk.faults g.D.Disk.mismatches g.D.Disk.held c.args.w c.args.self.now c.deref.result.now c.deref_mut.result.now c.deref_mut.result.now c.args.t c.args.results.slots (c.deref.ensures ∙ c.self.view_is) (c.deref_mut.ensures.value ∙ c.self.view_is) c.is_sound.ensures c.requires.worker c.requires.runs c.requires.results

pub end-spent-requires-clause-taken : goal.end-spent-requires-clause-taken
end-spent-requires-clause-taken g c = subst (λ (k : BoardState g.row.D.Denot). HasTakenReleased k c.args.w) (sym (c.deref_mut.ensures.value ∙ c.self.view_is)) c.requires.taken

pub returns-clause-turn : goal.returns-clause-turn
returns-clause-turn g c =
    ended-turn g.D.Disk.size g.D.Disk.faults g.D.Disk.mismatches g.D.Disk.held c.args.w c.args.self.now c.deref.result.now c.deref_mut.result.now c.end-spent.new.self c.args.t c.args.results.slots (c.deref.ensures ∙ c.self.view_is) (c.deref_mut.ensures.value ∙ c.self.view_is) c.is_sound.ensures c.requires.worker c.requires.runs c.requires.results c.end-spent.ensures.ends c.end-spent.ensures.spares c.take_released-taken.new.self c.take_released-taken.ensures.pool c.take_released-taken.ensures.taken c.take_released-taken.ensures.others

pub returns-clause-row : goal.returns-clause-row
returns-clause-row g c =
    ended-row g.D.Disk.size g.D.Disk.faults g.D.Disk.mismatches g.D.Disk.held c.args.w c.args.self.now c.deref.result.now c.deref_mut.result.now c.end-spent.new.self c.args.t c.args.results.slots (c.deref.ensures ∙ c.self.view_is) (c.deref_mut.ensures.value ∙ c.self.view_is) c.is_sound.ensures c.requires.worker c.requires.runs c.requires.results c.end-spent.ensures.ends c.end-spent.ensures.spares c.take_released-taken.new.self c.take_released-taken.ensures.pool c.take_released-taken.ensures.taken c.take_released-taken.ensures.others

pub returns-clause-event : goal.returns-clause-event
returns-clause-event g c = ap (λ (k : BoardState g.row.D.Denot). k.run.trace) c.take_released-taken.ensures.pool ∙ happened c.args.self.now c.deref_mut.result.now c.end-spent.new.self (c.deref_mut.ensures.value ∙ c.self.view_is) (λ k. End c.args.t c.args.w) (ap (λ (k : BoardState g.row.D.Denot). k.run) c.end-spent.ensures.ends.leaves)

on-ok : {A E P Q : Type 0} (r : Result A E) → (P → Q) → OnOk r P → OnOk r Q
on-ok (Ok x) f p = f p
on-ok (Err e) f p = tt

pub returns-clause-released : goal.returns-clause-released
returns-clause-released g c =
    let ends = c.end-spent.ensures.ends in
    let same = c.deref_mut.ensures.value ∙ c.self.view_is in
    on-ok c.take_released-taken.result (λ all other. subst (λ (k : BoardState g.row.D.Denot). HasReleased k c.args.t c.args.w c.args.released.now.items c.take_released-taken.new.list.items) same (record {
      ready = ends.ready;
      become = ends.become;
      listed = all ∙ ap (λ (l : List Task). c.args.released.now.items ++ l) (ends.releases (λ prio. other (sym (ap (λ (k : BoardState g.row.D.Denot). k.run.machine.policy) same) ∙ prio)));
    })) c.take_released-taken.ensures.all
