use Rattle.std.proofs.Common.{ℕ, List, map, ◌∙◌, subst, sym, Result, IsOkAnd, Vec, Global}
use Rattle.sj_engine.specs.Outcome.{AllDisksTell}
use Rattle.sj_top.specs.declared.status.Status.{Status}
use Rattle.sj_top.specs.declared.stop.Stop.{Stop}
use Rattle.sj_top.specs.Answers.{AnsweredText, IsAnswerText, LeavesDisks, RunsWork, StopsWith, WritesText, status_of}
use Rattle.sj_top.specs.Device.{seen}
use Rattle.sj_ready.specs.Input.{work_in}
use Rattle.sj_ready.specs.Work.{WorkOrRefusal}
use Rattle.sj_top.proofs.Leaving.{leaves-written}
use Rattle.sj_top.proofs.Tops.{silent-text, stop-answered, text-answered}
use Rattle.sj_top.proofs.top.answer_input.Goals as goal

pub returns-in-Ok-clause-answered : goal.returns-in-Ok-clause-answered
returns-in-Ok-clause-answered g c =
    let asked : WorkOrRefusal = work_in g.C.Codelets.has c.args.options.now (map g.D.Disk.size c.args.disks.items) c.args.input in
    let Tells = AllDisksTell g.D.Disk.held c.args.disks.items in
    let trace = c.run_input-text.result.trace.events in
    let text = c.in-Ok.printed.items in
    let is : IsOkAnd asked (IsAnswerText Tells trace text) = subst (λ (r : Result (Vec ℕ Global) Stop). RunsWork asked Tells r trace) c.in-Ok.is c.run_input-text.ensures.runs in
    let out = seen g.O.Sink.taken g.O.Sink.faults c.args.out.now in
    let out' = seen g.O.Sink.taken g.O.Sink.faults c.write_printed.new.out in
    let written = subst (λ (xs : List ℕ). WritesText xs c.write_printed.result out out') c.deref.ensures.value c.write_printed.ensures.written in
    text-answered asked Tells text trace c.write_printed.result out out' is written

pub returns-in-Ok-clause-disks : goal.returns-in-Ok-clause-disks
returns-in-Ok-clause-disks g c =
    let asked : WorkOrRefusal = work_in g.C.Codelets.has c.args.options.now (map g.D.Disk.size c.args.disks.items) c.args.input in
    let trace = c.run_input-text.result.trace.events in
    let old = c.args.disks.items in
    let new = c.run_input-text.result.disks.items in
    let out = seen g.O.Sink.taken g.O.Sink.faults c.args.out.now in
    let out' = seen g.O.Sink.taken g.O.Sink.faults c.write_printed.new.out in
    let done = subst (λ (r : Result (Vec ℕ Global) Stop). LeavesDisks g.D.Disk asked (status_of r) trace old new) c.in-Ok.is c.run_input-text.ensures.disks in
    leaves-written g.D.Disk asked c.deref.result.now c.write_printed.result out out' trace old new c.write_printed.ensures.written done

pub returns-in-Ok-clause-out_stays : goal.returns-in-Ok-clause-out_stays
returns-in-Ok-clause-out_stays g c = λ nothing.
    let asked : WorkOrRefusal = work_in g.C.Codelets.has c.args.options.now (map g.D.Disk.size c.args.disks.items) c.args.input in
    let Tells = AllDisksTell g.D.Disk.held c.args.disks.items in
    let trace = c.run_input-text.result.trace.events in
    let text = c.in-Ok.printed.items in
    let is : IsOkAnd asked (IsAnswerText Tells trace text) = subst (λ (r : Result (Vec ℕ Global) Stop). RunsWork asked Tells r trace) c.in-Ok.is c.run_input-text.ensures.runs in
    let out = seen g.O.Sink.taken g.O.Sink.faults c.args.out.now in
    let out' = seen g.O.Sink.taken g.O.Sink.faults c.write_printed.new.out in
    let written = subst (λ (xs : List ℕ). WritesText xs c.write_printed.result out out') c.deref.ensures.value c.write_printed.ensures.written in
    c.write_printed.ensures.not_called_for_nothing (c.deref.ensures.value ∙ silent-text asked Tells trace text c.write_printed.result out out' is written nothing)

pub returns-in-Err-clause-answered : goal.returns-in-Err-clause-answered
returns-in-Err-clause-answered g c =
    let asked : WorkOrRefusal = work_in g.C.Codelets.has c.args.options.now (map g.D.Disk.size c.args.disks.items) c.args.input in
    let Tells = AllDisksTell g.D.Disk.held c.args.disks.items in
    let trace = c.run_input-text.result.trace.events in
    let out = seen g.O.Sink.taken g.O.Sink.faults c.args.out.now in
    let stops : StopsWith asked c.in-Err.stop trace = subst (λ (r : Result (Vec ℕ Global) Stop). RunsWork asked Tells r trace) c.in-Err.is c.run_input-text.ensures.runs in
    subst (λ (s : Status). AnsweredText asked Tells s out out trace) (sym c.status.ensures) (stop-answered asked Tells c.in-Err.stop trace out stops)

pub returns-in-Err-clause-disks : goal.returns-in-Err-clause-disks
returns-in-Err-clause-disks g c =
    let asked : WorkOrRefusal = work_in g.C.Codelets.has c.args.options.now (map g.D.Disk.size c.args.disks.items) c.args.input in
    let trace = c.run_input-text.result.trace.events in
    let old = c.args.disks.items in
    let new = c.run_input-text.result.disks.items in
    let leaves = subst (λ (r : Result (Vec ℕ Global) Stop). LeavesDisks g.D.Disk asked (status_of r) trace old new) c.in-Err.is c.run_input-text.ensures.disks in
    subst (λ (s : Status). LeavesDisks g.D.Disk asked s trace old new) (sym c.status.ensures) leaves
