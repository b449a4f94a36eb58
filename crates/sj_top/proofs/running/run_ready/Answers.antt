use Rattle.std.proofs.Common.{ℕ, ap, refl, subst, sym, arith, Result, IfErr, IsOk, Vec, Global}
use Rattle.sj_base.specs.declared.program.Program.{Program}
use Rattle.sj_codelet.specs.Kernel.{out}
use Rattle.sj_core.specs.Legal.{IsFinished, IsLegal}
use Rattle.sj_engine.specs.Outcome.{AllDisksTell, IsCausedBy, WantsLastWritten}
use Rattle.sj_board.specs.declared.fault.RunFault.{RunFault}
use Rattle.sj_board.specs.Delivered.{DeliversEach}
use Rattle.sj_top.specs.declared.stop.Stop.{Stop}
use Rattle.sj_top.specs.Answers.{RunsWork}
use Rattle.sj_top.specs.Gathering.{AreGrouped, HandedOver, ShowsRun}
use Rattle.sj_top.proofs.Handing.{handed-over}
use Rattle.sj_top.proofs.Leaving.{leaves-broken, leaves-no-memory}
use Rattle.sj_top.proofs.Showing.{grouped}
use Rattle.sj_top.proofs.Shown.{behind, broken-work, shows-work}
use Rattle.sj_top.proofs.Tracing.{began_empty}
use Rattle.sj_top.proofs.running.run_ready.Goals as goal

pub returns-in_default-clause-runs : goal.returns-in_default-clause-runs
returns-in_default-clause-runs g c asked ready =
    let none = c.nothing_run in
    subst (λ (r : Result (Vec ℕ Global) Stop). RunsWork asked (AllDisksTell g.D.Disk.held c.args.disks.items) r none.result.trace.events) (sym none.ensures.text)
    (began_empty asked none.result.trace.events none.ensures.trace)

pub returns-in_default-clause-disks : goal.returns-in_default-clause-disks
returns-in_default-clause-disks g c asked ready =
    let none = c.nothing_run in
    leaves-no-memory g.D.Disk asked none.result.text none.result.trace.events c.args.disks.items none.result.disks.items
    none.ensures.text (ap (λ (v : Vec g.row.D.Denot Global). v.items) none.ensures.disks)

pub returns-in-Err-clause-runs : goal.returns-in-Err-clause-runs
returns-in-Err-clause-runs g c asked ready =
    let m = c.args.ready.machine in
    let run = c.run-result in
    let trace = run.result.trace.events in
    let fault = c.in-Err.fault in
    let legal = subst (λ (q : Program). IsLegal q m trace) c.in-Ok.ensures run.ensures.legal in
    let wanted = subst (λ (r : Result (Unit {0}) RunFault). IfErr r (WantsLastWritten c.in-Ok.shared.value m trace)) c.in-Err.is run.ensures.wanted in
    broken-work g.C.Codelets.has asked c.args.ready ready fault trace legal (subst (λ (q : Program). WantsLastWritten q m trace fault) c.in-Ok.ensures wanted)

pub returns-in-Err-clause-disks : goal.returns-in-Err-clause-disks
returns-in-Err-clause-disks g c asked ready =
    let faults = g.D.Disk.faults in
    let mismatches = g.D.Disk.mismatches in
    let held = g.D.Disk.held in
    let run = c.run-result in
    let old = c.args.disks.items in
    let new = run.result.disks.items in
    let cause : IsCausedBy faults mismatches held old new c.in-Err.fault =
    subst (λ (r : Result (Unit {0}) RunFault). IfErr r (IsCausedBy faults mismatches held old new)) c.in-Err.is run.ensures.cause in
    leaves-broken g.D.Disk asked c.in-Err.fault run.result.trace.events old new run.ensures.given_back cause

pub shown-requires-clause-handed : goal.shown-requires-clause-handed
shown-requires-clause-handed g c =
    let ready = c.requires.ready.1 in
    let p = c.args.ready.program.value in
    let pairs = c.run-result.result.delivered.pairs in
    let Tells = AllDisksTell g.D.Disk.held c.args.disks.items in
    let ok : IsOk c.run-result.result.result = subst IsOk (sym c.in_default-result.is) refl in
    let each = subst (λ (q : Program). DeliversEach out q Tells pairs) c.in-Ok.ensures (c.run-result.ensures.delivers ok) in
    subst (λ (q : Program). HandedOver q pairs) (sym c.deref.ensures)
    (handed-over g.C.Codelets.has p Tells pairs ready.proper ready.lawful (omega (arith, ready.machine_for.some_worker, ready.machine_for.workers)) ready.named each)

pub shown-requires-clause-grouped : goal.shown-requires-clause-grouped
shown-requires-clause-grouped g c =
    let ready = c.requires.ready.1 in
    subst (AreGrouped c.args.ready.roots) (sym c.deref.ensures) (grouped c.args.ready.roots c.args.ready.program.value ready.work.statements ready.prints)

pub returns-in-Ok-shown-clause-runs : goal.returns-in-Ok-shown-clause-runs
returns-in-Ok-shown-clause-runs g c asked ready =
    let p = c.args.ready.program.value in
    let m = c.args.ready.machine in
    let pairs = c.run-result.result.delivered.pairs in
    let trace = c.run-result.result.trace.events in
    let Tells = AllDisksTell g.D.Disk.held c.args.disks.items in
    let ok : IsOk c.run-result.result.result = subst IsOk (sym c.in_default-result.is) refl in
    let each = subst (λ (q : Program). DeliversEach out q Tells pairs) c.in-Ok.ensures (c.run-result.ensures.delivers ok) in
    let finished = subst (λ (q : Program). IsFinished q m trace) c.in-Ok.ensures (c.run-result.ensures.finished ok) in
    let shows = subst (λ (q : Program). ShowsRun c.args.ready.shows_summary c.args.ready.roots q pairs (behind c.args.ready.shows_trace trace) c.in-Ok-shown.text.items) c.deref.ensures c.in-Ok-shown.ensures in
    shows-work g.C.Codelets.has asked c.args.ready ready Tells pairs trace c.in-Ok-shown.text.items each shows finished (c.finishes.ensures p m trace finished)
