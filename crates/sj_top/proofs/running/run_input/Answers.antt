use Rattle.std.proofs.Common.{ℕ, ◌≤◌, ◌^◌, List, map, ap, ◌∙◌, subst, sym, Result, Vec, Global}
use Rattle.std.specs.Prelude.{All}
use Rattle.std.proofs.lemmas.List.Elements.{All-map}
use Rattle.sj_engine.specs.Outcome.{AllDisksTell}
use Rattle.sj_top.specs.declared.stop.Stop.{Stop}
use Rattle.sj_top.specs.Answers.{LeavesDisks, RunsWork, status_of}
use Rattle.sj_ready.specs.Ready.{IsUnready}
use Rattle.sj_ready.specs.Input.{work_in}
use Rattle.sj_top.proofs.Leaving.{leaves-no-memory, leaves-unready}
use Rattle.sj_top.proofs.Tracing.{began_empty}
use Rattle.sj_top.proofs.running.run_input.Goals as goal

pub returns-in_default-clause-runs : goal.returns-in_default-clause-runs
returns-in_default-clause-runs g c =
    let none = c.nothing_run in
    let asked = work_in g.C.Codelets.has c.args.options.now (map g.D.Disk.size c.args.disks.items) c.args.input in
    subst (λ (r : Result (Vec ℕ Global) Stop). RunsWork asked (AllDisksTell g.D.Disk.held c.args.disks.items) r none.result.trace.events) (sym none.ensures.text)
    (began_empty asked none.result.trace.events none.ensures.trace)

pub returns-in_default-clause-disks : goal.returns-in_default-clause-disks
returns-in_default-clause-disks g c =
    let none = c.nothing_run in
    let asked = work_in g.C.Codelets.has c.args.options.now (map g.D.Disk.size c.args.disks.items) c.args.input in
    leaves-no-memory g.D.Disk asked none.result.text none.result.trace.events c.args.disks.items none.result.disks.items
    none.ensures.text (ap (λ (v : Vec g.row.D.Denot Global). v.items) none.ensures.disks)

pub ready_job-requires-clause-small : goal.ready_job-requires-clause-small
ready_job-requires-clause-small g c κs within =
    let sizes = c.in-Ok.ensures ∙ ap (map g.D.Disk.size) c.deref.ensures.value in
    subst (λ (ns : List ℕ). All (λ n. n ≤ 2 ^ 40) ns) (sym sizes) (All-map (λ n. n ≤ 2 ^ 40) g.D.Disk.size c.args.disks.items c.requires.small)

pub returns-in-Ok-ready_job-clause-disks : goal.returns-in-Ok-ready_job-clause-disks
returns-in-Ok-ready_job-clause-disks g c =
    let sizes = c.in-Ok.ensures ∙ ap (map g.D.Disk.size) c.deref.ensures.value in
    let P : List ℕ → Type 0 = λ ns. LeavesDisks g.D.Disk (work_in g.C.Codelets.has c.args.options.now ns c.args.input) (status_of c.run_ready.result.text) c.run_ready.result.trace.events c.args.disks.items c.run_ready.result.disks.items in
    subst P sizes (c.run_ready.ensures.disks (work_in g.C.Codelets.has c.args.options.now c.in-Ok.sizes.items c.args.input) c.in-Ok-ready_job.ensures.ready)

pub returns-in-Err-clause-runs : goal.returns-in-Err-clause-runs
returns-in-Err-clause-runs g c =
    let none = c.nothing_run-in-Err in
    let sizes = c.in-Ok.ensures ∙ ap (map g.D.Disk.size) c.deref.ensures.value in
    let asked = work_in g.C.Codelets.has c.args.options.now (map g.D.Disk.size c.args.disks.items) c.args.input in
    let unready : IsUnready asked c.in-Err.unready = subst (λ (ns : List ℕ). IsUnready (work_in g.C.Codelets.has c.args.options.now ns c.args.input) c.in-Err.unready) sizes c.in-Err.ensures.unready in
    subst (λ (r : Result (Vec ℕ Global) Stop). RunsWork asked (AllDisksTell g.D.Disk.held c.args.disks.items) r none.result.trace.events) (sym none.ensures.text)
    (unready, none.ensures.trace)

pub returns-in-Err-clause-disks : goal.returns-in-Err-clause-disks
returns-in-Err-clause-disks g c =
    let none = c.nothing_run-in-Err in
    let asked = work_in g.C.Codelets.has c.args.options.now (map g.D.Disk.size c.args.disks.items) c.args.input in
    leaves-unready g.D.Disk asked c.in-Err.unready none.result.text none.result.trace.events c.args.disks.items none.result.disks.items
    none.ensures.text (ap (λ (v : Vec g.row.D.Denot Global). v.items) none.ensures.disks)
