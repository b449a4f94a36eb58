use Rattle.std.proofs.Common.{rules, ◌≡◌, ◌∙◌, List, subst}
use Rattle.sj_base.specs.declared.program.Program.{Program}
use Rattle.sj_codelet.specs.Kernel.{out}
use Rattle.sj_board.specs.Delivered.{DeliversEach}
use Rattle.std.specs.Prelude.{IfErr}
use Rattle.sj_engine.specs.Outcome.{AllDisksTell, WantsLastWritten}
use Rattle.sj_core.proofs.Bound.{legal-within_bound}
use Rattle.sj_core.specs.Legal.{IsLegal}
use Rattle.sj_base.specs.declared.program.Machine.{Machine}
use Rattle.sj_engine.proofs.Outcomes.{unopened-is}
use Rattle.sj_engine.proofs.engine.run.Goals as goal

pub returns-in_default-clause-legal : goal.returns-in_default-clause-legal
returns-in_default-clause-legal g c = (unopened-is g.D.Disk.size g.D.Disk.faults g.D.Disk.mismatches g.D.Disk.held c.args.program.value c.args.machine c.args.disks.items c.unopened.result.result c.unopened.ensures.result c.unopened.result.delivered.pairs c.unopened.result.trace.events c.unopened.ensures.trace c.unopened.result.disks.items c.unopened.ensures.disks).legal

pub returns-in_default-clause-given_back : goal.returns-in_default-clause-given_back
returns-in_default-clause-given_back g c = (unopened-is g.D.Disk.size g.D.Disk.faults g.D.Disk.mismatches g.D.Disk.held c.args.program.value c.args.machine c.args.disks.items c.unopened.result.result c.unopened.ensures.result c.unopened.result.delivered.pairs c.unopened.result.trace.events c.unopened.ensures.trace c.unopened.result.disks.items c.unopened.ensures.disks).given_back

pub returns-in_default-clause-blocks : goal.returns-in_default-clause-blocks
returns-in_default-clause-blocks g c = (unopened-is g.D.Disk.size g.D.Disk.faults g.D.Disk.mismatches g.D.Disk.held c.args.program.value c.args.machine c.args.disks.items c.unopened.result.result c.unopened.ensures.result c.unopened.result.delivered.pairs c.unopened.result.trace.events c.unopened.ensures.trace c.unopened.result.disks.items c.unopened.ensures.disks).blocks

pub returns-in-Ok-opened-clause-delivers : goal.returns-in-Ok-opened-clause-delivers
returns-in-Ok-opened-clause-delivers g c =
    let program : c.deref.result.now ≡ c.args.program.value = search rules in
    λ ok.
    subst (λ (disks : List _). DeliversEach out c.args.program.value (AllDisksTell g.D.Disk.held disks) c.run_over.result.delivered.pairs) c.in-Ok-opened.ensures.ok.opened
    (subst (λ (p : Program). DeliversEach out p (AllDisksTell g.D.Disk.held c.in-Ok-opened.board.run.opened) c.run_over.result.delivered.pairs) program (c.run_over.ensures.delivers ok))

pub returns-clause-legal : goal.returns-clause-legal
returns-clause-legal g c = (unopened-is g.D.Disk.size g.D.Disk.faults g.D.Disk.mismatches g.D.Disk.held c.args.program.value c.args.machine c.args.disks.items c.unopened-in-Err.result.result c.unopened-in-Err.ensures.result c.unopened-in-Err.result.delivered.pairs c.unopened-in-Err.result.trace.events c.unopened-in-Err.ensures.trace c.unopened-in-Err.result.disks.items (c.unopened-in-Err.ensures.disks ∙ c.in-Err.ensures.err)).legal

pub returns-clause-given_back : goal.returns-clause-given_back
returns-clause-given_back g c = (unopened-is g.D.Disk.size g.D.Disk.faults g.D.Disk.mismatches g.D.Disk.held c.args.program.value c.args.machine c.args.disks.items c.unopened-in-Err.result.result c.unopened-in-Err.ensures.result c.unopened-in-Err.result.delivered.pairs c.unopened-in-Err.result.trace.events c.unopened-in-Err.ensures.trace c.unopened-in-Err.result.disks.items (c.unopened-in-Err.ensures.disks ∙ c.in-Err.ensures.err)).given_back

pub returns-clause-blocks : goal.returns-clause-blocks
returns-clause-blocks g c = (unopened-is g.D.Disk.size g.D.Disk.faults g.D.Disk.mismatches g.D.Disk.held c.args.program.value c.args.machine c.args.disks.items c.unopened-in-Err.result.result c.unopened-in-Err.ensures.result c.unopened-in-Err.result.delivered.pairs c.unopened-in-Err.result.trace.events c.unopened-in-Err.ensures.trace c.unopened-in-Err.result.disks.items (c.unopened-in-Err.ensures.disks ∙ c.in-Err.ensures.err)).blocks

pub returns-in_default-clause-bounded : goal.returns-in_default-clause-bounded
returns-in_default-clause-bounded g c = legal-within_bound c.args.program.value c.args.machine c.requires.proper c.requires.machine c.unopened.result.trace.events (unopened-is g.D.Disk.size g.D.Disk.faults g.D.Disk.mismatches g.D.Disk.held c.args.program.value c.args.machine c.args.disks.items c.unopened.result.result c.unopened.ensures.result c.unopened.result.delivered.pairs c.unopened.result.trace.events c.unopened.ensures.trace c.unopened.result.disks.items c.unopened.ensures.disks).legal

pub returns-in-Ok-opened-clause-bounded : goal.returns-in-Ok-opened-clause-bounded
returns-in-Ok-opened-clause-bounded g c =
    let program : c.deref.result.now ≡ c.args.program.value = search rules in
    let machine : c.in-Ok-opened.board.run.machine ≡ c.args.machine = c.in-Ok-opened.ensures.ok.machine in
    let events = c.run_over.result.trace.events in
    let legal = subst (λ (m : Machine). IsLegal c.args.program.value m events) machine
    (subst (λ (p : Program). IsLegal p c.in-Ok-opened.board.run.machine events) program c.run_over.ensures.legal) in
    legal-within_bound c.args.program.value c.args.machine c.requires.proper c.requires.machine events legal

pub returns-clause-bounded : goal.returns-clause-bounded
returns-clause-bounded g c = legal-within_bound c.args.program.value c.args.machine c.requires.proper c.requires.machine c.unopened-in-Err.result.trace.events (unopened-is g.D.Disk.size g.D.Disk.faults g.D.Disk.mismatches g.D.Disk.held c.args.program.value c.args.machine c.args.disks.items c.unopened-in-Err.result.result c.unopened-in-Err.ensures.result c.unopened-in-Err.result.delivered.pairs c.unopened-in-Err.result.trace.events c.unopened-in-Err.ensures.trace c.unopened-in-Err.result.disks.items (c.unopened-in-Err.ensures.disks ∙ c.in-Err.ensures.err)).legal

pub returns-in-Ok-opened-clause-wanted : goal.returns-in-Ok-opened-clause-wanted
returns-in-Ok-opened-clause-wanted g c =
    let program : c.deref.result.now ≡ c.args.program.value = search rules in
    let machine : c.in-Ok-opened.board.run.machine ≡ c.args.machine = c.in-Ok-opened.ensures.ok.machine in
    let events = c.run_over.result.trace.events in
    subst (λ (m : Machine). IfErr c.run_over.result.result (WantsLastWritten c.args.program.value m events)) machine
    (subst (λ (p : Program). IfErr c.run_over.result.result (WantsLastWritten p c.in-Ok-opened.board.run.machine events)) program c.run_over.ensures.wanted)
