use Rattle.std.proofs.Common.{refl, subst, sym}
use Rattle.sj_base.specs.declared.program.Program.{Program}
use Rattle.sj_codelet.specs.Kernel.{out}
use Rattle.sj_core.specs.Needs.{AreFootprints}
use Rattle.sj_meaning.specs.View.{statements_of}
use Rattle.sj_board.specs.Sound.{IsRunnableOn}
use Rattle.board_tests.proofs.Boards.{run-of}
use Rattle.board_tests.proofs.opening.parts_of.Goals as goal

pub returns-clause-run : goal.returns-clause-run
returns-clause-run c =
    let l = c.in_ok-program in
    let m = c.in_ok-machine in
    subst (λ (p : Program). IsRunnableOn out p m.machine) (sym c.in_ok-new.ensures.ok) (run-of (statements_of c.in_ok-job.job) l.field-0.program m.machine c.args.disk l.ensures.is c.in_ok-job.ensures.well l.ensures.proper l.ensures.known c.arguments_fit.ensures m.ensures.workers m.ensures.nodes m.ensures.disks (c.in_ok-footprints.ensures.swap refl))

pub returns-clause-footprints : goal.returns-clause-footprints
returns-clause-footprints c = subst (λ (p : Program). AreFootprints p c.in_ok-footprints.footprints.items) (sym c.in_ok-new.ensures.ok) c.in_ok-footprints.ensures.footprints
