use Rattle.std.proofs.Common.{rules}
use Rattle.sj_codelet.specs.Kernel.{out}
use Rattle.sj_board.proofs.Opened.{opening-taken}
use Rattle.sj_engine.proofs.opening.opened.Goals as goal

pub returns-in-Ok-make-clause-ok : goal.returns-in-Ok-make-clause-ok
returns-in-Ok-make-clause-ok g c = record {
  program = search rules;
  machine = search rules;
  opened = search rules;
  disks_are = search rules;
  hands = search rules;
  taken = opening-taken out c.args.program.value c.args.machine c.in-Ok.set c.in-Ok-make.board c.in-Ok-make.ensures.ok;
  no_fault = search rules;
}
