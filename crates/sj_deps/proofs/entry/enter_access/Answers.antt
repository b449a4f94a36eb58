use Rattle.std.proofs.Common.{List, ◌++◌, refl, sym, subst, arith}
use Rattle.std.specs.Prelude.{Contains}
use Rattle.sj_base.specs.declared.mode.Mode.TheVariants.{R, W, RW, Redux, Commute as CommuteMode}
use Rattle.sj_deps.specs.declared.manner.Manner.TheVariants.{Read, Write, Commute}
use Rattle.sj_deps.specs.declared.manner.Usage.{Usage}
use Rattle.sj_deps.specs.Conflict.{usage}
use Rattle.sj_deps.specs.Counts.{Entering}
use Rattle.sj_deps.proofs.Appending.{on_ok}
use Rattle.sj_deps.proofs.Operands.{usages_by, cell_within, one_entered}
use Rattle.sj_deps.proofs.entry.enter_access.Goals as goal

pub enter-requires-clause-cell : goal.enter-requires-clause-cell
enter-requires-clause-cell c =
    cell_within c.args.program.now c.args.codelet c.args.t c.args.access Read (usages_by c.args.program.now c.args.codelet c.args.access R c.in-R.is) c.requires.program c.requires.uses c.args.entered.now c.requires.holds

pub enter-requires-clause-task : goal.enter-requires-clause-task
enter-requires-clause-task c = let task = c.requires.task in let every = c.requires.holds.every_task in omega arith

pub enter-requires-clause-listed : goal.enter-requires-clause-listed
enter-requires-clause-listed c = let task = c.requires.task in let every = c.requires.holds.every_task in let rows = c.requires.holds.every_party in omega arith

pub returns-in-R-clause-entered : goal.returns-in-R-clause-entered
returns-in-R-clause-entered c =
    on_ok c.enter.result _ _ (one_entered c.args.program.now c.args.codelet c.args.t c.args.access Read (usages_by c.args.program.now c.args.codelet c.args.access R c.in-R.is) c.requires.program c.requires.uses c.args.entered.now c.enter.new.entered c.requires.task refl) c.enter.ensures.entered

pub enter-requires-in-W-clause-cell : goal.enter-requires-in-W-clause-cell
enter-requires-in-W-clause-cell c =
    cell_within c.args.program.now c.args.codelet c.args.t c.args.access Write (usages_by c.args.program.now c.args.codelet c.args.access W c.in-W.is) c.requires.program c.requires.uses c.args.entered.now c.requires.holds

pub enter-requires-in-W-clause-task : goal.enter-requires-in-W-clause-task
enter-requires-in-W-clause-task c = let task = c.requires.task in let every = c.requires.holds.every_task in omega arith

pub enter-requires-in-W-clause-listed : goal.enter-requires-in-W-clause-listed
enter-requires-in-W-clause-listed c = let task = c.requires.task in let every = c.requires.holds.every_task in let rows = c.requires.holds.every_party in omega arith

pub returns-in-W-clause-entered : goal.returns-in-W-clause-entered
returns-in-W-clause-entered c =
    on_ok c.enter-in-W.result _ _ (one_entered c.args.program.now c.args.codelet c.args.t c.args.access Write (usages_by c.args.program.now c.args.codelet c.args.access W c.in-W.is) c.requires.program c.requires.uses c.args.entered.now c.enter-in-W.new.entered c.requires.task refl) c.enter-in-W.ensures.entered

pub enter-requires-in-RW-clause-cell : goal.enter-requires-in-RW-clause-cell
enter-requires-in-RW-clause-cell c =
    cell_within c.args.program.now c.args.codelet c.args.t c.args.access Write (usages_by c.args.program.now c.args.codelet c.args.access RW c.in-RW.is) c.requires.program c.requires.uses c.args.entered.now c.requires.holds

pub enter-requires-in-RW-clause-task : goal.enter-requires-in-RW-clause-task
enter-requires-in-RW-clause-task c = let task = c.requires.task in let every = c.requires.holds.every_task in omega arith

pub enter-requires-in-RW-clause-listed : goal.enter-requires-in-RW-clause-listed
enter-requires-in-RW-clause-listed c = let task = c.requires.task in let every = c.requires.holds.every_task in let rows = c.requires.holds.every_party in omega arith

pub returns-in-RW-clause-entered : goal.returns-in-RW-clause-entered
returns-in-RW-clause-entered c =
    on_ok c.enter-in-RW.result _ _ (one_entered c.args.program.now c.args.codelet c.args.t c.args.access Write (usages_by c.args.program.now c.args.codelet c.args.access RW c.in-RW.is) c.requires.program c.requires.uses c.args.entered.now c.enter-in-RW.new.entered c.requires.task refl) c.enter-in-RW.ensures.entered

pub enter-requires-in-Commute-clause-cell : goal.enter-requires-in-Commute-clause-cell
enter-requires-in-Commute-clause-cell c =
    cell_within c.args.program.now c.args.codelet c.args.t c.args.access (Commute c.args.codelet) (usages_by c.args.program.now c.args.codelet c.args.access CommuteMode c.in-Commute.is) c.requires.program c.requires.uses c.args.entered.now c.requires.holds

pub enter-requires-in-Commute-clause-task : goal.enter-requires-in-Commute-clause-task
enter-requires-in-Commute-clause-task c = let task = c.requires.task in let every = c.requires.holds.every_task in omega arith

pub enter-requires-in-Commute-clause-listed : goal.enter-requires-in-Commute-clause-listed
enter-requires-in-Commute-clause-listed c = let task = c.requires.task in let every = c.requires.holds.every_task in let rows = c.requires.holds.every_party in omega arith

pub returns-in-Commute-clause-entered : goal.returns-in-Commute-clause-entered
returns-in-Commute-clause-entered c =
    on_ok c.enter-in-Commute.result _ _ (one_entered c.args.program.now c.args.codelet c.args.t c.args.access (Commute c.args.codelet) (usages_by c.args.program.now c.args.codelet c.args.access CommuteMode c.in-Commute.is) c.requires.program c.requires.uses c.args.entered.now c.enter-in-Commute.new.entered c.requires.task refl) c.enter-in-Commute.ensures.entered

pub enter_contribution-requires-clause-uses : goal.enter_contribution-requires-clause-uses
enter_contribution-requires-clause-uses c =
    λ d m h. c.requires.uses d m (subst (λ (us : List Usage). Contains us (usage m d)) (sym (usages_by c.args.program.now c.args.codelet c.args.access Redux c.in-Redux.is)) h)

pub enter_contribution-requires-clause-cells : goal.enter_contribution-requires-clause-cells
enter_contribution-requires-clause-cells c = c.requires.holds.every_cell

pub enter_contribution-requires-clause-listed : goal.enter_contribution-requires-clause-listed
enter_contribution-requires-clause-listed c = c.requires.holds.every_party

pub returns-in-Redux-clause-entered : goal.returns-in-Redux-clause-entered
returns-in-Redux-clause-entered c =
    on_ok c.enter_contribution.result _ _ (λ f us entering. subst (λ (vs : List Usage). Entering c.args.program.now c.args.t (us ++ vs) c.enter_contribution.new.entered) (sym (usages_by c.args.program.now c.args.codelet c.args.access Redux c.in-Redux.is)) (f us entering)) c.enter_contribution.ensures.entered
