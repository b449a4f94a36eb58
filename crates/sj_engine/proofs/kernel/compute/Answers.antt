use Rattle.sj_machine.proofs.Results.{if-ok}
use Rattle.sj_engine.proofs.KernelFacts.{compute-count, compute-dims, compute-fits, compute-length, compute-ready, compute-results, taken-shared}
use Rattle.sj_engine.proofs.kernel.compute.Goals as goal

pub operands-requires-clause-shared : goal.operands-requires-clause-shared
operands-requires-clause-shared g c = taken-shared c.args.program.now c.requires.proper c.args.t c.requires.task c.args.taken.slots c.requires.shares

pub operands-requires-clause-count : goal.operands-requires-clause-count
operands-requires-clause-count g c = compute-count c.args.program.now c.requires.proper c.args.t c.requires.task c.args.taken.slots c.requires.shares c.task_at-task.result.now c.task_at-task.ensures c.items.result.now c.items.ensures

pub run_kernel-requires-clause-fits : goal.run_kernel-requires-clause-fits
run_kernel-requires-clause-fits g c κs within = compute-fits c.args.program.now c.requires.proper c.args.t c.requires.task c.args.taken.slots c.requires.shares c.task_at-task.result.now c.task_at-task.ensures c.items.result.now c.items.ensures c.in_ok-frame.frame c.in_ok-frame.ensures g.C.Codelets.has c.requires.lawful

pub run_kernel-requires-clause-ready : goal.run_kernel-requires-clause-ready
run_kernel-requires-clause-ready g c κs within = compute-ready c.args.program.now c.requires.proper c.args.t c.requires.task c.args.taken.slots c.requires.shares c.task_at-task.result.now c.task_at-task.ensures c.items.result.now c.items.ensures c.in_ok-frame.frame c.in_ok-frame.ensures

pub shares-requires : goal.shares-requires
shares-requires g c = compute-length c.args.program.now c.requires.proper c.args.t c.requires.task c.args.taken.slots c.requires.shares c.task_at-task.result.now c.task_at-task.ensures c.items.result.now c.items.ensures c.in_ok-frame.frame c.in_ok-frame.ensures c.run_kernel.new.frame c.in_ok-run_kernel.ensures

pub returns-clause-dims : goal.returns-clause-dims
returns-clause-dims g c = if-ok c.shares.result _ _ c.shares.ensures (compute-dims c.args.program.now c.requires.proper c.args.t c.requires.task c.args.taken.slots c.requires.shares c.task_at-task.result.now c.task_at-task.ensures c.items.result.now c.items.ensures c.in_ok-frame.frame c.in_ok-frame.ensures c.run_kernel.new.frame c.in_ok-run_kernel.ensures)

pub returns-clause-results : goal.returns-clause-results
returns-clause-results g c = if-ok c.shares.result _ _ c.shares.ensures (compute-results c.args.program.now c.requires.proper c.args.t c.requires.task c.args.taken.slots c.requires.shares c.task_at-task.result.now c.task_at-task.ensures c.items.result.now c.items.ensures c.in_ok-frame.frame c.in_ok-frame.ensures c.run_kernel.new.frame c.in_ok-run_kernel.ensures)
