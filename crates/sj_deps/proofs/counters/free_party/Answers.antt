use Rattle.std.proofs.Common.{◌≡◌, ◌<◌, length, arith}
use Rattle.sj_base.specs.Ids.{task}
use Rattle.sj_deps.proofs.Freeing.{free_waiting, Frees-more}
use Rattle.sj_deps.proofs.counters.free_party.Goals as goal

pub free-requires-clause-waiting : goal.free-requires-clause-waiting
free-requires-clause-waiting c = free_waiting c.args.tasks.now c.loop-task.task-index (omega arith) c.args.held.now.items c.loop-task.held.items c.args.ready.now.items c.loop-task.ready.items c.loop-task.invariant.0 c.requires.enough

pub free-requires-clause-room : goal.free-requires-clause-room
free-requires-clause-room c = let law = c.loop-task.invariant.0.total in let room = c.requires.room in let more = c.loop-task.invariant.1 in omega arith

pub loop-task-preserved : goal.loop-task-preserved
loop-task-preserved c =
    let within : c.loop-task.task-index < length c.args.tasks.now = omega arith in
    let some = free_waiting c.args.tasks.now c.loop-task.task-index within c.args.held.now.items c.loop-task.held.items c.args.ready.now.items c.loop-task.ready.items c.loop-task.invariant.0 c.requires.enough in
    let in_args = c.requires.known c.loop-task.task-index (task 0) within in
    let len : length c.loop-task.held.items ≡ length c.args.held.now.items = c.loop-task.invariant.0.len in
    (Frees-more c.args.tasks.now c.loop-task.task-index within c.args.held.now.items c.loop-task.held.items c.args.ready.now.items c.loop-task.ready.items c.loop-task.invariant.0 (omega arith) some c.free.new.held.items c.free.new.ready.items c.free.ensures.held c.free.ensures.ready c.free.ensures.total, omega arith)
