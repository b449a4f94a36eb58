use Rattle.std.proofs.Common.{List, subst, sym, take}
use Rattle.std.proofs.lemmas.List.{take_more}
use Rattle.sj_base.specs.declared.ids.Task.{Task}
use Rattle.sj_engine.specs.Ready.{PutsAll}
use Rattle.sj_engine.proofs.Numbers.{puts-more, puts-none}
use Rattle.sj_engine.proofs.Sources.{stays-itself, stays-then}
use Rattle.sj_engine.proofs.dealing.put_all.Goals as goal

pub loop-t-init : goal.loop-t-init
loop-t-init g c = record {
  stays = stays-itself c.args.ready.now;
  of = c.requires.of;
  shared = c.requires.shared;
  puts = puts-none c.args.ready.now c.requires.shared;
}

pub loop-t-preserved : goal.loop-t-preserved
loop-t-preserved g c = record {
  stays = stays-then c.args.ready.now c.loop-t.ready c.put.new.self c.loop-t.invariant.stays c.put.ensures.stays;
  of = c.put.ensures.of;
  shared = c.put.ensures.shared;
  puts = subst (λ (l : List Task). PutsAll c.args.ready.now l c.put.new.self) (sym (take_more c.args.tasks.now c.loop-t.t-index (record { 0 = 0 }) c.loop-t-test.true))
      (puts-more c.args.ready.now c.loop-t.ready c.put.new.self (take c.loop-t.t-index c.args.tasks.now) _ c.loop-t.invariant.puts c.in_ok-put.ensures.ok);
}
