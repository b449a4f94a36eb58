use Rattle.sj_board.proofs.Words.{ap, arith, Deliveries, IsPrepared, IsReadyToDeliver, length, Program, rules, Standing, subst, sym, UnitsStand, ◌<◌}
use Rattle.sj_board.proofs.{BoardEnds.opens-run, Opening.opens-with, StillGone.knows-none, UnitHands.units-first}
use Rattle.sj_board.proofs.board.Board.make.Goals as goal

pub invariant_of-result : goal.invariant_of-result
invariant_of-result g c =
    let some : 0 < c.args.program.value.workers = omega (arith, c.requires.start.run.machine.some_worker, c.requires.start.run.machine.workers) in
    let parts = subst (λ (p : Program). IsPrepared p c.args.machine.policy c.in-Ok.parts.deps c.in-Ok.parts.footprints.items c.in-Ok.parts.hands.items c.in-Ok.parts.pool) c.deref.ensures c.in-Ok.ensures.prepared in
    let delivers = subst (λ (p : Program). IsReadyToDeliver p c.in-Ok.parts.gifts c.in-Ok.parts.delivered) c.deref.ensures c.in-Ok.ensures.delivers in
    record {
      board = opens-with _ _ _ _ c.args.program.value c.args.machine c.args.disks some _ _ _ _ _ c.in-Ok.parts.delivered.pairs (ap (λ (x : Deliveries). x.pairs) delivers.none) c.in-Ok-make.ensures.ok parts;
      ends = opens-run g.D.Disk.held _ c.args.program.value c.args.machine c.args.disks _ c.in-Ok-make.ensures.ok _ _ delivers _ (search rules);
      victims = knows-none _ c.args.program.value c.args.machine c.args.disks _ c.in-Ok-make.ensures.ok c.deref-2.result.now.workers (ap (λ (p : Program). p.workers) c.deref-2.ensures) c.in-Ok-none_gone.gone.items c.in-Ok-none_gone.ensures;
      units = subst (λ (r : Standing _). UnitsStand r.disks r.out c.in-Ok.parts.hands.items) (sym c.in-Ok-make.ensures.ok) (units-first c.args.program.value c.args.disks (length c.args.disks.disks) c.in-Ok.parts.hands.items parts.hands_are);
    }
