use Rattle.sj_board.proofs.Words.{area, arith, block_bytes, CellInfo, IsSome, length, List, map, no_cell, refl, ReservesSome, slice_index_or, subst, sym, ◌<◌}
use Rattle.sj_disk.specs.Directory.{first_fit}
use Rattle.sj_board.proofs.FirstFit.{one-fits, placing-begins, placing-ends, placing-goes-on}
use Rattle.sj_board.proofs.placing.place_cells.Goals as goal

pub loop-i-init : goal.loop-i-init
loop-i-init g c = placing-begins g.D.Disk.size c.args.program.now c.args.machine.now c.args.set.now.disks c.requires.sizes c.args.set.now refl c.requires.swap c.requires.empty

pub place_cell-requires-clause-fits : goal.place_cell-requires-clause-fits
place_cell-requires-clause-fits g c =
    let inside : c.loop-i.i < length c.args.program.now.cells = omega (arith, c.loop-i-test.true, c.len-i-end.ensures) in
    subst (λ (cells : List CellInfo). IsSome (first_fit (map g.D.Disk.size c.loop-i.set.disks) c.loop-i.set.taken (block_bytes (area (slice_index_or cells c.loop-i.i no_cell).dims)))) (sym c.items.ensures) (one-fits g.D.Disk.size c.args.program.now c.args.machine.now c.args.set.now.disks c.requires.sizes c.loop-i.i c.loop-i.set c.loop-i.invariant inside)

pub loop-i-preserved : goal.loop-i-preserved
loop-i-preserved g c =
    let inside : c.loop-i.i < length c.args.program.now.cells = omega (arith, c.loop-i-test.true, c.len-i-end.ensures) in
    placing-goes-on g.D.Disk.size c.args.program.now c.args.machine.now c.args.set.now.disks c.requires.sizes c.loop-i.i c.loop-i.set c.loop-i.invariant inside c.place_cell.new.set (subst (λ (cells : List CellInfo). ReservesSome g.D.Disk.size c.loop-i.i (area (slice_index_or cells c.loop-i.i no_cell).dims) c.loop-i.set c.place_cell.new.set) c.items.ensures c.in_ok-place_cell.ensures.reserves)

pub returns-clause-placed : goal.returns-clause-placed
returns-clause-placed g c = placing-ends g.D.Disk.size c.args.program.now c.args.machine.now c.args.set.now.disks c.requires.sizes c.loop-i.i c.loop-i.set c.loop-i.invariant (omega (arith, c.loop-i-test.false, c.len-i-end.ensures))
