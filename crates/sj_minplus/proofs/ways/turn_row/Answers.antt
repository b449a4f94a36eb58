use Rattle.std.proofs.Common.{◌+◌, ◌*◌, arith, zero-add}
use Rattle.std.proofs.lemmas.Int.{to_z-of_z}
use Rattle.sj_base.specs.Array.{at}
use Rattle.sj_minplus.proofs.Parts.{split_parts, turn_parts}
use Rattle.sj_minplus.proofs.ways.turn_row.Goals as goal

pub relax_rows_by-requires-2-clause-lengths : goal.relax_rows_by-requires-2-clause-lengths
relax_rows_by-requires-2-clause-lengths c =
    let a = c.split_at_mut-above.ensures in
    let b = c.split_at_mut-through.ensures in
    let s = split_parts c.args.n c.args.k c.args.m c.args.a.now c.split_at_mut-above.result.0.now c.split_at_mut-above.result.1.now c.split_at_mut-through.result.0.now c.split_at_mut-through.result.1.now c.requires.vertex c.requires.a a.front a.back b.front b.back in
    rw s.through_long s.below_long

pub returns : goal.returns
returns c =
    let a = c.split_at_mut-above.ensures in
    let b = c.split_at_mut-through.ensures in
    let s = split_parts c.args.n c.args.k c.args.m c.args.a.now c.split_at_mut-above.result.0.now c.split_at_mut-above.result.1.now c.split_at_mut-through.result.0.now c.split_at_mut-through.result.1.now c.requires.vertex c.requires.a a.front a.back b.front b.back in
    turn_parts c.args.n c.args.k c.args.m (λ i. at c.args.d.now (i * c.args.n + c.args.k)) c.args.a.now c.split_at_mut-above.result.0.now c.split_at_mut-through.result.0.now c.split_at_mut-through.result.1.now c.relax_rows_by.new.a c.relax_itself.new.row c.relax_rows_by-2.new.a s c.relax_rows_by.auto.a c.relax_itself.auto.row c.relax_rows_by-2.auto.a (λ i j h l. rw zero-add at (c.relax_rows_by.ensures i j h l)) (λ j l. grind (arith, to_z-of_z, c.relax_itself.ensures j)) c.relax_rows_by-2.ensures
