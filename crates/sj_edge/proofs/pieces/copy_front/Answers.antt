use Rattle.std.proofs.Common.{◌≡◌, ℕ, length, drop, arith, length-take}
use Rattle.sj_edge.proofs.Ranges.{drop-copied}
use Rattle.sj_edge.proofs.pieces.copy_front.Goals as goal

pub returns-clause-given : goal.returns-clause-given
returns-clause-given c =
    let n : ℕ = c.min-n.result in
    let whole : length c.copy_out.new.buf ≡ n = omega (arith, length-take n c.args.buf.now) in
    drop-copied c.args.bytes.now c.copy_out.new.buf (drop n c.args.buf.now) c.args.at n whole c.copy_out.ensures
