use Rattle.std.proofs.Common.{◌≡◌, ◌+◌, ◌-◌, ◌*◌, ◌≤◌, length, take, drop, arith}
use Rattle.std.proofs.lemmas.Grind.{rows}
use Rattle.sj_minplus.proofs.Matrices.{length_slice, at_slice}
use Rattle.sj_minplus.proofs.Parts.{column_rows}
use Rattle.sj_minplus.proofs.ways.turn_column.Goals as goal

pub returns : goal.returns
returns c =
    let n = c.args.n in
    let k = c.args.k in
    let fits : k * n + n ≤ length c.args.d.now = grind (arith, rows) in
    let wide : length (take (k * n + n - k * n) (drop (k * n) c.args.d.now)) ≡ n = length_slice (k * n) (k * n + n) n c.args.d.now (omega arith) fits in
    column_rows c.args.m n k c.args.d.now c.args.a.now (take (k * n + n - k * n) (drop (k * n) c.args.d.now)) c.relax_rows.new.a (omega arith) wide (λ j l. at_slice (k * n) (k * n + n - k * n) c.args.d.now j (omega arith)) c.relax_rows.ensures
