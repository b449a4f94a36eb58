use Rattle.std.proofs.Common.{ℕ, ap, map, max, arith}
use Rattle.std.specs.Prelude.{fold, ◌∷◌, []}
use Rattle.std.specs.List.{range_with_len}
use Rattle.std.proofs.lemmas.List.FromFn.{map-range_with_len_more}
use Rattle.std.proofs.lemmas.List.Sums.{fold-append}
use Rattle.sj_base.specs.declared.ids.Worker.{Worker}
use Rattle.sj_core.specs.Needs.{node_of, node_size}
use Rattle.sj_needs.proofs.room.room.Goals as goal

pub loop-w-preserved : goal.loop-w-preserved
loop-w-preserved c =
    let m = c.args.machine.now in
    let f : ℕ → Worker → ℕ = λ most w. max most (node_size m (node_of m w)) in
    let more = map-range_with_len_more {X = Worker} (λ n. record { 0 = n }) 0 c.loop-w.w c.loop-w.w (omega arith) in
    let front = map {A = ℕ} {B = Worker} (λ n. record { 0 = n }) (range_with_len 0 c.loop-w.w) in
    grind (arith, c.max-most.ensures, c.node_size.ensures, c.loop-w.invariant, ap (fold f 0) more, fold-append f 0 front ((record { 0 = c.loop-w.w }) ∷ []))
