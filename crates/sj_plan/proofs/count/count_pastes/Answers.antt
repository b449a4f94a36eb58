use Rattle.std.proofs.Common.{◌*◌, ◌∙◌, sym, ap}
use Rattle.sj_plan.specs.Interval.{meetings}
use Rattle.sj_plan.proofs.Counting.{pastes_of-count}
use Rattle.sj_plan.proofs.count.count_pastes.Goals as goal

pub returns : goal.returns
returns c =
    let a = c.args in
    ap (λ n. n * c.pairs-2.result) c.pairs.ensures.count ∙ ap (λ n. meetings a.dims.rows a.old.r a.new.r * n) c.pairs-2.ensures.count ∙ sym (pastes_of-count a.dims a.old a.new)
