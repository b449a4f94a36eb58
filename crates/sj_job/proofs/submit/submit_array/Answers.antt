use Rattle.std.proofs.Common.{◌∙◌, ap}
use Rattle.sj_job.specs.Sentence.{is_numbered_size, is_numbered_init, are_counts, first_values, init_said}
use Rattle.sj_job.proofs.Submitting.{all_numbered}
use Rattle.sj_job.proofs.submit.submit_array.Goals as goal

pub register_array-requires-clause-numbered : goal.register_array-requires-clause-numbered
register_array-requires-clause-numbered c =
    let a = c.args.array.now in
    let init = rw c.in-Some-2.is at c.in_ok-init.ensures in
    all_numbered (is_numbered_size a.size) (are_counts a.parts) (is_numbered_init a.init) c.in-Some.ensures.0 c.in-Some-parts_of.ensures.0 init.0

pub register_array-requires-clause-init : goal.register_array-requires-clause-init
register_array-requires-clause-init c = λ inside.
    let init = rw c.in-Some-2.is at c.in_ok-init.ensures in
    init.1 ∙ ap (λ n. first_values n (init_said c.args.array.now.init)) (c.telling_count.ensures inside)
