use Rattle.std.proofs.Common.{ap, sym}
use Rattle.sj_top.specs.Device.{seen}
use Rattle.sj_program.proofs.Endings.{of_the_same, without_memory}
use Rattle.sj_program.proofs.running.run_with.Goals as goal

pub returns-then-size-gt-LARGEST_DISK : goal.returns-then-size-gt-LARGEST_DISK
returns-then-size-gt-LARGEST_DISK g c =
    let ended = c.ended_without_memory.ensures in
    record { ends_by_a_status_that_has_its_cause = without_memory _ _ _ _ _ _ (ap (seen g.O.Sink.taken g.O.Sink.faults) ended.out_stays) ended.ends_with_its_code ended.err_takes_its_line }

pub returns-in_default : goal.returns-in_default
returns-in_default g c =
    let ended = c.ended_without_memory-in_default.ensures in
    record { ends_by_a_status_that_has_its_cause = without_memory _ _ _ _ _ _ (ap (seen g.O.Sink.taken g.O.Sink.faults) ended.out_stays) ended.ends_with_its_code ended.err_takes_its_line }

pub returns-in_default-new_watch : goal.returns-in_default-new_watch
returns-in_default-new_watch g c =
    let ended = c.ended_without_memory-in_default-new_watch.ensures in
    record { ends_by_a_status_that_has_its_cause = without_memory _ _ _ _ _ _ (ap (seen g.O.Sink.taken g.O.Sink.faults) ended.out_stays) ended.ends_with_its_code ended.err_takes_its_line }

pub returns : goal.returns
returns g c =
    let had = c.over-out.ensures in
    let has = c.into_inner-out.ensures in
    record {
      ends_by_a_status_that_has_its_cause = of_the_same _ _ _ _ _ _ _ had.tells_the_same had.has_the_same_faults c.in-Some.ensures.alone
          (sym has.tells_the_same) (sym has.has_the_same_faults) c.run_on-code.ensures.ends_by_a_status_that_has_its_cause;
    }
