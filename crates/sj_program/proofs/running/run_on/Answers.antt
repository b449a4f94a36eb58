use Rattle.std.proofs.Common.{ap}
use Rattle.sj_top.specs.Device.{seen}
use Rattle.sj_program.proofs.Endings.{line_behind}
use Rattle.sj_program.proofs.running.run_on.Goals as goal

pub returns : goal.returns
returns g c = record {
  ends_by_a_status_that_has_its_cause = record {
    status = c.starjob-outcome.result.status;
    trace = c.starjob-outcome.result.trace.events;
    disks = c.starjob-outcome.result.disks.items;
    is_its_code = c.end_with.ensures.ends_with_its_code;
    has_its_cause = c.starjob-outcome.ensures.status_has_its_cause;
    what_is_due_comes = c.starjob-outcome.ensures.due_status_comes;
    prints = c.starjob-outcome.ensures.printed;
    solves = c.starjob-outcome.ensures.solved;
    source_stays = λ none. ap (seen g.S.Source.left g.S.Source.faults) (c.starjob-outcome.ensures.reads_nothing none);
    out_stays = λ silent. ap (seen g.O.Sink.taken g.O.Sink.faults) (c.starjob-outcome.ensures.out_stays silent);
    err_takes_its_line = line_behind _ _ _ _ _ c.remark-further.ensures.nothing c.write_remark.ensures.takes c.end_with.ensures.err_takes_its_line;
  };
}
