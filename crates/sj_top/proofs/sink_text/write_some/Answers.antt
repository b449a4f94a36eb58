use Rattle.std.proofs.Common.{◌∙◌}
use Rattle.sj_top.proofs.Streams.{wrote, wrote-bound}
use Rattle.sj_top.proofs.sink_text.write_some.Goals as goal

pub loop-at-preserved : goal.loop-at-preserved
loop-at-preserved g c =
    let w = c.in_ok-at.ensures in
    let i = c.loop-at.invariant in
    record {
      bound = wrote-bound c.args.text.now c.loop-at.at c.in_ok-at.field-0 i.bound w.takes_at_most_the_bytes;
      faults = w.faults_rise_by_one_where_it_fails_and_else_stay ∙ i.faults;
      taken = wrote _ _ _ c.args.text.now c.loop-at.at c.in_ok-at.field-0 i.bound w.takes_at_most_the_bytes i.taken w.appends_the_first_bytes;
    }
