use Rattle.std.proofs.Common.{subst, List, ℕ, ◌∙◌}
use Rattle.sj_top.specs.Device.{seen}
use Rattle.sj_top.specs.Report.{TakesLine}
use Rattle.sj_top.proofs.Streams.{refusal_line}
use Rattle.sj_top.proofs.report.report_refusal.Goals as goal

pub returns : goal.returns
returns g c =
    subst (λ (l : List ℕ). TakesLine (seen g.E.Sink.taken g.E.Sink.faults c.args.err.now) (seen g.E.Sink.taken g.E.Sink.faults c.write_line_of.new.err) l)
    (refusal_line c.args.line c.args.reason c.as_bytes-number.result.now c.reason_word.result.now c.limit_word.result.now (c.as_bytes-number.ensures.value ∙ c.format.ensures.text) c.reason_word.ensures c.limit_word.ensures)
    c.write_line_of.ensures
