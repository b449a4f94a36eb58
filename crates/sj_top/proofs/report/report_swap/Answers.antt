use Rattle.std.proofs.Common.{subst, List, ℕ, [], ◌∷◌, ◌∙◌}
use Rattle.std.specs.Prelude.{codes}
use Rattle.sj_top.specs.Device.{seen}
use Rattle.sj_top.specs.Report.{TakesLine, in_a_row}
use Rattle.sj_top.proofs.report.report_swap.Goals as goal

pub returns : goal.returns
returns g c =
    let needed = c.as_bytes-needed.ensures.value ∙ c.format.ensures.text in
    let have = c.as_bytes-have.ensures.value ∙ c.format-2.ensures.text in
    subst (λ (l : List ℕ). TakesLine (seen g.E.Sink.taken g.E.Sink.faults c.args.err.now) (seen g.E.Sink.taken g.E.Sink.faults c.write_line_of.new.err) l)
    (λ i. in_a_row (codes "starjob: swap needs " ∷ needed i ∷ codes " bytes, has " ∷ have i ∷ codes "\n" ∷ []))
    c.write_line_of.ensures
