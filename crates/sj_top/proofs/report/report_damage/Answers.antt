use Rattle.std.proofs.Common.{subst, List, ℕ, [], ◌∷◌, ◌∙◌}
use Rattle.std.specs.Prelude.{codes}
use Rattle.sj_top.specs.Device.{seen}
use Rattle.sj_top.specs.Report.{TakesLine, in_a_row}
use Rattle.sj_top.proofs.report.report_damage.Goals as goal

pub returns : goal.returns
returns g c =
    let disk = c.as_bytes.ensures.value ∙ c.format.ensures.text in
    let cell = c.as_bytes-2.ensures.value ∙ c.format-2.ensures.text in
    let writes = c.as_bytes-3.ensures.value ∙ c.format-3.ensures.text in
    let length = c.as_bytes-4.ensures.value ∙ c.format-4.ensures.text in
    let found_cell = c.as_bytes-5.ensures.value ∙ c.format-5.ensures.text in
    let found_writes = c.as_bytes-6.ensures.value ∙ c.format-6.ensures.text in
    let found_length = c.as_bytes-7.ensures.value ∙ c.format-7.ensures.text in
    subst (λ (l : List ℕ). TakesLine (seen g.E.Sink.taken g.E.Sink.faults c.args.err.now) (seen g.E.Sink.taken g.E.Sink.faults c.write_line_of.new.err) l)
    (λ i. in_a_row (
    codes "starjob: disk " ∷ disk i
    ∷ codes " damaged: wanted cell " ∷ cell i ∷ codes " writes " ∷ writes i ∷ codes " length " ∷ length i
    ∷ codes ", found cell " ∷ found_cell i ∷ codes " writes " ∷ found_writes i ∷ codes " length " ∷ found_length i
    ∷ codes "\n" ∷ []))
    c.write_line_of.ensures
