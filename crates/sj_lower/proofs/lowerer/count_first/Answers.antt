use Rattle.sj_lower.proofs.Words.{ap, child, fill_row, Init, length, load_row, load_rows, sym, ℕ, ◌∙◌}
use Rattle.sj_lower.proofs.Places.{length-places}
use Rattle.sj_lower.proofs.lowerer.count_first.Goals as goal

pub returns-in-Values : goal.returns-in-Values
returns-in-Values c = λ d cell line.
    sym (length-places (λ (place : ℕ × ℕ). load_row c.in-Values.field-0 d (child d c.args.parts place) (cell place) line) c.args.parts)
    ∙ ap (λ (i : Init). length (load_rows i d c.args.parts cell line)) (sym c.in-Values.is)

pub returns-in-Fill : goal.returns-in-Fill
returns-in-Fill c = λ d cell line.
    sym (length-places (λ (place : ℕ × ℕ). fill_row c.in-Fill.field-0 c.in-Fill.field-1 d (child d c.args.parts place) (cell place) line) c.args.parts)
    ∙ ap (λ (i : Init). length (load_rows i d c.args.parts cell line)) (sym c.in-Fill.is)
