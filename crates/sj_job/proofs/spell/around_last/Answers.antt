use Rattle.std.proofs.Common.{◌+◌, ◌-◌, ◌≤◌, ℕ, List, length, take, drop, sym, ap, ◌∙◌, arith, Some, length-drop}
use Rattle.std.proofs.lemmas.List.{take_all}
use Rattle.sj_job.proofs.Last.{around-place, around-none}
use Rattle.sj_job.proofs.spell.around_last.Goals as goal

pub returns-in_err-at : goal.returns-in_err-at
returns-in_err-at c = rw c.from_residual.ensures (sym (around-none c.args.byte c.args.word.now c.in_err-at.ensures))

pub returns : goal.returns
returns c =
    let at = c.in_ok-at.at in
    let w = c.args.word.now in
    let e = c.in_ok-at.ensures in
    let le : length (drop (at + 1) w) ≤ length w - (at + 1) = omega (arith, length-drop (at + 1) w) in
    ap (λ (l : List ℕ). Some (take at w, l)) (take_all (length w - (at + 1)) (drop (at + 1) w) le)
    ∙ sym (around-place c.args.byte w at e.0 e.1 e.2)
