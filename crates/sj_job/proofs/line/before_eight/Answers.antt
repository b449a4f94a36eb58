use Rattle.std.proofs.Common.{◌≡◌, ◌-◌, ◌∙◌, ℕ, List, ◌++◌, length, take, replicate, sym, ap, arith}
use Rattle.std.proofs.lemmas.List.{take-append-drop}
use Rattle.sj_job.proofs.Dividing.{eight-spaces}
use Rattle.sj_job.proofs.line.before_eight.Goals as goal

pub returns-then-from_le_bytes-eq-SPACES : goal.returns-then-from_le_bytes-eq-SPACES
returns-then-from_le_bytes-eq-SPACES c =
    let line : List ℕ = c.args.line.now in
    let front : List ℕ = c.in_ok-front.front.now in
    let k : ℕ = length line - 8 in
    let cut = c.in_ok-front.ensures.cases in
    let spaces : c.in_ok-front.last.now ≡ replicate 8 32 =
    eight-spaces line c.in_ok-front.last.now k c.from_le_bytes.result cut.1 (omega (arith, cut.2)) (λ i. (c.type_inv.line i).fits) c.from_le_bytes.ensures c.if-from_le_bytes-eq-SPACES.true in
    sym (ap (λ ys. ys ++ c.in_ok-front.last.now) cut.0 ∙ (ap (λ (ys : List ℕ). take k line ++ ys) cut.1 ∙ take-append-drop k line)) ∙ ap (λ ys. front ++ ys) spaces
