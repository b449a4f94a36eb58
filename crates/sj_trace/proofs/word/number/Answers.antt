use Rattle.std.proofs.Common.{◌+◌, ◌∷◌, ◌++◌, [], ap, sym, ◌∙◌, decimal, arith, append_assoc}
use Rattle.std.proofs.lemmas.Fmt.{decimal_digit}
use Rattle.std.proofs.lemmas.List.{nil_from_length}
use Rattle.sj_trace.proofs.Numbers.{ended, one-more-digit, none_digitless, none_endless, none_longer, none_other_end}
use Rattle.sj_trace.proofs.word.number.Goals as goal

pub returns-in_err-number : goal.returns-in_err-number
returns-in_err-number c =
    rw c.from_residual-in_err-number.ensures (λ m s lm h. none_digitless m c.args.end c.in_ok-first.first.now s c.in_ok-first.rest.now lm c.in_err-number.ensures (ended m c.args.end s ∙ h ∙ c.in_ok-first.ensures.cases.0))

pub loop-byte-init : goal.loop-byte-init
loop-byte-init c =
    let d = c.in_ok-number.number in
    let rest = c.in_ok-first.rest.now in
    (omega (arith, c.in_ok-number.ensures.0), ap (λ l. l ++ rest) (decimal_digit d c.in_ok-number.ensures.0) ∙ ap (λ b. b ∷ rest) (sym c.in_ok-number.ensures.1) ∙ sym c.in_ok-first.ensures.cases.0)

pub returns-in_err-byte : goal.returns-in_err-byte
returns-in_err-byte c =
    let none = nil_from_length c.loop-byte.rest.now c.in_err-byte.ensures.cases in
    let whole = ap (λ l. decimal c.loop-byte.number ++ l) (sym none) ∙ c.loop-byte.invariant.1 in
    rw c.from_residual-in_err-byte.ensures (λ m s lm h. none_endless m c.loop-byte.number c.args.end s c.args.text.now lm c.loop-byte.invariant.0 c.requires whole (ended m c.args.end s ∙ h))

pub returns-then-byte-end : goal.returns-then-byte-end
returns-then-byte-end c =
    let n = c.loop-byte.number in
    let behind = c.in_ok-byte.behind.now in
    let cut = c.in_ok-byte.ensures.cases.0 ∙ ap (λ b. b ∷ behind) c.if-byte-end.true in
    (c.loop-byte.invariant.0, sym (ended n c.args.end behind) ∙ ap (λ l. decimal n ++ l) (sym cut) ∙ c.loop-byte.invariant.1)

pub returns-in_err-digit : goal.returns-in_err-digit
returns-in_err-digit c =
    let n = c.loop-byte.number in
    let whole = ap (λ l. decimal n ++ l) (sym c.in_ok-byte.ensures.cases.0) ∙ c.loop-byte.invariant.1 in
    rw c.from_residual-in_err-digit.ensures (λ m s lm h. none_other_end m n c.args.end c.in_ok-byte.byte.now s c.in_ok-byte.behind.now c.args.text.now lm c.loop-byte.invariant.0 c.requires c.if-byte-end.false c.in_err-digit.ensures whole (ended m c.args.end s ∙ h))

pub returns-in_err-number-2 : goal.returns-in_err-number-2
returns-in_err-number-2 c =
    let n = c.loop-byte.number in
    let d = c.in_ok-digit.field-0 in
    let behind = c.in_ok-byte.behind.now in
    let whole = ap (λ l. decimal n ++ l) (ap (λ b. b ∷ behind) (sym c.in_ok-digit.ensures.1) ∙ sym c.in_ok-byte.ensures.cases.0) ∙ c.loop-byte.invariant.1 in
    rw c.from_residual-in_err-number-2.ensures (λ m s lm h. none_longer m n c.args.end d s behind c.args.text.now lm c.loop-byte.invariant.0 c.requires c.in_ok-digit.ensures.0 c.in_err-number-2.ensures whole (ended m c.args.end s ∙ h))

pub loop-byte-preserved : goal.loop-byte-preserved
loop-byte-preserved c =
    let n = c.loop-byte.number in
    let d = c.in_ok-digit.field-0 in
    let behind = c.in_ok-byte.behind.now in
    let may = c.in_ok-number-2.ensures.0 in
    let longer = ap decimal c.in_ok-number-2.ensures.1 ∙ one-more-digit n d may.0 c.in_ok-digit.ensures.0 (omega (arith, may.1)) in
    let cut = ap (λ b. b ∷ behind) (sym c.in_ok-digit.ensures.1) ∙ sym c.in_ok-byte.ensures.cases.0 in
    (omega (arith, may.1, c.in_ok-number-2.ensures.1), ap (λ l. l ++ behind) longer ∙ append_assoc (decimal n) ((48 + d) ∷ []) behind ∙ ap (λ l. decimal n ++ l) cut ∙ c.loop-byte.invariant.1)
