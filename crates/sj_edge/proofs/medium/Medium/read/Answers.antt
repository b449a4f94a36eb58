use Rattle.std.proofs.Common.{◌≡◌, ◌+◌, ◌-◌, ◌≤◌, ℕ, List, ◌++◌, length, replicate, slice_range, sym, ap, ◌∙◌, arith, length-append}
use Rattle.sj_edge.proofs.Untouched.{length-filled, slice_range-zeros}
use Rattle.sj_edge.proofs.medium.Medium.read.Goals as goal

pub returns : goal.returns
returns c =
    let xs : List ℕ = c.self.inside.front.items in
    let k : ℕ = c.self.inside.size - length xs in
    let at : ℕ = c.args.at in
    let n : ℕ = length c.args.buf.now in
    let start : ℕ = c.min-start.result in
    let had : ℕ = c.min-n.result in
    let got : List ℕ = c.copy_out.new.buf in
    let within : at + n ≤ length xs + k = omega (arith, c.requires, ap length c.self.view_is, length-filled xs c.self.inside.size c.self.invariant.0) in
    let many : length got ≡ had = omega arith in
    let behind : length c.fill.new.self ≡ n - had = omega arith in
    let zeros : c.fill.new.self ≡ replicate (n - had) 0 = c.fill.ensures.after (λ y e. e) ∙ ap (λ m. replicate m 0) (sym c.fill.ensures.len ∙ behind) in
    let whole : length (got ++ c.fill.new.self) ≡ n = length-append got c.fill.new.self ∙ omega arith in
    let copied : got ≡ slice_range xs start (start + had) = c.copy_out.ensures ∙ (ap (λ m. slice_range c.deref.result.now start (start + m)) many ∙ ap (λ ys. slice_range ys start (start + had)) c.deref.ensures.value) in
    ap (λ ys. got ++ ys) zeros
    ∙ ap (λ ys. ys ++ replicate (n - had) 0) copied
    ∙ slice_range-zeros xs k at n start had within (omega arith) (omega arith)
    ∙ ap (λ ys. slice_range ys at (at + n)) c.self.view_is
    ∙ ap (λ m. slice_range c.args.self.now at (at + m)) (sym whole)
