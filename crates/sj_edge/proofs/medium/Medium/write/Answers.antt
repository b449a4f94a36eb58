use Rattle.std.proofs.Common.{◌≡◌, ◌+◌, ◌-◌, ◌≤◌, ℕ, List, ◌++◌, length, replicate, sym, ap, ◌∙◌, arith, length-append}
use Rattle.std.proofs.lemmas.List.{length-replicate, with_items_is}
use Rattle.sj_edge.specs.Held.{written}
use Rattle.sj_edge.proofs.Ranges.{length-written}
use Rattle.sj_edge.proofs.Untouched.{filled, length-filled, written-append}
use Rattle.sj_edge.proofs.medium.Medium.write.Goals as goal

pub returns : goal.returns
returns c =
    let xs : List ℕ = c.self.inside.front.items in
    let size : ℕ = c.self.inside.size in
    let at : ℕ = c.args.at in
    let piece : List ℕ = c.args.piece.now in
    let fronts : List ℕ = xs ++ replicate (at + length piece - length xs) 0 in
    let within : at + length piece ≤ size = omega (arith, c.requires, ap length c.self.view_is, length-filled xs size c.self.invariant.0) in
    let enough : at + length piece ≤ length fronts = simp (length-append, length-replicate) (omega arith) in
    let lent : c.deref_mut.result.now ≡ fronts = c.deref_mut.ensures.value ∙ c.fill.ensures.zeros in
    let new : c.copy_in.new.bytes ≡ written at piece fronts = c.copy_in.ensures ∙ ap (written at piece) lent in
    let long : length (written at piece fronts) ≡ length fronts = length-written fronts piece at enough in
    let same_length : length c.copy_in.new.bytes ≡ c.fill.new.front.len =
    ap length new ∙ (long ∙ (ap length (sym lent) ∙ c.deref_mut.ensures.len)) in
    ap (λ (ys : List ℕ). ys ++ replicate (size - length ys) 0) (with_items_is c.fill.new.front c.copy_in.new.bytes same_length ∙ new)
    ∙ ap (λ n. written at piece fronts ++ replicate (size - n) 0) long
    ∙ sym (written-append fronts (replicate (size - length fronts) 0) piece at enough)
    ∙ ap (written at piece) (filled xs size (at + length piece) c.self.invariant.0 within ∙ c.self.view_is)
