use Rattle.std.proofs.Common.{◌≡◌, ◌+◌, ◌<◌, ◌∙◌, ap, arith, length, length-append}
use Rattle.sj_steal.specs.Account.{times}
use Rattle.sj_steal.specs.Facts.{SharedFacts, PassFacts}
use Rattle.sj_steal.proofs.Passes.{last_of, split_sum}
use Rattle.sj_steal.proofs.Stakes.{all_last, all_ones, one_each}
use Rattle.sj_steal.proofs.shared.gathered.Goals as goal

pub loop-pass-init : goal.loop-pass-init
loop-pass-init c =
    let p = c.in-Some.last in
    let e = c.in-Some.ensures.items in
    let all = c.requires.all in
    let l = last_of _ c.args.passes.items c.pop.new.self.items p e all.of (λ k d below. all.numbers k d (omega (arith, all.count, below))) in
    let mine = c.last.inside in
    let is = c.last.view_is in
    let number : mine.number ≡ length c.pop.new.self.items = ap (λ (q : PassFacts). q.number) is ∙ l.number in
    let workers : mine.workers ≡ c.args.workers = ap (λ (q : PassFacts). q.shared.workers) is ∙ ap (λ (s : SharedFacts). s.workers) l.of in
    let last : mine.number + 1 ≡ mine.workers = omega (arith, number, workers, l.longer, all.count) in
    let share = all_last mine.number mine.workers mine.stakes.items last c.last.invariant.shares in
    record {
      of = ap (λ (q : PassFacts). q.shared.lanes) is ∙ ap (λ (s : SharedFacts). s.lanes) l.of;
      parts = λ k d lt. omega (arith, share k d lt, number);
      fewer = omega (arith, l.longer, all.count);
      each = l.each;
      numbers = l.numbers;
      put = λ t. omega (arith, split_sum (λ (q : PassFacts). times t q.put) _ _ p e, ap (λ (q : PassFacts). times t q.put) is);
      taken = λ t. omega (arith, split_sum (λ (q : PassFacts). times t q.taken) _ _ p e, ap (λ (q : PassFacts). times t q.taken) is);
    }

pub merge-requires-clause-of : goal.merge-requires-clause-of
merge-requires-clause-of c =
    let inv = c.loop-pass.invariant in
    let l = last_of _ c.loop-pass.passes.items c.pop-in-loop-pass.new.self.items c.in-Some-pop.pass c.in-Some-pop.ensures.items inv.each inv.numbers in
    (inv.of, ap (λ (q : PassFacts). q.shared.lanes) c.pass.view_is ∙ ap (λ (s : SharedFacts). s.lanes) l.of)

pub merge-requires-clause-one : goal.merge-requires-clause-one
merge-requires-clause-one c =
    let inv = c.loop-pass.invariant in
    let mine = c.pass.inside in
    let is = c.pass.view_is in
    let l = last_of _ c.loop-pass.passes.items c.pop-in-loop-pass.new.self.items c.in-Some-pop.pass c.in-Some-pop.ensures.items inv.each inv.numbers in
    let number : mine.number ≡ length c.pop-in-loop-pass.new.self.items = ap (λ (q : PassFacts). q.number) is ∙ l.number in
    let workers : mine.workers ≡ c.args.workers = ap (λ (q : PassFacts). q.shared.workers) is ∙ ap (λ (s : SharedFacts). s.workers) l.of in
    all_ones mine.number mine.workers mine.stakes.items (omega (arith, number, workers, l.longer, inv.fewer)) c.pass.invariant.shares

pub loop-pass-preserved : goal.loop-pass-preserved
loop-pass-preserved c =
    let p = c.in-Some-pop.pass in
    let inv = c.loop-pass.invariant in
    let e = c.in-Some-pop.ensures.items in
    let is = c.pass.view_is in
    let l = last_of _ c.loop-pass.passes.items c.pop-in-loop-pass.new.self.items p e inv.each inv.numbers in
    record {
      of = c.merge.ensures.of;
      parts = one_each _ _ _ _ l.longer c.merge.ensures.parts inv.parts;
      fewer = omega (arith, l.longer, inv.fewer);
      each = l.each;
      numbers = l.numbers;
      put = λ t. omega (arith, c.merge.ensures.put t, ap (λ (q : PassFacts). times t q.put) is, split_sum (λ (q : PassFacts). times t q.put) _ _ p e, inv.put t);
      taken = λ t. omega (arith, c.merge.ensures.taken t, ap (λ (q : PassFacts). times t q.taken) is, split_sum (λ (q : PassFacts). times t q.taken) _ _ p e, inv.taken t);
    }
