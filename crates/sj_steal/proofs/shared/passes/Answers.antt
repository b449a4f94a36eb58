use Rattle.std.proofs.Common.{◌≡◌, ◌<◌, ◌∙◌, ◌-◌, ◌+◌, All, ap, sym, subst, arith, map, refl}
use Rattle.std.specs.List.{range_with_len}
use Rattle.sj_steal.specs.Facts.{AreStakes, StakeFacts, lanes_of, new_pass, new_stake, parts_of, pool, with_a_part_less}
use Rattle.sj_steal.proofs.Passes.{made_more}
use Rattle.sj_steal.proofs.Stakes.{less_new, new_are_stakes, new_lanes, new_parts, seen_new}
use Rattle.sj_steal.proofs.shared.passes.Goals as goal

pub dealt-requires-clause-of : goal.dealt-requires-clause-of
dealt-requires-clause-of c = ap lanes_of c.loop-number.invariant.rest ∙ new_lanes (256 - c.loop-number.number) c.args.lanes.now.items

pub dealt-requires-clause-parts : goal.dealt-requires-clause-parts
dealt-requires-clause-parts c = subst (λ xs. All (λ n. 1 < n) (parts_of xs)) (sym c.loop-number.invariant.rest)
    (new_parts (256 - c.loop-number.number) (λ n. 1 < n) (omega (arith, c.loop-number.invariant.within, c.ranges.workers.fits)) c.args.lanes.now.items)

pub invariant_of-push : goal.invariant_of-push
invariant_of-push c = subst (AreStakes c.args.policy c.loop-number.number c.args.workers) (sym c.in_ok-stakes.ensures.new)
    (new_are_stakes c.args.policy c.loop-number.number c.args.workers 1 c.args.lanes.now.items (omega (arith, c.loop-number.invariant.within)) c.requires.count ((λ other. refl), λ last. absurd (omega (arith, c.loop-number-test.true))))

pub loop-number-preserved : goal.loop-number-preserved
loop-number-preserved c =
    let inv = c.loop-number.invariant in
    let n = c.loop-number.number in
    let lanes = c.args.lanes.now.items in
    let fewer : 256 - n - 1 ≡ 256 - (n + 1) = omega arith in
    record {
      rest = c.in_ok-stakes.ensures.left ∙ ap (map with_a_part_less) inv.rest ∙ less_new (256 - n) lanes ∙ ap (λ k. map (new_stake k) lanes) fewer;
      within = omega (arith, c.loop-number-test.true);
      made = made_more (pool c.args.policy c.args.workers lanes) _ _ n _ inv.made c.in_ok-push.ensures.items (seen_new c.args.policy c.args.workers n 1 lanes c.in_ok-stakes.stakes.items c.in_ok-stakes.ensures.new);
    }

pub invariant_of-push-2 : goal.invariant_of-push-2
invariant_of-push-2 c =
    let n = c.loop-number.number in
    let last : c.args.workers - 1 ≡ n = omega (arith, c.loop-number-test.false, c.loop-number.invariant.within) in
    subst (AreStakes c.args.policy (c.args.workers - 1) c.args.workers) (sym c.loop-number.invariant.rest)
    (new_are_stakes c.args.policy (c.args.workers - 1) c.args.workers (256 - n) c.args.lanes.now.items (omega (arith, c.requires.some)) c.requires.count
    ((λ other. absurd (omega (arith, c.requires.some))), λ whole. omega (arith, c.ranges.workers.fits, c.loop-number.invariant.within)))

pub returns : goal.returns
returns c =
    let inv = c.loop-number.invariant in
    let n = c.loop-number.number in
    let lanes = c.args.lanes.now.items in
    let shared = pool c.args.policy c.args.workers lanes in
    let last : c.args.workers - 1 ≡ n = omega (arith, c.loop-number-test.false, inv.within) in
    let all : n + 1 ≡ c.args.workers = omega (arith, c.loop-number-test.false, inv.within) in
    made_more shared _ _ n _ inv.made c.in_ok-push-2.ensures.items (seen_new c.args.policy c.args.workers (c.args.workers - 1) (256 - n) lanes c.loop-number.rest.items inv.rest ∙ ap (new_pass shared) last)
    ∙ ap (λ k. map (new_pass shared) (range_with_len 0 k)) all
