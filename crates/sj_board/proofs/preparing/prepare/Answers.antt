use Rattle.sj_board.proofs.Words.{[], ap, deliveries, first_hands, rules, ◌∙◌, ◌≡◌}
use Rattle.sj_core.proofs.Dependencies.{Proper-dependencies}
use Rattle.sj_board.proofs.Opening.{first-listed, prepared}
use Rattle.sj_board.proofs.preparing.prepare.Goals as goal

pub of-requires : goal.of-requires
of-requires c = Proper-dependencies c.args.program.now c.requires.proper

pub first_pool-requires-clause-first : goal.first_pool-requires-clause-first
first_pool-requires-clause-first c = first-listed c.args.program.now c.args.policy c.in_ok-deps.deps c.in_ok-deps.ensures.program c.in_ok-deps.ensures.none_done c.deref-2.result.now c.in_ok-ready.ready.items c.deref-2.ensures.value c.in_ok-ready.ensures.each c.in_ok-ready.ensures.by_number

pub returns-clause-prepared : goal.returns-clause-prepared
returns-clause-prepared c =
    let hands : c.in_ok-hands.hands.items ≡ first_hands c.args.program.now = search rules in
    prepared c.args.program.now c.args.policy c.in_ok-deps.deps c.in_ok-deps.ensures.program c.in_ok-deps.ensures.none_done c.deref-2.result.now c.in_ok-ready.ready.items c.deref-2.ensures.value c.in_ok-ready.ensures.each c.in_ok-ready.ensures.by_number c.args.footprints.items c.in_ok-hands.hands.items c.in_ok-pool.pool c.requires.footprints hands c.in_ok-pool.ensures

pub returns-clause-delivers : goal.returns-clause-delivers
returns-clause-delivers c =
    let counted : c.in_ok-delivered.delivered ≡ deliveries [] c.count_deliveries.result = search rules in
    record { gifts_are = c.in_ok-gifts.ensures; none = counted ∙ ap (deliveries []) c.count_deliveries.ensures }
