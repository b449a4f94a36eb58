use Rattle.sj_board.proofs.Words.{Claim, IsPlan, refl}
use Rattle.sj_board.proofs.{Answering.to-rows, EventTiles.event-room, EventTiles.keeps-claim, EventTiles.now-can, Keeping.keeps-told}
use Rattle.sj_board.proofs.run_state.RunState.claim.Goals as goal

pub claim-requires-clause-plan : goal.claim-requires-clause-plan
claim-requires-clause-plan g c = to-rows _ _ _ _ _ _ _ _ c.self.invariant _ c.self.view_is (λ p m s. IsPlan p m s c.args.t c.args.w c.args.plan) c.requires.plan

pub add-requires : goal.add-requires
add-requires g c = event-room _ _ _ _ _ _ _ _ c.self.invariant _ c.self.view_is (Claim c.args.t c.args.w) c.requires.can

pub invariant_of-self-2 : goal.invariant_of-self-2
invariant_of-self-2 g c =
    let i = c.self.inside in
    let e = Claim c.args.t c.args.w in
    keeps-told _ _ _ _ _ i.rows i.trace i.disks i.opened.value e i.tiles.items c.claim.new.self i.tiles.items c.add.new.self c.in_ok-claim.ensures.ok refl c.add.ensures.events
    (keeps-claim _ _ _ _ _ _ _ _ c.self.invariant c.args.t c.args.w (now-can _ _ _ _ _ _ _ _ c.self.invariant _ c.self.view_is e c.requires.can) c.add.new.self.spare c.add.ensures.room)
