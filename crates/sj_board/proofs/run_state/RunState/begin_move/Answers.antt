use Rattle.sj_board.proofs.Words.{ap, CanShare, List, Move, refl, subst, sym, tile_kept, ◌∙◌}
use Rattle.sj_board.proofs.{EventTiles.begin-can_share, EventTiles.begin-share, EventTiles.event-room, EventTiles.keeps-begin, EventTiles.now-can, Keeping.keeps-told, TileTables.Places}
use Rattle.sj_board.proofs.run_state.RunState.begin_move.Goals as goal

pub share_of-requires : goal.share_of-requires
share_of-requires g c =
    let a = c.args in
    subst (λ (ts : List Places). CanShare ts a.cell a.from) (sym c.deref.ensures.value)
    (begin-can_share _ _ _ _ _ _ _ _ c.self.invariant a.cell a.from a.to (now-can _ _ _ _ _ _ _ _ c.self.invariant _ c.self.view_is (Move a.cell a.from a.to) c.requires.can))

pub add-requires : goal.add-requires
add-requires g c = event-room _ _ _ _ _ _ _ _ c.self.invariant _ c.self.view_is (Move c.args.cell c.args.from c.args.to) c.requires.can

pub invariant_of-self : goal.invariant_of-self
invariant_of-self g c =
    let a = c.args in
    let i = c.self.inside in
    let e = Move a.cell a.from a.to in
    keeps-told _ _ _ _ _ i.rows i.trace i.disks i.opened.value e i.tiles.items c.begin_move.new.self i.tiles.items c.add.new.self c.begin_move.ensures refl c.add.ensures.events
    (keeps-begin _ _ _ _ _ _ _ _ c.self.invariant a.cell a.from a.to (now-can _ _ _ _ _ _ _ _ c.self.invariant _ c.self.view_is e c.requires.can) c.add.new.self.spare c.add.ensures.room)

pub returns-clause-share : goal.returns-clause-share
returns-clause-share g c =
    let a = c.args in
    begin-share _ _ _ _ _ _ _ _ c.self.invariant a.cell a.from a.to (now-can _ _ _ _ _ _ _ _ c.self.invariant _ c.self.view_is (Move a.cell a.from a.to) c.requires.can) _ _ c.self.view_is
    (c.in_ok-share.ensures.share ∙ ap (λ (ts : List Places). tile_kept ts a.cell a.from) c.deref.ensures.value)
