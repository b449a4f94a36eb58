use Rattle.sj_board.proofs.Words.{[], ap, arith, arrays, CanWorkOn, Cell, false, is_written, length, List, put_each, rules, shared, subst, sym, true, with_tiles_of, worked_on, written_among, ◌++◌, ◌<◌, ◌∙◌, ◌∷◌, ◌≡◌}
use Rattle.std.proofs.lemmas.List.{length_push}
use Rattle.sj_board.proofs.{PuttingBack.all-last, PuttingBack.at_node, PuttingBack.can_put-skip, PuttingBack.can_put-take, PuttingBack.put_back-puts, TileTables.Places}
use Rattle.sj_board.proofs.shares.+put_back.Goals as goal

pub returns-clause-tiles : goal.returns-clause-tiles
returns-clause-tiles t c =
    let p = c.args.program.now in
    let w = c.args.w in
    let before = c.in-Some.before.now in
    let last = c.in-Some.last.now in
    let x = c.take_shared.result in
    let e : c.args.accesses.now ≡ before ++ last ∷ [] = search rules in
    let h : is_written last.mode ≡ true = search rules in
    c.put_back-2.ensures.tiles ∙ ap (λ (ts : List Places). put_each c.args.n (written_among p w before) (arrays c.take_shared.new.self.slots) ts) (c.put_tile.ensures ∙ ap (λ (d : Cell). with_tiles_of c.args.tiles.now.items d (at_node c.args.n x.value)) c.worked_on-cell.ensures)
    ∙ put_back-puts p w c.args.n c.args.accesses.now before last c.args.written.now.slots c.take_shared.new.self.slots x.value c.args.tiles.now.items e c.take_shared.ensures.slots h c.requires.count

pub put_back-requires : goal.put_back-requires
put_back-requires t c =
    let e : c.args.accesses.now ≡ c.in-Some.before.now ++ c.in-Some.last.now ∷ [] = search rules in
    let h : is_written c.in-Some.last.now.mode ≡ false = search rules in
    (search rules, can_put-skip _ _ _ c.args.accesses.now c.in-Some.before.now c.in-Some.last.now _ _ e h c.requires)

pub worked_on-cell-requires : goal.worked_on-cell-requires
worked_on-cell-requires t c =
    let e : c.args.accesses.now ≡ c.in-Some.before.now ++ c.in-Some.last.now ∷ [] = search rules in
    all-last (CanWorkOn c.args.program.now c.args.w) c.args.accesses.now c.in-Some.before.now c.in-Some.last.now e c.requires.works

pub put_tile-requires-clause-cell : goal.put_tile-requires-clause-cell
put_tile-requires-clause-cell t c =
    let e : c.args.accesses.now ≡ c.in-Some.before.now ++ c.in-Some.last.now ∷ [] = search rules in
    subst (λ (d : Cell). d.0 < length c.args.tiles.now.items) (sym c.worked_on-cell.ensures) (all-last (λ a. (worked_on c.args.program.now c.args.w a).0 < length c.args.tiles.now.items) c.args.accesses.now c.in-Some.before.now c.in-Some.last.now e c.requires.cells)

pub put_back-requires-2 : goal.put_back-requires-2
put_back-requires-2 t c =
    let e : c.args.accesses.now ≡ c.in-Some.before.now ++ c.in-Some.last.now ∷ [] = search rules in
    let h : is_written c.in-Some.last.now.mode ≡ true = search rules in
    (search rules, can_put-take _ _ _ c.args.accesses.now c.in-Some.before.now c.in-Some.last.now c.args.written.now.slots c.take_shared.new.self.slots c.take_shared.result.value c.args.tiles.now.items c.put_tile.new.tiles.items c.worked_on-cell.result e h c.take_shared.ensures.slots c.worked_on-cell.ensures c.put_tile.ensures c.requires)

pub returns-clause-room : goal.returns-clause-room
returns-clause-room t c = omega (arith, c.put_back-2.ensures.room, c.take_shared.ensures.room, ap length c.take_shared.ensures.slots, length_push c.take_shared.new.self.slots (shared c.take_shared.result.value))
