use Rattle.sj_board.proofs.Words.{AnotherGoesOn, AnotherHasUnit, board_state, BoardState, CanBegin, hand_of, HasDiskIn, IsCounted, IsMoverOf, IsTodoOf, IsWorking, None, RunsNone, state, subst, sym, transfer_of, ◌≡◌, ◌⊎◌}
use Rattle.sj_board.proofs.{NextBoards.hand-read, NextBoards.next-can, NextBoards.next-ends, NextBoards.next-mover, WaitsOut.step-can, WaitsOut.step-counted, WaitsOut.step-ends, WaitsOut.step-in, WaitsOut.step-mover, WaitsOut.step-todo}
use Rattle.sj_board.proofs.board.Board.plan_of.Goals as goal

pub returns-in-Some-clause-todo : goal.returns-in-Some-clause-todo
returns-in-Some-clause-todo g c =
    let works = subst (λ (b : BoardState _). IsWorking b c.args.w) (sym c.self.view_is) c.requires.works in
    let has = hand-read _ _ _ _ _ _ c.self.invariant.board c.args.w works c.index.result.now _ c.index.ensures c.in-Some.t c.in-Some.is in
    subst (λ (b : BoardState _). IsTodoOf b c.args.w c.unless_out.result) c.self.view_is (step-todo (let i = c.self.inside in board_state i.run i.hands.items i.pool i.fault i.delivered.pairs) c.args.w c.in-Some.t has c.next_step-first.result c.unless_out.result c.next_step-first.ensures c.unless_out.ensures)

pub returns-in-Some-clause-can : goal.returns-in-Some-clause-can
returns-in-Some-clause-can g c =
    let runs_none = subst (λ (b : BoardState _). RunsNone b c.args.w) (sym c.self.view_is) c.requires.runs_none in
    let moves_none = subst (λ (b : BoardState _). transfer_of b c.args.w ≡ None) (sym c.self.view_is) c.requires.moves_none in
    let works = subst (λ (b : BoardState _). IsWorking b c.args.w) (sym c.self.view_is) c.requires.works in
    let has = hand-read _ _ _ _ _ _ c.self.invariant.board c.args.w works c.index.result.now _ c.index.ensures c.in-Some.t c.in-Some.is in
    subst (λ (b : BoardState _). CanBegin b c.args.w c.unless_out.result) c.self.view_is (step-can (let i = c.self.inside in board_state i.run i.hands.items i.pool i.fault i.delivered.pairs) c.args.w c.in-Some.t has c.next_step-first.result c.unless_out.result c.next_step-first.ensures c.unless_out.ensures
    (next-can _ _ _ _ _ _ c.self.invariant.board _ c.is_sound.ensures c.args.w runs_none moves_none c.in-Some.t has c.next_step-first.result c.next_step-first.ensures))

pub returns-in-Some-clause-mover : goal.returns-in-Some-clause-mover
returns-in-Some-clause-mover g c =
    let runs_none = subst (λ (b : BoardState _). RunsNone b c.args.w) (sym c.self.view_is) c.requires.runs_none in
    let moves_none = subst (λ (b : BoardState _). transfer_of b c.args.w ≡ None) (sym c.self.view_is) c.requires.moves_none in
    let works = subst (λ (b : BoardState _). IsWorking b c.args.w) (sym c.self.view_is) c.requires.works in
    let has = hand-read _ _ _ _ _ _ c.self.invariant.board c.args.w works c.index.result.now _ c.index.ensures c.in-Some.t c.in-Some.is in
    subst (λ (b : BoardState _). IsMoverOf b c.args.w c.unless_out.result) c.self.view_is (step-mover (let i = c.self.inside in board_state i.run i.hands.items i.pool i.fault i.delivered.pairs) c.args.w c.in-Some.t has c.next_step-first.result c.unless_out.result c.next_step-first.ensures c.unless_out.ensures
    (next-mover _ _ _ _ _ _ c.self.invariant.board _ c.is_sound.ensures c.args.w runs_none moves_none c.in-Some.t has c.next_step-first.result c.next_step-first.ensures))

pub returns-in-Some-clause-disk_in : goal.returns-in-Some-clause-disk_in
returns-in-Some-clause-disk_in g c =
    let works = subst (λ (b : BoardState _). IsWorking b c.args.w) (sym c.self.view_is) c.requires.works in
    let has = hand-read _ _ _ _ _ _ c.self.invariant.board c.args.w works c.index.result.now _ c.index.ensures c.in-Some.t c.in-Some.is in
    subst (λ (b : BoardState _). HasDiskIn b c.unless_out.result) c.self.view_is (step-in (let i = c.self.inside in board_state i.run i.hands.items i.pool i.fault i.delivered.pairs) c.args.w c.in-Some.t has c.next_step-first.result c.unless_out.result c.next_step-first.ensures c.unless_out.ensures)

pub returns-in-Some-clause-counted : goal.returns-in-Some-clause-counted
returns-in-Some-clause-counted g c =
    let works = subst (λ (b : BoardState _). IsWorking b c.args.w) (sym c.self.view_is) c.requires.works in
    let has = hand-read _ _ _ _ _ _ c.self.invariant.board c.args.w works c.index.result.now _ c.index.ensures c.in-Some.t c.in-Some.is in
    subst (λ (b : BoardState _). IsCounted b c.unless_out.result) c.self.view_is (step-counted (let i = c.self.inside in board_state i.run i.hands.items i.pool i.fault i.delivered.pairs) c.args.w c.in-Some.t has c.next_step-first.result c.unless_out.result c.next_step-first.ensures c.unless_out.ensures)

pub returns-in-Some-clause-ends : goal.returns-in-Some-clause-ends
returns-in-Some-clause-ends g c =
    let runs_none = subst (λ (b : BoardState _). RunsNone b c.args.w) (sym c.self.view_is) c.requires.runs_none in
    let moves_none = subst (λ (b : BoardState _). transfer_of b c.args.w ≡ None) (sym c.self.view_is) c.requires.moves_none in
    let works = subst (λ (b : BoardState _). IsWorking b c.args.w) (sym c.self.view_is) c.requires.works in
    let has = hand-read _ _ _ _ _ _ c.self.invariant.board c.args.w works c.index.result.now _ c.index.ensures c.in-Some.t c.in-Some.is in
    λ waits none. subst (λ (b : BoardState _). AnotherHasUnit b c.args.w ⊎ AnotherGoesOn b.run.program b.run.machine (state b.run) c.args.w) c.self.view_is
    (step-ends (let i = c.self.inside in board_state i.run i.hands.items i.pool i.fault i.delivered.pairs) c.args.w c.in-Some.t has c.next_step-first.result c.unless_out.result c.next_step-first.ensures c.unless_out.ensures c.self.invariant.units (subst (λ (b : BoardState _). (hand_of b c.args.w).unit ≡ None) (sym c.self.view_is) none)
    (next-ends _ _ _ _ _ _ c.self.invariant.board _ c.is_sound.ensures c.args.w runs_none moves_none c.in-Some.t has c.next_step-first.result c.next_step-first.ensures) waits)
