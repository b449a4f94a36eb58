use Rattle.std.proofs.Common.{◌≡◌, ◌∙◌, ◌++◌, ◌∷◌, [], ap, map, subst}
use Rattle.sj_base.specs.declared.mode.Access.{Access}
use Rattle.sj_base.specs.declared.program.Program.{Program}
use Rattle.sj_base.specs.Array.{Array}
use Rattle.sj_codelet.specs.Frame.{Frame, shared}
use Rattle.sj_core.specs.Program.{dims_of, task_of, written_operands}
use Rattle.sj_board.specs.Board.{BoardState, released_of}
use Rattle.board_tests.proofs.Ending.{results-for}
use Rattle.board_tests.proofs.steps.ended.Goals as goal

pub end-requires-clause-written : goal.end-requires-clause-written
end-requires-clause-written g c =
    let tile = c.in_ok-tile.tile.value in
    results-for g.D.Disk.held c.args.board.now c.run.new.self c.args.w c.args.t c.in_ok-_shares.ensures.ok c.in-Some.dims tile c.push_shared.new.self.slots
    (subst (λ (p : Program). map (λ (a : Access). dims_of p a.cell) (written_operands (task_of p c.args.t)) ≡ c.in-Some.dims ∷ []) c.program.ensures c.in-Some.ensures.writes_one)
    (c.push_shared.ensures.slots ∙ ap (λ (f : Frame). f.slots ++ shared tile ∷ []) c.in_ok-results.ensures) (ap (λ (a : Array). a.dims) (c.in_ok-tile.ensures.ok ∙ c.in_ok-zeros.ensures)) c.requires.silent

pub end-requires-clause-taken : goal.end-requires-clause-taken
end-requires-clause-taken g c = ap (λ (k : BoardState _). released_of k c.args.w) c.in_ok-_shares.ensures.ok ∙ c.requires.taken
