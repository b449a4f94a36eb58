use Rattle.sj_board.proofs.Words.{ap, Array, List, Option, Some, with_tile, ◌∙◌}
use Rattle.sj_board.proofs.LoanedTiles.{refill-put}
use Rattle.sj_board.proofs.tiles.CellTiles.put.Goals as goal

pub returns : goal.returns
returns c = refill-put c.self.inside.places.items c.deref_mut.result.now c.args.n.0 (Some c.args.tile) c.deref_mut.ensures.value ∙ ap (λ (places : List (Option Array)). with_tile places c.args.n (Some c.args.tile.value)) c.self.view_is
