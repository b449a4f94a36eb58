use Rattle.std.proofs.Common.{◌≡◌, ◌∙◌, ap, rules, subst, sym, Option}
use Rattle.std.specs.Prelude.{IfOk, IfSome, Result, Ok, Err}
use Rattle.std.specs.Result.{result_ok}
use Rattle.std.specs.declared.sync.Arc.{Arc}
use Rattle.sj_base.specs.Array.{Array}
use Rattle.sj_base.specs.declared.program.Program.{Program}
use Rattle.sj_core.specs.Program.{dims_of}
use Rattle.sj_board.specs.Tiles.{array_in}
use Rattle.sj_engine.specs.Stage.{IsFetchedThrough}
use Rattle.sj_engine.specs.Stepping.{IsUnitFor}
use Rattle.sj_engine.specs.Workplace.{board_key}
use Rattle.sj_engine.proofs.DeskTurns.{at-map}
use Rattle.sj_engine.proofs.workplace.Workplace.fetch.Goals as goal

-- what is so of an array is so of the tile that was made of it, where there was memory
made : {Z E : Type 0} (P : Array → Type 0) (a : Array) (r : Result (Arc Array Z) E) (o : Option (Arc Array Z)) → o ≡ result_ok r → IfOk r (λ t. t.value ≡ a) → P a → IfSome (array_in o) P
made {Z} {E} P a r o is ok p = subst (λ (k : Option (Arc Array Z)). IfSome (array_in k) P) (sym is) (by_result r ok)
  where
    by_result : (r : Result (Arc Array Z) E) → IfOk r (λ t. t.value ≡ a) → IfSome (array_in (result_ok r)) P
    by_result (Ok t) e = subst P (sym e) p
    by_result (Err x) e = tt

pub read_in-requires-clause-fetched : goal.read_in-requires-clause-fetched
read_in-requires-clause-fetched g c =
    let dims : c.in-Ok.tile.dims ≡ dims_of c.args.self.now.program.now c.args.x.cell = search rules in (
      c.fetch-outcome.new.tile,
      at-map (λ r. IsUnitFor (board_key c.args.self.now) c.args.self.now.worker c.args.t c.args.x r c.args.unit c.args.writes) _ (λ r u. record {
        before = c.args.unit;
        holds = u.holds;
        dims = c.fetch-outcome.ensures.dims_stay ∙ dims ∙ ap (λ (p : Program). dims_of p c.args.x.cell) (sym c.requires.workplace.workplace.program);
        whole = c.measured.ensures.whole;
        count = c.args.writes;
        counts = u.counts;
        fetches = c.fetch-outcome.ensures.fetches;
      }) c.requires.unit,
    )

pub read_in-requires-clause-tile : goal.read_in-requires-clause-tile
read_in-requires-clause-tile g c =
    let dims : c.in-Ok.tile.dims ≡ dims_of c.args.self.now.program.now c.args.x.cell = search rules in
    made _ c.fetch-outcome.new.tile c.new.result c.ok-tile.result c.ok-tile.ensures.value c.new.ensures.ok (at-map (λ r. IsUnitFor (board_key c.args.self.now) c.args.self.now.worker c.args.t c.args.x r c.args.unit c.args.writes) (λ r. IsFetchedThrough g.D.Disk.size g.D.Disk.faults g.D.Disk.mismatches g.D.Disk.held (board_key c.args.self.now) c.args.self.now.worker c.args.t c.args.x r c.fetch-outcome.new.self c.fetch-outcome.result c.fetch-outcome.new.tile) (λ r u. record {
      before = c.args.unit;
      holds = u.holds;
      dims = c.fetch-outcome.ensures.dims_stay ∙ dims ∙ ap (λ (p : Program). dims_of p c.args.x.cell) (sym c.requires.workplace.workplace.program);
      whole = c.measured.ensures.whole;
      count = c.args.writes;
      counts = u.counts;
      fetches = c.fetch-outcome.ensures.fetches;
    }) c.requires.unit)
