use Rattle.std.proofs.Common.{rules, ◌∙◌, ap, sym, refl, subst, arith}
use Rattle.sj_desk.specs.Seats.{DeskFacts}
use Rattle.sj_desk.specs.Turns.{FitsOpening}
use Rattle.sj_desk.proofs.Ends.{fills_at, filled_in, opens_at, opened_in}
use Rattle.sj_desk.proofs.desk.Desk.fill.Goals as goal

pub load-requires : goal.load-requires
load-requires g c =
    (search rules, omega (arith, c.self.invariant.0), fills_at g.T.Keyed.row_of (FitsOpening g.T.Keyed.key g.T.Keyed.sound) c.self.inside.table.shared.key _ _ c.self.view_is _ _ _ c.self.invariant.1 c.requires.id c.requires.first)

pub store-requires : goal.store-requires
store-requires g c =
    let k = c.self.inside.table.shared.key in
    let value = c.requires.opening ∙ ap (λ (d : DeskFacts g.row.T.Denot). d.opening) (sym c.self.view_is) in
    let fit = subst g.T.Keyed.sound value c.requires.sound in (
      search rules,
      omega (arith, c.self.invariant.0),
      opens_at g.T.Keyed.row_of (FitsOpening g.T.Keyed.key g.T.Keyed.sound) k _ _ c.self.view_is _ _ _ c.self.invariant.1 (c.exchange-out.ensures.1 ∙ c.load.ensures.1 ∙ c.requires.id) (refl, fit)
          (filled_in g.T.Keyed.row_of (FitsOpening g.T.Keyed.key g.T.Keyed.sound) k _ _ c.self.view_is c.args.value _ _ _ c.requires.first c.load.ensures.2 c.exchange-out.ensures.3 c.requires.opening),
    )

pub returns-clause-dealer : goal.returns-clause-dealer
returns-clause-dealer g c =
    let k = c.self.inside.table.shared.key in
    opened_in g.T.Keyed.row_of (FitsOpening g.T.Keyed.key g.T.Keyed.sound) k _ _ c.self.view_is _ _
    (filled_in g.T.Keyed.row_of (FitsOpening g.T.Keyed.key g.T.Keyed.sound) k _ _ c.self.view_is c.args.value _ _ _ c.requires.first c.load.ensures.2 c.exchange-out.ensures.3 c.requires.opening)
    c.store.ensures.2
