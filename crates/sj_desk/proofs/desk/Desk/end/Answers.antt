use Rattle.std.proofs.Common.{◌≡◌, ◌∙◌, ℕ, ap, sym, subst}
use Rattle.std.specs.List.{AllByRecursion}
use Rattle.std.proofs.lemmas.Option.{none-some, same_Some}
use Rattle.std.proofs.lemmas.List.Elements.{All-from_recursion}
use Rattle.sj_desk.specs.Seats.{DeskFacts}
use Rattle.sj_desk.specs.Turns.{FitsOpening}
use Rattle.sj_desk.proofs.Ends.{closes_at, closed_value}
use Rattle.sj_desk.proofs.desk.Desk.end.Goals as goal

pub unreachable-requires : goal.unreachable-requires
unreachable-requires g c =
    let k = c.self.inside.table.shared.key in
    let x = closes_at g.T.Keyed.row_of (FitsOpening g.T.Keyed.key g.T.Keyed.sound) k _ _ c.self.view_is _ c.args.ticket.me _ _ c.requires.idle c.requires.all_rows c.close_with-closed.ensures.values.2 in
    none-some x.value (sym c.in_default.is ∙ closed_value g.T.Keyed.row_of (FitsOpening g.T.Keyed.key g.T.Keyed.sound) k _ _ x _ c.take.ensures.value)

pub returns-clause-key : goal.returns-clause-key
returns-clause-key g c =
    let k = c.self.inside.table.shared.key in
    let x = closes_at g.T.Keyed.row_of (FitsOpening g.T.Keyed.key g.T.Keyed.sound) k _ _ c.self.view_is _ c.args.ticket.me _ _ c.requires.idle c.requires.all_rows c.close_with-closed.ensures.values.2 in
    let e = same_Some _ _ (sym c.in-Some.is ∙ closed_value g.T.Keyed.row_of (FitsOpening g.T.Keyed.key g.T.Keyed.sound) k _ _ x _ c.take.ensures.value) in
    ap g.T.Keyed.key e ∙ x.fitting.0 ∙ ap (λ (d : DeskFacts g.row.T.Denot). g.T.Keyed.key d.opening) c.self.view_is

pub returns-clause-sound : goal.returns-clause-sound
returns-clause-sound g c =
    let k = c.self.inside.table.shared.key in
    let x = closes_at g.T.Keyed.row_of (FitsOpening g.T.Keyed.key g.T.Keyed.sound) k _ _ c.self.view_is _ c.args.ticket.me _ _ c.requires.idle c.requires.all_rows c.close_with-closed.ensures.values.2 in
    let e = same_Some _ _ (sym c.in-Some.is ∙ closed_value g.T.Keyed.row_of (FitsOpening g.T.Keyed.key g.T.Keyed.sound) k _ _ x _ c.take.ensures.value) in
    subst g.T.Keyed.sound (sym e) x.fitting.1

pub returns-clause-rows : goal.returns-clause-rows
returns-clause-rows g c =
    let k = c.self.inside.table.shared.key in
    let x = closes_at g.T.Keyed.row_of (FitsOpening g.T.Keyed.key g.T.Keyed.sound) k _ _ c.self.view_is _ c.args.ticket.me _ _ c.requires.idle c.requires.all_rows c.close_with-closed.ensures.values.2 in
    let e = same_Some _ _ (sym c.in-Some.is ∙ closed_value g.T.Keyed.row_of (FitsOpening g.T.Keyed.key g.T.Keyed.sound) k _ _ x _ c.take.ensures.value) in
    All-from_recursion (λ r. g.T.Keyed.row_of c.in-Some.value r.0 ≡ g.T.Keyed.row_of r.1 r.0) _
    (subst (λ v. AllByRecursion (λ (r : ℕ × g.row.T.Denot). g.T.Keyed.row_of v r.0 ≡ g.T.Keyed.row_of r.1 r.0) c.args.ticket.me.0.rows) (sym e) x.same)
