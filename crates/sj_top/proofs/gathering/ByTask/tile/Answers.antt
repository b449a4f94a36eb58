use Rattle.std.proofs.Common.{rules, sym, ap, ◌∙◌, subst}
use Rattle.std.specs.Prelude.{Contains}
use Rattle.std.proofs.lemmas.List.{get_or_read}
use Rattle.sj_top.specs.Gathering.{HandedArrays, array_found}
use Rattle.sj_top.proofs.Finding.{array-at, at-place, finds-delivery, place-inside}
use Rattle.sj_top.proofs.gathering.ByTask.tile.Goals as goal

pub index-requires : goal.index-requires
index-requires c =
    let d = c.args.delivery.now in
    let has = subst (λ (h : HandedArrays). Contains h.program.deliveries d) (sym c.self.view_is) c.requires in
    let found = finds-delivery c.self.inside.program.now c.self.inside.places.items c.self.inside.delivered.now.pairs d c.self.invariant.0 c.self.invariant.1 has in
    let inside = found.0 in
    search rules

pub tile-requires : goal.tile-requires
tile-requires c =
    let d = c.args.delivery.now in
    let has = subst (λ (h : HandedArrays). Contains h.program.deliveries d) (sym c.self.view_is) c.requires in
    let found = finds-delivery c.self.inside.program.now c.self.inside.places.items c.self.inside.delivered.now.pairs d c.self.invariant.0 c.self.invariant.1 has in
    let place = get_or_read c.self.inside.places.items d.task.0 c.index.result.now found.0 c.index.ensures 0 in
    place-inside c.self.inside.delivered.now.pairs c.index.result.now d.task (at-place c.self.inside.places.items c.self.inside.delivered.now.pairs d.task c.index.result.now place found)

pub returns : goal.returns
returns c =
    let d = c.args.delivery.now in
    let has = subst (λ (h : HandedArrays). Contains h.program.deliveries d) (sym c.self.view_is) c.requires in
    let found = finds-delivery c.self.inside.program.now c.self.inside.places.items c.self.inside.delivered.now.pairs d c.self.invariant.0 c.self.invariant.1 has in
    let place = get_or_read c.self.inside.places.items d.task.0 c.index.result.now found.0 c.index.ensures 0 in
    array-at (record { program = c.self.inside.program.now; places = c.self.inside.places.items; pairs = c.self.inside.delivered.now.pairs }) c.index.result.now d.task c.tile.result.now place c.tile.ensures
    ∙ ap (λ (h : HandedArrays). array_found h d.task) c.self.view_is
