use Rattle.std.proofs.Common.{◌≡◌, ◌+◌, sym, ap, ◌∙◌, List, map, get_or, drop}
use Rattle.std.proofs.lemmas.List.{at_drop_more}
use Rattle.sj_base.specs.declared.program.Delivery.{Delivery}
use Rattle.sj_base.specs.Array.{Array}
use Rattle.sj_plan.specs.declared.rect.Rect.{Rect}
use Rattle.sj_plan.specs.Window.{gathered, with_window}
use Rattle.sj_top.specs.Gathering.{array_found, no_delivery, part_by, rect_at}
use Rattle.sj_top.proofs.gathering.put_in_place.Goals as goal

pub loop-delivery-preserved : goal.loop-delivery-preserved
loop-delivery-preserved c =
    let arrays = array_found c.args.handed.now in
    let ds = c.args.deliveries.now in
    let i = c.loop-delivery.delivery-index in
    let d = get_or ds i no_delivery in
    let tile = c.loop-delivery.tile in
    let child = c.tile-child.result.now in
    let rest = λ (t : Array) (es : List Delivery). gathered t (map (part_by arrays) es) in
    let put : c.gather.new.into ≡ with_window tile (rect_at d child.dims) child = c.gather.ensures.with_window ∙ ap (λ (r : Rect). with_window tile r child) (c.rect_of.ensures ∙ ap (rect_at d) c.dims.ensures.dims) in
    record {
      dims = ap (λ (a : Array). a.dims) put ∙ c.loop-delivery.invariant.dims;
      rest = ap (λ (t : Array). rest t (drop (i + 1) ds)) (put ∙ ap (λ (a : Array). with_window tile (rect_at d a.dims) a) c.tile-child.ensures) ∙ sym (at_drop_more (rest tile) ds i no_delivery c.loop-delivery-test.true) ∙ c.loop-delivery.invariant.rest;
    }
