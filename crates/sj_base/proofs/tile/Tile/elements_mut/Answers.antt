use Rattle.std.proofs.Common.{ap, refl, ◌∙◌, length, take, drop, ◌++◌}
use Rattle.sj_base.specs.Array.{Array, array}
use Rattle.sj_base.specs.Lending.{written_over}
use Rattle.sj_base.proofs.tile.Tile.elements_mut.Goals as goal

pub returns : goal.returns
returns c = (
  (refl, λ w. ap (λ n. array c.self.inside.dims (take n (w ++ drop (length w) c.self.inside.elements.items))) c.self.inside.elements.ok.0 ∙ ap (λ (a : Array). written_over a w) c.self.view_is),
  record { writes_back = tt; elements = c.as_mut_slice.ensures.value ∙ ap (λ (a : Array). a.elements) c.self.view_is },
)
