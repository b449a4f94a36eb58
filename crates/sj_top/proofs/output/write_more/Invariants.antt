use Rattle.std.proofs.Common.{◌≡◌, ◌++◌, ◌∷◌, take}
use Rattle.std.specs.List.{flat_map}
use Rattle.sj_top.specs.Output.{element_text}
use Rattle.sj_top.proofs.output.write_more.Given as goal

abbrev pub invariant-loop-element : goal.invariant-loop-element
invariant-loop-element l = l.text.items ≡ l.initial.text.items ++ flat_map (λ e. 32 ∷ element_text e) (take l.element-index l.elements)
