use Rattle.std.proofs.Common.{◌≡◌, ◌++◌, ◌∷◌, take}
use Rattle.std.specs.List.{flat_map}
use Rattle.sj_show.specs.Words.{integer_word}
use Rattle.sj_show.proofs.words.write_integers.Given as goal

abbrev pub invariant-loop-value : goal.invariant-loop-value
invariant-loop-value l = l.text.items ≡ l.initial.text.items ++ flat_map (λ z. l.before ∷ integer_word z) (take l.value-index l.values)
