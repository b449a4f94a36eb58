use Rattle.std.proofs.Common.{◌≡◌, length, take}
use Rattle.std.specs.Prelude.{All}
use Rattle.sj_top.specs.Gathering.{FindsPair}
use Rattle.sj_top.proofs.gathering.places_of.Given as goal

-- what was handed over so far is found
abbrev pub invariant-loop-i : goal.invariant-loop-i
invariant-loop-i l = record {
  places : length l.places.items ≡ l.tasks;
  found : All (λ pair. FindsPair l.places.items l.delivered.pairs pair.0) (take l.i l.delivered.pairs);
}
