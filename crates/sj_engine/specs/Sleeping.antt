-- What is known of the notes of those that rest, without a look at them.
use Rattle.std.specs.Prelude.{◌≡◌, Bool, false, is_some}
use Rattle.std.specs.List.{list_any}
use Rattle.sj_engine.specs.Resting.{RestNotes}

-- where it is said that nobody rests, nobody does
abbrev pub KnowsWhereNobodyRests : Bool → RestNotes → Type 0
KnowsWhereNobodyRests somebody notes = somebody ≡ false → list_any is_some notes ≡ false
