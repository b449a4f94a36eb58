-- What is taken from a source and given to a sink.
use Rattle.std.specs.Prelude.{◌≡◌, ℕ, ◌+◌, ◌≤◌, Bool, true, false, Option, Some, IfSome, Result, Err, List, take, drop, length}
use Rattle.std.specs.Io.KnownBytes.{Appends}
use Rattle.sj_job.specs.Reading.{text_limit}
use Rattle.sj_top.specs.declared.source_text.Unread.{Unread}
use Rattle.sj_top.specs.declared.source_text.Unread.TheVariants.{Fault}
use Rattle.sj_top.specs.Device.{Device}

-- the sink took a front of the text
abbrev pub TakesPrefix : Option (List ℕ) → Option (List ℕ) → List ℕ → Type 0
TakesPrefix old new text = (n : ℕ) × (n ≤ length text) × Appends old new (take n text)

-- the source was read to its end, or to the byte that makes the text too long and no further, and never failed
pub record IsRead (source source' : Device) : Type 0 where
  pub taken : IfSome source.bytes (λ text. source'.bytes ≡ Some (drop (text_limit + 1) text))
  pub never_failed : source'.faults ≡ source.faults

-- a call of the source failed
abbrev pub is_source_fault : {T : Type 0} → Result T Unread → Bool
is_source_fault (Err Fault) = true
is_source_fault _ = false
