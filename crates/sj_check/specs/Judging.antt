-- An event that is judged: it has happened where it is legal, and else nothing has.
use Rattle.std.specs.Prelude.{◌≡◌, Bool, MatchBool}
use Rattle.sj_base.specs.declared.trace.Event.{Event}
use Rattle.sj_machine.specs.Rows.{MayHappen, Rows, has_happened}

-- the event is legal, and has happened
pub record HappensLegally (old : Rows) (e : Event) (new : Rows) : Type 0 where
  pub legal : MayHappen old e
  pub happens : new ≡ has_happened old e

-- the event isn't legal, and nothing has happened
pub record IsRefused (old : Rows) (e : Event) (new : Rows) : Type 0 where
  pub illegal : ¬ MayHappen old e
  pub nothing : new ≡ old

-- the event has happened where it is legal, and else nothing has
abbrev pub Judges : Rows → Event → Bool → Rows → Type 0
Judges old e legal new = MatchBool legal (HappensLegally old e new) (IsRefused old e new)
