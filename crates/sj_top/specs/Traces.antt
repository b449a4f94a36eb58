-- What the trace of a run says, by how the run ended.
use Rattle.std.specs.Prelude.{◌≡◌, Ok, Err, List, []}
use Rattle.sj_base.specs.declared.trace.Event.{Event}
use Rattle.sj_core.specs.Legal.{IsFinished, IsLegal}
use Rattle.sj_core.specs.Once.{EachRanOnce}
use Rattle.sj_ready.specs.Work.{Work, WorkOrRefusal, program_of}
use Rattle.sj_top.specs.Work.{Asked, Unaccepted, Untold, Told}

-- the events are a legal run of the work's program on its machine, from its start to its end, in which each task ran once
pub record RanWhole (trace : List Event) (w : Work) : Type 0 where
  pub finished : IsFinished (program_of w) w.machine trace
  pub each_once : EachRanOnce (program_of w) trace

-- the events, none maybe, begin a legal run of the work's program on its machine
abbrev pub BeganWork : List Event → Work → Type 0
BeganWork trace w = IsLegal (program_of w) w.machine trace

-- the same of work that wasn't refused; of other work there is no event
abbrev pub Began : List Event → WorkOrRefusal → Type 0
Began trace (Ok w) = BeganWork trace w
Began trace (Err e) = trace ≡ []

-- the same of what is asked for, where it is told; words that aren't accepted run nothing
abbrev pub BeganAsked : List Event → Asked → Type 0
BeganAsked trace Unaccepted = trace ≡ []
BeganAsked trace Untold = Unit {0}
BeganAsked trace (Told w) = Began trace w
