-- The reader's names agree with the state that the statements so far leave.
use Rattle.std.specs.Prelude.{◌≡◌, ℕ, Option, Some, None, List, length}
use Rattle.std.specs.List.{list_any}
use Rattle.std.specs.Str.{bytes_eq}
use Rattle.sj_base.specs.declared.tile.Dims.{Dims}
use Rattle.sj_base.specs.declared.mode.Reduction.{Reduction}
use Rattle.sj_job.specs.declared.names.Names.{Names}
use Rattle.sj_job.specs.declared.names.RootStanding.{RootStanding}
use Rattle.sj_job.specs.declared.names.RootStanding.TheVariants.{Live, Ended}
use Rattle.sj_meaning.specs.State.{RootState, JobState, root_of}
use Rattle.sj_job.specs.Track.{Track, Tracks}
use Rattle.sj_job.specs.Names.{Found, HasStandings, ended_in, found_in}

-- a root of these dimensions with this track and this reduction
pub record IsTracked (d : Dims) (t : Track) (by : Option Reduction) (o : Option RootState) : Type 0 where
  pub root : RootState
  pub there : o ≡ Some root
  pub dims : root.dims ≡ d
  pub reduction : root.reduction ≡ by
  pub tracks : Tracks t root

-- how it stands with a name is so of its root
abbrev pub StandsFor : Dims → RootStanding → Option RootState → Type 0
StandsFor d (Live t by) o = IsTracked d t by o
StandsFor d Ended o = o ≡ None

abbrev pub IsFound : Option Found → Option RootState → Type 0
IsFound None o = o ≡ None
IsFound (Some f) o = StandsFor f.dims f.standing o

-- what is known of the names is so in the state
pub record Shows (names : Names) (S : JobState) : Type 0 where
  pub counted : HasStandings names
  pub registered : length names.roots.names ≡ S.registered
  pub ended : (q : List ℕ) → ended_in names q ≡ list_any (bytes_eq q) S.ended
  pub found : (q : List ℕ) → IsFound (found_in names q) (root_of S q)

pub record Sees (names : Names) (n : ℕ) (S : JobState) : Type 0 where
  pub statements : names.statements ≡ n
  pub shows : Shows names S
