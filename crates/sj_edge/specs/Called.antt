-- Which calls of a device in memory are refused, how many there were, and how many were refused.
use Rattle.std.specs.Prelude.{ℕ, List, Bool, Contains}
use Rattle.sj_edge.specs.Faults.{one_more, counted}

-- the numbers of the calls to refuse, from 1; the calls so far; the faults so far
pub record Called : Type 0 where
  pub fail : List ℕ
  pub calls : ℕ
  pub faults : ℕ

abbrev pub called : List ℕ → ℕ → ℕ → Called
called fail calls faults = record { fail = fail; calls = calls; faults = faults }

-- no call yet
abbrev pub uncalled : List ℕ → Called
uncalled fail = called fail 0 0

-- the number of the next call
abbrev pub next_call : Called → ℕ
next_call c = one_more c.calls

-- the next call's number is one of those to refuse
abbrev pub IsNextRefused : Called → Type 0
IsNextRefused c = Contains c.fail (next_call c)

-- c after one more call, which was a fault or wasn't
abbrev pub after_call : Called → Bool → Called
after_call c failed = called c.fail (next_call c) (counted c.faults failed)
