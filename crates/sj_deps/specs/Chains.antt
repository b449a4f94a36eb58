-- The accesses to one cell in order, and the runs among them that don't conflict.
use Rattle.std.specs.Prelude.{◌≡◌, ℕ, ◌+◌, ◌-◌, ◌<◌, ◌≤◌, ◌==◌, Bool, true, false, ◌&&◌, List, [], ◌∷◌, ◌++◌, length, drop, count_by, nat_eq, nat_lt, min, if◌then◌else◌}
use Rattle.std.specs.List.{slice_index_or, sum_by}
use Rattle.sj_deps.specs.declared.manner.Manner.{Manner}
use Rattle.sj_deps.specs.declared.manner.Manner.TheVariants.{Read, Write, Commute, Contribute}
use Rattle.sj_deps.specs.declared.chain.Chain.{Chain}
use Rattle.sj_deps.specs.declared.chain.Member.{Member}

-- an access in the first manner may be followed by one in the second in one run
abbrev pub joins : Manner → Manner → Bool
joins Read Read = true
joins Read Write = false
joins Read (Commute k) = false
joins Read Contribute = false
joins Write n = false
joins (Commute k) Read = false
joins (Commute k) Write = false
joins (Commute k) (Commute l) = nat_eq k.0 l.0
joins (Commute k) Contribute = false
joins Contribute Read = false
joins Contribute Write = false
joins Contribute (Commute k) = false
joins Contribute Contribute = true

abbrev pub member : ℕ → Manner → Member
member n m = record { party = n; manner = m }

abbrev pub no_member : Member
no_member = member 0 Read

abbrev pub no_chain : Chain
no_chain = record { members = []; released = 0; finished = 0 }

abbrev pub member_at : List Member → ℕ → Member
member_at ms p = slice_index_or ms p no_member

abbrev pub party_at : List Member → ℕ → ℕ
party_at ms p = (member_at ms p).party

abbrev pub manner_at : List Member → ℕ → Manner
manner_at ms p = (member_at ms p).manner

abbrev pub chain_at : List Chain → ℕ → Chain
chain_at chains c = slice_index_or chains c no_chain

abbrev pub members_at : List Chain → ℕ → List Member
members_at chains c = (chain_at chains c).members

-- the access after place p is in the run of the one at p
abbrev pub joined : List Member → ℕ → Bool
joined ms p = joins (manner_at ms p) (manner_at ms (p + 1))

abbrev pub is_of : ℕ → Member → Bool
is_of n m = nat_eq m.party n

-- how many accesses of party n from place p on there are
abbrev pub left_from : List Member → ℕ → ℕ → ℕ
left_from ms p n = count_by (is_of n) (drop p ms)

-- how many of its accesses may not begin yet
abbrev pub wanted : List Chain → ℕ → ℕ
wanted chains n = sum_by (λ ch. left_from ch.members ch.released n) chains

-- how many tasks of a party aren't done
abbrev pub left_of : List ℕ → ℕ → ℕ
left_of left n = slice_index_or left n 1

abbrev pub is_member_done : List ℕ → Member → Bool
is_member_done left m = nat_eq (left_of left m.party) 0

-- the counts of one chain fit the parties that are done, but for so many of the open accesses, which are done and not yet counted
pub record CountsChain (left : List ℕ) (ch : Chain) (uncounted : ℕ) : Type 0 where
  pub within : ch.released ≤ length ch.members
  pub counted : ch.finished + uncounted ≡ count_by (is_member_done left) ch.members
  pub later : (p : ℕ) → ch.released ≤ p → p < length ch.members → is_member_done left (member_at ch.members p) ≡ false
  pub earlier : (p q : ℕ) → p + 1 < ch.released → joined ch.members p ≡ false → q ≤ p → is_member_done left (member_at ch.members q) ≡ true
  pub boundary : (p : ℕ) → p + 1 ≡ ch.released → ch.released < length ch.members → joined ch.members p ≡ false
  pub waiting : ch.released < length ch.members → ch.finished < ch.released

-- places first to last - 1 are one run, which is as long as it can be after first
pub record IsLongestRun (ms : List Member) (first last : ℕ) : Type 0 where
  pub grows : first ≤ last
  pub within : last ≤ length ms
  pub some : first < length ms → first < last
  pub one_run : (p : ℕ) → first ≤ p → p + 1 < last → joined ms p ≡ true
  pub whole : (p : ℕ) → p + 1 ≡ last → last < length ms → joined ms p ≡ false

-- the access x would be in the last run of the chain, or the first of all
abbrev pub joins_last : List Member → Member → Bool
joins_last ms x = if length ms == 0 then true else joins (manner_at ms (length ms - 1)) x.manner

-- x is appended, and may begin at once where all are released and it joins the last run
pub record Pushes (old new : Chain) (x : Member) (b : Bool) : Type 0 where
  pub members : new.members ≡ old.members ++ x ∷ []
  pub finished : new.finished ≡ old.finished
  pub released : new.released ≡ (if b then old.released + 1 else old.released)
  pub at_once : b ≡ (old.released == length old.members && joins_last old.members x)

-- one access more is finished; where it was the last of the released ones, the next run is released
pub record Finishes (old new : Chain) : Type 0 where
  pub members : new.members ≡ old.members
  pub finished : new.finished ≡ old.finished + 1
  pub stays : old.finished + 1 < old.released → new.released ≡ old.released
  pub moves : old.finished + 1 ≡ old.released → IsLongestRun old.members old.released new.released

abbrev pub waits_of : List ℕ → ℕ → ℕ
waits_of waits n = slice_index_or waits n 0

abbrev pub is_party : ℕ → ℕ → Bool
is_party n x = nat_eq x n

-- the accesses at places first to last - 1 take one wait each of their parties; those that wait no more are appended
pub record TakesWaits (w w' : List ℕ) (r r' : List ℕ) (ms : List Member) (first last : ℕ) : Type 0 where
  pub waits : (n : ℕ) → waits_of w' n + left_from ms first n ≡ waits_of w n + left_from ms last n
  pub len : length w' ≡ length w
  pub opened : (n : ℕ) → count_by (is_party n) r' + min 1 (waits_of w' n) ≡ count_by (is_party n) r + min 1 (waits_of w n)
  pub total : length r' + count_by (nat_lt 0) w' ≡ length r + count_by (nat_lt 0) w
