-- A fault that is kept has its cause still where disks were used: their counts never fall.
use Rattle.sj_board.proofs.Words.{AllZip, AreGivenBack, arith, Bool, Damaged, DiskFault, DiskState, Equations, HasCause, HasRisen, IfSome, IsGivenBack, IsSomeAnd, List, MatchOption, None, Option, OutOfMemory, Rose, RunFault, slice_get, Some, StandingBy, ℕ, ◌≤◌}
use Rattle.std.proofs.lemmas.{Option.IfSome_then, Slice.Zip.AllZip-left}
use Rattle.sj_board.proofs.Keeping.{IsSomeAnd-map}

-- a count that rose and never falls is above still
risen-more : (n x y : ℕ) → Rose n x → x ≤ y → Rose n y
risen-more n x y rose grew below = let last = rose (omega (arith, grew, below)) in (last.0, omega (arith, last.0, last.1, grew, below))

above : {D : Type 0} (count : D → ℕ) (n : ℕ) (Q : D → D → Type 0) (o o' : Option D) → ((y z : D) → Q y z → count y ≤ count z) → IsSomeAnd o (λ y. Rose n (count y)) → MatchOption o (Unit {0}) (λ y. IsSomeAnd o' (Q y)) → IsSomeAnd o' (λ z. Rose n (count z))
above count n Q None o' grows h back = absurd h
above count n Q (Some y) None grows h back = absurd back
above count n Q (Some y) (Some z) grows h back = risen-more n (count y) (count z) h (grows y z back)

-- a count that has risen is still above where it was
pub risen-kept : {D : Type 0} (count : D → ℕ) (Q : D → D → Type 0) (opened old new : List D) (d : ℕ) → ((y z : D) → Q y z → count y ≤ count z) → AllZip Q old new → HasRisen count opened old d → HasRisen count opened new d
risen-kept count Q opened old new d grows back =
    IsSomeAnd-map (λ x. IsSomeAnd (slice_get old d) (λ y. Rose (count x) (count y))) (λ x. IsSomeAnd (slice_get new d) (λ y. Rose (count x) (count y)))
    (λ x h. above count (count x) Q (slice_get old d) (slice_get new d) grows h (AllZip-left Q old new back d)) (slice_get opened d)

module _ {D : Type 0} {eq : Equations} (size faults mismatches : D → ℕ) (held : D → Option (List ℕ)) (b : StandingBy eq D) (disks : DiskState D) (out : List Bool) (back : AreGivenBack size faults mismatches held b.disks.disks disks.disks) where
  pub cause-kept : (fault : RunFault) → HasCause faults mismatches held b fault → HasCause faults mismatches held (record b { disks = disks; out = out }) fault
  cause-kept (DiskFault d) risen = risen-kept faults (IsGivenBack size faults mismatches held) b.opened b.disks.disks disks.disks d.0 (λ y z given. given.faults_never_fall) back risen
  cause-kept (Damaged d want found) (risen, differ, untold, last) = (risen-kept mismatches (IsGivenBack size faults mismatches held) b.opened b.disks.disks disks.disks d.0 (λ y z given. given.mismatches_never_fall) back risen, differ, untold, last)
  cause-kept OutOfMemory h = h

  pub kept-cause : (fault : Option RunFault) → IfSome fault (HasCause faults mismatches held b) → IfSome fault (HasCause faults mismatches held (record b { disks = disks; out = out }))
  kept-cause fault had = IfSome_then fault had cause-kept
