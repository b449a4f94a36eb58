-- A unit that is taken out, used and put back at once.
use Rattle.std.proofs.Common.{◌≡◌, ℕ, true, false, ℤ, List, refl, ap, ◌∙◌, subst, Bool, Option, Some, None, Result}
use Rattle.std.specs.Prelude.{slice_set, IfNone, IfSome, IsSome, IsSomeAnd}
use Rattle.sj_base.specs.declared.ids.Cell.{Cell}
use Rattle.sj_base.specs.declared.ids.DiskNo.{DiskNo}
use Rattle.sj_base.proofs.Options.{IfSome-from}
use Rattle.sj_disk.specs.declared.directory.Extent.{Extent}
use Rattle.sj_disk.specs.declared.refusal.DiskRefusal.{DiskRefusal}
use Rattle.sj_disk.specs.Calls.{Fetches, Stores}
use Rattle.sj_disk.specs.Directory.{DiskState, extent_of}
use Rattle.sj_disk.specs.Lending.{ComesFrom, HasFetched, HasStored, IsInFor, IsOutFor, LendingState, TakesOut, has_back}
use Rattle.sj_disk.specs.Rack.{is_out}
use Rattle.sj_disk.specs.Units.{IsWorkedOn, UnitFetches, UnitState, UnitStores}
use Rattle.sj_disk.proofs.Racking.{out_and_in}

clash : (o : Option Extent) (out : List Bool) → IfSome o (λ e. is_out out e.disk.0 ≡ false) → IsSomeAnd o (λ e. is_out out e.disk.0 ≡ true) → ⊥
clash None out h k = k
clash (Some e) out h k = cc

-- a disk that is in is given
pub is-given : {D : Type 0} (s s' : LendingState D) (c : ℕ) (o : Option (UnitState D)) → IsInFor s c → IfNone o (IsOutFor s c × (s' ≡ s)) → IsSome o
is-given s s' c None is_in h = absurd (clash (extent_of s.set.directory c) s.out is_in h.0)
is-given s s' c (Some u) is_in h = refl

module _ {D : Type 0} (size faults mismatches : D → ℕ) (held : D → Option (List ℕ)) (s s' : LendingState D) (c : Cell) (u : UnitState D) (t : TakesOut c u s s') where
  same-set : s'.set ≡ s.set
  same-set = ap (λ (x : LendingState D). x.set) t.nothing_else

  pub its-extent : extent_of s.set.directory c.0 ≡ Some u.extent
  its-extent = subst (λ (x : DiskState D). extent_of x.directory c.0 ≡ Some u.extent) same-set (subst (λ (q : Cell). extent_of s'.set.directory q.0 ≡ Some u.extent) t.of_the_cell t.taken.its_extent)

  pub comes-from : (v : UnitState D) → IsWorkedOn size faults mismatches held u v → ComesFrom size faults mismatches held s' v
  comes-from v worked = record { before = u; taken = t.taken; worked = worked }

  pub back-stored : (v : UnitState D) (s'' : LendingState D) (writes : ℕ) (xs : List ℤ) (r : Result (Unit {0}) DiskRefusal) → UnitStores size faults mismatches held writes xs r u v → HasStored size faults mismatches held v s' s'' → IfSome (extent_of s.set.directory c.0) (Stores size faults mismatches held c.0 writes xs r s.set s''.set)
  back-stored v s'' writes xs r stores has =
      let there : Stores size faults mismatches held u.cell.0 writes xs r s'.set s''.set u.extent = has u writes xs r t.taken stores in
      let here : Stores size faults mismatches held c.0 writes xs r s.set s''.set u.extent =
      subst (λ (x : DiskState D). Stores size faults mismatches held c.0 writes xs r x s''.set u.extent) same-set (subst (λ (q : Cell). Stores size faults mismatches held q.0 writes xs r s'.set s''.set u.extent) t.of_the_cell there) in
      IfSome-from (Stores size faults mismatches held c.0 writes xs r s.set s''.set) (extent_of s.set.directory c.0) u.extent its-extent here

  pub back-fetched : (v : UnitState D) (s'' : LendingState D) (writes : ℕ) (xs : List ℤ) (r : Result (Unit {0}) DiskRefusal) → UnitFetches size faults mismatches held writes xs r u v → HasFetched size faults mismatches held v s' s'' → IfSome (extent_of s.set.directory c.0) (Fetches size faults mismatches held c.0 writes xs r s.set s''.set)
  back-fetched v s'' writes xs r fetches has =
      let there : Fetches size faults mismatches held u.cell.0 writes xs r s'.set s''.set u.extent = has u writes xs r t.taken fetches in
      let here : Fetches size faults mismatches held c.0 writes xs r s.set s''.set u.extent =
      subst (λ (x : DiskState D). Fetches size faults mismatches held c.0 writes xs r x s''.set u.extent) same-set (subst (λ (q : Cell). Fetches size faults mismatches held q.0 writes xs r s'.set s''.set u.extent) t.of_the_cell there) in
      IfSome-from (Fetches size faults mismatches held c.0 writes xs r s.set s''.set) (extent_of s.set.directory c.0) u.extent its-extent here

  -- the disk is in again
  pub out-stays : (v : UnitState D) (s'' : LendingState D) → IsWorkedOn size faults mismatches held u v → s'' ≡ has_back s' v → s''.out ≡ s.out
  out-stays v s'' worked back =
      ap (λ (x : LendingState D). x.out) back
      ∙ ap (λ (d : DiskNo). slice_set s'.out d.0 false) worked.disk_number_stays
      ∙ ap (λ (x : LendingState D). slice_set x.out u.extent.disk.0 false) t.nothing_else
      ∙ out_and_in s.out u.extent.disk.0 t.was_in
