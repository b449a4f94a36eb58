-- What a store and a fetch do to a set of disks. The four functions are the members `size`, `faults`,
-- `mismatches` and `held` of the disks' type; e is the extent of the cell.
use Rattle.std.specs.Prelude.{◌≡◌, ◌≢◌, ℕ, ◌+◌, map, ℤ, List, length, Option, Some, All, IfErr, OnOk, Result, false, is_ok}
use Rattle.std.specs.List.{slice_index_or, slice_set}
use Rattle.std.specs.Prelude.{FitsSigned}
use Rattle.std.specs.Int.{w64}
use Rattle.sj_base.specs.declared.ids.DiskNo.{DiskNo}
use Rattle.sj_edge.specs.GivenBack.{AreGivenBack}
use Rattle.sj_disk.specs.declared.directory.Extent.{Extent}
use Rattle.sj_disk.specs.declared.refusal.DiskRefusal.{DiskRefusal}
use Rattle.sj_disk.specs.declared.refusal.DiskRefusal.TheVariants.{DiskFault}
use Rattle.sj_disk.specs.Block.{block, block_bytes, header}
use Rattle.sj_disk.specs.Directory.{DiskState, extent_at, extent_of, first_fit, with_store}
use Rattle.sj_disk.specs.Holding.{ChangesAt, CountsStay, Holds, KeepsBlock, TellsBytes}
use Rattle.sj_disk.specs.Refusals.{is_damage, is_fault, RefusesFor}
use Rattle.sj_disk.specs.Transfers.{Looks, Writes}

-- the block of a cell: on the first disk that fits so many elements, behind what is taken there
pub record Reserves {D : Type 0} (size : D → ℕ) (c n : ℕ) (d : DiskNo) (old new : DiskState D) : Type 0 where
  pub on_the_first_that_fits : first_fit (map size old.disks) old.taken (block_bytes n) ≡ Some d.0
  pub behind_what_is_taken : extent_of new.directory c ≡ Some (extent_at d.0 (slice_index_or old.taken d.0 0) n)
  pub takes_its_bytes : new.taken ≡ slice_set old.taken d.0 (slice_index_or old.taken d.0 0 + block_bytes n)
  pub other_extents_stay : (q : ℕ) → q ≢ c → extent_of new.directory q ≡ extent_of old.directory q
  pub disks_stay : new.disks ≡ old.disks

-- a store of a cell that was written so often, with these elements
pub record Stores {D A : Type 0} (size faults mismatches : D → ℕ) (held : D → Option (List ℕ)) (c writes : ℕ) (xs : List ℤ) (result : Result A DiskRefusal) (old new : DiskState D) (e : Extent) : Type 0 where
  -- its disk alone changes: where the store ends well it holds the block, else any bytes there, and it counted a fault
  pub writes_the_block : ChangesAt e.disk.0 (Writes size faults mismatches held e.position (block c writes xs) result) old.disks new.disks
  pub holds_the_block_where_it_ended_well : OnOk result (Holds held new.disks e (block c writes xs))
  pub no_count_rose_where_it_ended_well : OnOk result (CountsStay faults mismatches old.disks new.disks)
  pub disks_are_given_back : AreGivenBack size faults mismatches held old.disks new.disks
  pub notes_how_it_ended : new.directory ≡ slice_set old.directory c (Some (with_store e writes (is_ok result)))
  pub takes_no_more : new.taken ≡ old.taken
  pub other_blocks_stay : (q : ℕ) (f : Extent) → q ≢ c → extent_of old.directory q ≡ Some f → KeepsBlock held f old.disks new.disks
  pub refused_by_its_disk : IfErr result (λ r. r ≡ DiskFault e.disk)

-- a fetch of a cell that was written so often, whose elements were then xs
pub record Fetches {D A : Type 0} (size faults mismatches : D → ℕ) (held : D → Option (List ℕ)) (c writes : ℕ) (xs : List ℤ) (result : Result A DiskRefusal) (old new : DiskState D) (e : Extent) : Type 0 where
  -- its disk alone changes, and of it only the counts: of faults for a fault, of mismatches for other headers
  pub looks_at_its_disk : ChangesAt e.disk.0 (Looks size faults mismatches held (is_fault result) (is_damage result)) old.disks new.disks
  pub all_blocks_stay : (f : Extent) → KeepsBlock held f old.disks new.disks
  pub no_count_rose_where_it_ended_well : OnOk result (CountsStay faults mismatches old.disks new.disks)
  pub disks_are_given_back : AreGivenBack size faults mismatches held old.disks new.disks
  pub directory_stays : new.directory ≡ old.directory
  pub takes_no_more : new.taken ≡ old.taken
  pub gives_what_is_held : OnOk result (Holds held old.disks e (block c writes xs))
  pub gives_what_was_stored :
      OnOk result ((ys : List ℤ) → All (FitsSigned w64) ys → length ys ≡ e.length → TellsBytes held old.disks e → Holds held old.disks e (block c writes ys) → xs ≡ ys)
  pub refused_by_its_disk : RefusesFor e.disk (header c writes e.length) result
  pub undamaged_where_it_tells : TellsBytes held old.disks e → is_damage result ≡ false
