use Rattle.std.proofs.Common.{◌≡◌, ◌+◌, ◌<◌, ℕ, List, Some, Result, Ok, Err, map, w8, w64, get_or, length, sym, ap, ◌∙◌, subst, arith}
use Rattle.std.specs.Prelude.{IsErrAnd, slice_set}
use Rattle.std.proofs.Math.Facts.{Fits-of_lt}
use Rattle.std.proofs.lemmas.List.{get_or_default, length-map}
use Rattle.sj_base.proofs.Options.{the}
use Rattle.sj_base.proofs.FirstFit.{first_fit-room}
use Rattle.sj_disk.specs.declared.refusal.ReserveRefusal.{ReserveRefusal}
use Rattle.sj_disk.specs.declared.refusal.ReserveRefusal.TheVariants.{NoRoom, OutOfMemory}
use Rattle.sj_disk.specs.Block.{block_bytes}
use Rattle.sj_disk.specs.Calls.{Reserves}
use Rattle.sj_disk.specs.Directory.{DiskState, disk_state, extent_at, extent_of, first_fit}
use Rattle.sj_disk.specs.Sound.{AreSoundDisks}
use Rattle.sj_disk.proofs.Reserving.{disk-number, reserved, sound-reserve}
use Rattle.sj_disk.proofs.disk_set.DiskSet.reserve.Goals as goal

first : (ss ts sizes taken : List ℕ) (need d : ℕ) → Some d ≡ first_fit ss ts need → ss ≡ sizes → ts ≡ taken → first_fit sizes taken need ≡ Some d
first ss ts sizes taken need d e a b = sym (e ∙ ap (λ xs. first_fit xs ts need) a ∙ ap (λ xs. first_fit sizes xs need) b)

pub overflow_cast-disk : goal.overflow_cast-disk
overflow_cast-disk g c =
    let s = c.self.invariant in
    let e = first _ _ c.self.inside.sizes.items c.self.inside.taken.items _ c.in-Some.d c.in-Some.ensures c.deref.ensures.value c.deref-2.ensures.value in
    let room = first_fit-room c.self.inside.sizes.items c.self.inside.taken.items (block_bytes c.args.length) c.in-Some.d s.laid_out.as_many e in
    Fits-of_lt {w = w8} (omega (arith, room.0, s.few, ap length s.sized, length-map c.self.inside.disks.items g.D.Disk.size))

pub index-requires : goal.index-requires
index-requires g c =
    let s = c.self.invariant in
    let e = first _ _ c.self.inside.sizes.items c.self.inside.taken.items _ c.in-Some.d c.in-Some.ensures c.deref.ensures.value c.deref-2.ensures.value in
    let room = first_fit-room c.self.inside.sizes.items c.self.inside.taken.items (block_bytes c.args.length) c.in-Some.d s.laid_out.as_many e in
    omega (arith, room.0, s.laid_out.as_many, c.deref-2.ensures.len, ap length c.deref-2.ensures.value)

pub index_mut-requires : goal.index_mut-requires
index_mut-requires g c =
    let s = c.self.invariant in
    let e = first _ _ c.self.inside.sizes.items c.self.inside.taken.items _ c.in-Some.d c.in-Some.ensures c.deref.ensures.value c.deref-2.ensures.value in
    let room = first_fit-room c.self.inside.sizes.items c.self.inside.taken.items (block_bytes c.args.length) c.in-Some.d s.laid_out.as_many e in
    omega (arith, room.0, s.laid_out.as_many, c.deref-2.ensures.len, ap length c.deref-2.ensures.value)

-- the number that is there, whatever stands beyond
there : (ns : List ℕ) (i n : ℕ) → i < length ns → n ≡ get_or ns i n → n ≡ get_or ns i 0
there ns i n lt e = e ∙ get_or_default ns i n 0 lt

not-both : {A : Type 0} (r : Result A ReserveRefusal) → IsErrAnd r (λ e. e ≡ OutOfMemory) → r ≡ Err NoRoom → ⊥
not-both (Ok x) h e = h
not-both (Err NoRoom) h e = cc
not-both (Err OutOfMemory) h e = cc

pub overflow_add-index_mut : goal.overflow_add-index_mut
overflow_add-index_mut g c =
    let s = c.self.invariant in
    let e = first _ _ c.self.inside.sizes.items c.self.inside.taken.items _ c.in-Some.d c.in-Some.ensures c.deref.ensures.value c.deref-2.ensures.value in
    let room = first_fit-room c.self.inside.sizes.items c.self.inside.taken.items (block_bytes c.args.length) c.in-Some.d s.laid_out.as_many e in
    let at = there c.self.inside.taken.items c.in-Some.d c.index_mut.result.now (omega (arith, room.0, s.laid_out.as_many)) c.index_mut.ensures.value in
    Fits-of_lt {w = w64} (omega (arith, room.1, at, s.bounded c.in-Some.d))

pub returns-in_err-add_extent-clause-no_room : goal.returns-in_err-add_extent-clause-no_room
returns-in_err-add_extent-clause-no_room g c =
    let e = first _ _ c.self.inside.sizes.items c.self.inside.taken.items _ c.in-Some.d c.in-Some.ensures c.deref.ensures.value c.deref-2.ensures.value in
    let fits = subst (λ (ns : List ℕ). first_fit ns c.self.inside.taken.items (block_bytes c.args.length) ≡ Some c.in-Some.d) c.self.invariant.sized e in
    let seen = subst (λ (s : DiskState g.row.D.Denot). first_fit (map g.D.Disk.size s.disks) s.taken (block_bytes c.args.length) ≡ Some c.in-Some.d) c.self.view_is fits in
    ((λ none. absurd (not-both c.from_residual.result c.from_residual.ensures.1 none)), (λ none. absurd (the ⊥ (cc))))

pub invariant_of-self-2 : goal.invariant_of-self-2
invariant_of-self-2 g c =
    let s = c.self.invariant in
    let taken = c.self.inside.taken.items in
    let after = c.add_extent.new.directory.items in
    let d = c.in-Some.d in
    let n = c.args.length in
    let e = first _ _ c.self.inside.sizes.items taken _ d c.in-Some.ensures c.deref.ensures.value c.deref-2.ensures.value in
    let room = first_fit-room c.self.inside.sizes.items taken (block_bytes n) d s.laid_out.as_many e in
    let inside : d < length taken = omega (arith, room.0, s.laid_out.as_many) in
    let gives = subst (λ (p : ℕ). extent_of after c.args.cell.0 ≡ Some (extent_at d p n)) (there taken d c.index.result.now inside c.index.ensures) c.in_ok-add_extent.ensures.gives in
    let sound = sound-reserve g.D.Disk.size g.D.Disk.held c.self.inside.disks.items c.self.inside.sizes.items taken c.self.inside.directory.items after c.args.cell.0 n d s e gives c.add_extent.ensures.others_stay in
    subst (λ (p : ℕ). AreSoundDisks g.D.Disk.size g.D.Disk.held c.self.inside.disks.items c.self.inside.sizes.items (slice_set taken d (p + block_bytes n)) after) (sym (there taken d c.index_mut.result.now inside c.index_mut.ensures.value)) sound

pub returns-clause-reserves : goal.returns-clause-reserves
returns-clause-reserves g c =
    let s = c.self.invariant in
    let disks = c.self.inside.disks.items in
    let taken = c.self.inside.taken.items in
    let after = c.add_extent.new.directory.items in
    let d = c.in-Some.d in
    let n = c.args.length in
    let e = first _ _ c.self.inside.sizes.items taken _ d c.in-Some.ensures c.deref.ensures.value c.deref-2.ensures.value in
    let room = first_fit-room c.self.inside.sizes.items taken (block_bytes n) d s.laid_out.as_many e in
    let inside : d < length taken = omega (arith, room.0, s.laid_out.as_many) in
    let gives = subst (λ (p : ℕ). extent_of after c.args.cell.0 ≡ Some (extent_at d p n)) (there taken d c.index.result.now inside c.index.ensures) c.in_ok-add_extent.ensures.gives in
    let made = reserved g.D.Disk.size g.D.Disk.held disks c.self.inside.sizes.items taken c.self.inside.directory.items after c.args.cell.0 n d s e gives c.add_extent.ensures.others_stay in
    let P = λ (p : ℕ) (old : DiskState g.row.D.Denot). Reserves g.D.Disk.size c.args.cell.0 n (disk-number d) old (disk_state disks (slice_set taken d (p + block_bytes n)) after) in
    subst (λ (old : DiskState g.row.D.Denot). P c.index_mut.result.now old) c.self.view_is (subst (λ (p : ℕ). P p (disk_state disks taken c.self.inside.directory.items)) (sym (there taken d c.index_mut.result.now inside c.index_mut.ensures.value)) made)
