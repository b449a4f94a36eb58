use Rattle.std.proofs.Common.{◌≡◌, ℕ, List, length, sym, ap, ◌∙◌, arith, w64, Some}
use Rattle.std.specs.Prelude.{is_some}
use Rattle.std.proofs.Math.Facts.{Fits-of_lt, Fits-lt-pow}
use Rattle.std.proofs.lemmas.List.{get_or_default, length-replicate}
use Rattle.sj_base.proofs.FirstFit.{first_fit-room}
use Rattle.sj_core.specs.Needs.{first_fit, place_after}
use Rattle.sj_needs.proofs.Placing.{none-taken}
use Rattle.sj_needs.proofs.swap.has_places.Goals as goal

pub loop-cell-init : goal.loop-cell-init
loop-cell-init c =
    let nothing = c.in_ok-taken.ensures in (
      ap (λ (taken : List ℕ). is_some (place_after c.args.disks.now taken c.items-cell-items.result.now)) (nothing ∙ none-taken c.args.disks.now) ∙ grind (arith, c.items-cell-items.ensures),
      ap length nothing ∙ length-replicate (length c.args.disks.now) 0,
    )

pub index_mut-requires : goal.index_mut-requires
index_mut-requires c =
    let fits : first_fit c.args.disks.now c.loop-cell.taken.items c.cell_block_bytes-need.result ≡ Some c.in-Some.d = ap (λ (taken : List ℕ). first_fit c.args.disks.now taken c.cell_block_bytes-need.result) (sym c.deref.ensures.value) ∙ sym c.first_fit.ensures ∙ c.in-Some.is in
    let room = first_fit-room c.args.disks.now c.loop-cell.taken.items c.cell_block_bytes-need.result c.in-Some.d c.loop-cell.invariant.1 fits in
    omega (arith, room.0, c.loop-cell.invariant.1)

pub overflow_add-index_mut : goal.overflow_add-index_mut
overflow_add-index_mut c =
    let fits : first_fit c.args.disks.now c.loop-cell.taken.items c.cell_block_bytes-need.result ≡ Some c.in-Some.d = ap (λ (taken : List ℕ). first_fit c.args.disks.now taken c.cell_block_bytes-need.result) (sym c.deref.ensures.value) ∙ sym c.first_fit.ensures ∙ c.in-Some.is in
    let room = first_fit-room c.args.disks.now c.loop-cell.taken.items c.cell_block_bytes-need.result c.in-Some.d c.loop-cell.invariant.1 fits in
    let at = c.index_mut.ensures.value ∙ get_or_default c.loop-cell.taken.items c.in-Some.d c.index_mut.result.now 0 (omega (arith, room.0, c.loop-cell.invariant.1)) in
    Fits-of_lt {w = w64} (omega (arith, room.1, at, Fits-lt-pow {w = w64} (c.type_inv.disks c.in-Some.d)))
