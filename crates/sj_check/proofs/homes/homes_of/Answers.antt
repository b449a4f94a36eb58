use Rattle.sj_check.proofs.Words.{[], ap, CellInfo, DiskNo, first_fit, length, List, map, None, Option, refl, Some, sym, unwrap_or, ℕ, ◌++◌, ◌∙◌, ◌≡◌}
use Rattle.std.proofs.lemmas.List.{length-replicate}
use Rattle.sj_needs.proofs.Placing.{none-taken}
use Rattle.sj_check.proofs.BlockDisks.{behind, disks_after, homes-all, homes-none}
use Rattle.sj_check.proofs.homes.homes_of.Goals as goal

by_more : (o : Option (List DiskNo)) (homes : List DiskNo) → homes ≡ [] → behind homes o ≡ o
by_more None homes e = refl
by_more (Some ds) homes e = ap (λ (xs : List DiskNo). Some (xs ++ ds)) e

pub loop-cell-init : goal.loop-cell-init
loop-cell-init c =
    let nothing = c.in_ok-taken.ensures in (
      by_more (disks_after c.args.disks.now c.in_ok-taken.taken.items c.items-cell-items.result.now) c.in_ok-homes.homes.items c.in_ok-homes.ensures.items
          ∙ ap (λ (ts : List ℕ). disks_after c.args.disks.now ts c.items-cell-items.result.now) (nothing ∙ none-taken c.args.disks.now)
          ∙ ap (λ (cs : List CellInfo). disks_after c.args.disks.now (map (λ n. 0) c.args.disks.now) cs) c.items-cell-items.ensures,
      ap length nothing ∙ length-replicate (length c.args.disks.now) 0,
    )

pub returns-in_default : goal.returns-in_default
returns-in_default c = c.new.ensures.items ∙ sym (ap (λ (o : Option (List DiskNo)). unwrap_or o []) (sym c.loop-cell.invariant.0 ∙ homes-none c.args.disks.now c.loop-cell.taken.items c.loop-cell.homes.items c.items-cell-items.result.now c.loop-cell.cell-index c.block_bytes-need.result _ c.loop-cell-test.true c.block_bytes-need.ensures.bytes (ap (λ (ts : List ℕ). first_fit c.args.disks.now ts c.block_bytes-need.result) (sym c.deref.ensures.value) ∙ sym c.fitting.ensures.first ∙ c.in_default.is)))

pub returns : goal.returns
returns c = homes-all c.args.disks.now c.loop-cell.taken.items c.loop-cell.homes.items c.items-cell-items.result.now c.loop-cell.cell-index _ c.loop-cell-test.false c.loop-cell.invariant.0
