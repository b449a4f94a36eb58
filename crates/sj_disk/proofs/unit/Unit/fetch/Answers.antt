use Rattle.std.proofs.Common.{◌≡◌, ℤ, List, ◌++◌, Some, length, take, drop, sym, ap, ◌∙◌, subst, true}
use Rattle.std.proofs.Math.Seq.{take-append_seam}
use Rattle.sj_disk.specs.Directory.{last_store}
use Rattle.sj_disk.specs.Units.{UnitFetches, UnitState, unit_state}
use Rattle.sj_disk.proofs.Uniting.{unit-fetches}
use Rattle.sj_disk.proofs.unit.Unit.fetch.Goals as goal

pub returns-clause-fetches : goal.returns-clause-fetches
returns-clause-fetches g c =
    let u = unit_state c.self.inside.disk c.self.inside.cell c.self.inside.extent in
    let xs = c.args.tile.now.elements in
    let ys = c.read_block.new.elements in
    let whole = subst (λ (s : UnitState g.row.D.Denot). length xs ≡ s.extent.length) (sym c.self.view_is) c.requires.whole in
    let last = subst (λ (s : UnitState g.row.D.Denot). s.extent.last_store ≡ Some (last_store c.args.writes true)) (sym c.self.view_is) c.requires.stored in
    let many : length ys ≡ u.extent.length = c.read_block.auto.elements ∙ ap length c.elements_mut.ensures.elements ∙ whole in
    let after = unit_state c.read_block.new.disk u.cell u.extent in
    let fetches = unit-fetches g.D.Disk.size g.D.Disk.faults g.D.Disk.mismatches g.D.Disk.held u c.self.invariant c.args.writes ys many last c.read_block.result c.read_block.new.disk c.read_block.ensures.looks c.read_block.ensures.gives c.read_block.ensures.in_range c.read_block.ensures.refuses c.read_block.ensures.undamaged in
    let lent = take (length xs) (ys ++ drop (length ys) xs) in
    let same : lent ≡ ys = ap (λ n. take n (ys ++ drop (length ys) xs)) (whole ∙ sym many) ∙ take-append_seam ys (drop (length ys) xs) in
    let P = λ (zs : List ℤ) (s : UnitState g.row.D.Denot). UnitFetches g.D.Disk.size g.D.Disk.faults g.D.Disk.mismatches g.D.Disk.held c.args.writes zs c.read_block.result s after in
    subst (λ (s : UnitState g.row.D.Denot). P lent s) c.self.view_is (subst (λ (zs : List ℤ). P zs u) (sym same) fetches)
