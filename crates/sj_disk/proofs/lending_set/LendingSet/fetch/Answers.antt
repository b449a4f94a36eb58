use Rattle.std.proofs.Common.{◌≡◌, Some, length, true}
use Rattle.sj_base.proofs.Options.{IfSome-at}
use Rattle.sj_disk.specs.declared.directory.Extent.{Extent}
use Rattle.sj_disk.specs.Directory.{extent_of, last_store}
use Rattle.sj_disk.specs.Lending.{TakesOut}
use Rattle.sj_disk.proofs.Lent.{back-fetched, comes-from, is-given, its-extent, out-stays}
use Rattle.sj_disk.proofs.Sounding.{some-and}
use Rattle.sj_disk.proofs.lending_set.LendingSet.fetch.Goals as goal

pub unwrap-unit-requires : goal.unwrap-unit-requires
unwrap-unit-requires g c = is-given c.args.self.now c.take_out.new.self c.args.cell.0 c.take_out.result c.requires.its_disk_is_in c.take_out.ensures.none

pub fetch-result-requires : goal.fetch-result-requires
fetch-result-requires g c =
    let t = IfSome-at (λ u. TakesOut c.args.cell u c.args.self.now c.take_out.new.self) c.take_out.result c.unwrap-unit.result c.unwrap-unit.ensures c.take_out.ensures.some in
    let found = its-extent g.D.Disk.size g.D.Disk.faults g.D.Disk.mismatches g.D.Disk.held c.args.self.now c.take_out.new.self c.args.cell c.unwrap-unit.result t in
    let known = some-and (λ (e : Extent). (length c.args.tile.now.elements ≡ e.length) × (e.last_store ≡ Some (last_store c.args.writes true))) (extent_of c.args.self.now.set.directory c.args.cell.0) c.unwrap-unit.result.extent found c.requires.stored in
    record { whole = known.0; stored = known.1 }

pub put_back-requires : goal.put_back-requires
put_back-requires g c =
    let t = IfSome-at (λ u. TakesOut c.args.cell u c.args.self.now c.take_out.new.self) c.take_out.result c.unwrap-unit.result c.unwrap-unit.ensures c.take_out.ensures.some in
    comes-from g.D.Disk.size g.D.Disk.faults g.D.Disk.mismatches g.D.Disk.held c.args.self.now c.take_out.new.self c.args.cell c.unwrap-unit.result t c.fetch-result.new.self c.fetch-result.ensures.fetches.is_worked_on

pub returns-clause-fetches : goal.returns-clause-fetches
returns-clause-fetches g c =
    let t = IfSome-at (λ u. TakesOut c.args.cell u c.args.self.now c.take_out.new.self) c.take_out.result c.unwrap-unit.result c.unwrap-unit.ensures c.take_out.ensures.some in
    back-fetched g.D.Disk.size g.D.Disk.faults g.D.Disk.mismatches g.D.Disk.held c.args.self.now c.take_out.new.self c.args.cell c.unwrap-unit.result t c.fetch-result.new.self c.put_back.new.self c.args.writes c.fetch-result.new.tile.elements c.fetch-result.result c.fetch-result.ensures.fetches c.put_back.ensures.fetches

pub returns-clause-out_stay : goal.returns-clause-out_stay
returns-clause-out_stay g c =
    let t = IfSome-at (λ u. TakesOut c.args.cell u c.args.self.now c.take_out.new.self) c.take_out.result c.unwrap-unit.result c.unwrap-unit.ensures c.take_out.ensures.some in
    out-stays g.D.Disk.size g.D.Disk.faults g.D.Disk.mismatches g.D.Disk.held c.args.self.now c.take_out.new.self c.args.cell c.unwrap-unit.result t c.fetch-result.new.self c.put_back.new.self c.fetch-result.ensures.fetches.is_worked_on c.put_back.ensures.back
