-- The header that a disk was asked for.
use Rattle.std.specs.Prelude.{◌≡◌, IsTrue}
use Rattle.sj_base.specs.declared.ids.Cell.{Cell}
use Rattle.sj_base.specs.declared.ids.DiskNo.{DiskNo}
use Rattle.sj_base.specs.declared.ids.Place.TheVariants.{Disk as OnDisk}
use Rattle.sj_base.specs.declared.program.Program.{Program}
use Rattle.sj_base.specs.declared.program.Machine.{Machine}
use Rattle.sj_base.specs.Array.{area}
use Rattle.sj_core.specs.Machine.{State, writes}
use Rattle.sj_core.specs.Program.{dims_of}
use Rattle.sj_core.specs.Step.{has_copy}
use Rattle.sj_disk.specs.Block.{header}
use Rattle.sj_disk.specs.declared.header.Header.{Header}

-- the header is the one last written there of a cell that has a copy on the disk: the cell's number, its write count in
-- this state, and as many elements as it has
pub record IsLastWritten (p : Program) (m : Machine) (s : State) (d : DiskNo) (want : Header) : Type 0 where
  pub cell : Cell
  pub copy : IsTrue (has_copy p m s cell (OnDisk d))
  pub header : want ≡ header cell.0 (writes s cell) (area (dims_of p cell))
