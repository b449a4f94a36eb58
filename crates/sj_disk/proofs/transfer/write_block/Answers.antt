use Rattle.std.proofs.Common.{◌≡◌, ◌+◌, ℕ, length, is_err, sym, ap, subst, arith}
use Rattle.sj_disk.specs.Block.{element_bytes, header_bytes}
use Rattle.sj_disk.specs.Transfers.{Writes}
use Rattle.sj_disk.proofs.Bytes.{length-header_bytes, length-element_bytes}
use Rattle.sj_disk.proofs.Transferring.{writes-then, writes-wider}
use Rattle.sj_disk.proofs.transfer.write_block.Goals as goal

pub returns-in_err-write_header : goal.returns-in_err-write_header
returns-in_err-write_header g c =
    let h = length-header_bytes c.args.header in
    let n = length-element_bytes c.args.elements.now in
    writes-wider _ _ _ _ c.args.at (header_bytes c.args.header) (element_bytes c.args.elements.now) c.write_header.result c.from_residual.result c.args.disk.now c.write_header.new.disk (ap is_err c.in_err-write_header.was) c.from_residual.ensures.0 c.requires.filled (omega arith) c.write_header.ensures

pub returns : goal.returns
returns g c =
    let h : length (header_bytes c.args.header) ≡ 24 = length-header_bytes c.args.header in
    let n = length-element_bytes c.args.elements.now in
    let elements = subst (λ (k : ℕ). Writes g.D.Disk.size g.D.Disk.faults g.D.Disk.mismatches g.D.Disk.held (c.args.at + k) (element_bytes c.args.elements.now) c.write_elements.result c.write_header.new.disk c.write_elements.new.disk) (sym h) c.write_elements.ensures in
    writes-then _ _ _ _ c.args.at (header_bytes c.args.header) (element_bytes c.args.elements.now) tt c.write_elements.result c.args.disk.now c.write_header.new.disk c.write_elements.new.disk c.requires.filled (omega arith) c.in_ok-write_header.ensures elements
