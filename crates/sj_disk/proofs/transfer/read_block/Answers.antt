use Rattle.std.proofs.Common.{◌≡◌, ◌+◌, ℕ, length, sym, subst}
use Rattle.sj_edge.specs.Held.{GivesHeld}
use Rattle.sj_disk.specs.Block.{element_bytes, header_bytes}
use Rattle.sj_disk.proofs.Bytes.{length-header_bytes}
use Rattle.sj_disk.proofs.Transferring.{gives-then}
use Rattle.sj_disk.proofs.transfer.read_block.Goals as goal

pub returns-in-Ok-clause-gives : goal.returns-in-Ok-clause-gives
returns-in-Ok-clause-gives g c =
    let h : length (header_bytes c.args.want) ≡ 24 = length-header_bytes c.args.want in
    let bytes = element_bytes c.read_elements.new.elements in
    let there = subst (λ x. GivesHeld x (c.args.at + 24) bytes) c.check_header.ensures.looks.told_bytes_stay c.in-Ok.ensures.gives in
    let moved = subst (λ (k : ℕ). GivesHeld (g.D.Disk.held c.args.disk.now) (c.args.at + k) bytes) (sym h) there in
    gives-then (g.D.Disk.held c.args.disk.now) c.args.at (header_bytes c.args.want) bytes c.in_ok-check_header.ensures.gives moved
