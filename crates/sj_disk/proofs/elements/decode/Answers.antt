use Rattle.std.proofs.Common.{arith}
use Rattle.sj_disk.proofs.Bytes.{decoded, decoded-fits}
use Rattle.sj_disk.proofs.elements.decode.Goals as goal

pub returns-clause-bytes : goal.returns-clause-bytes
returns-clause-bytes c = decoded c.args.bytes.now c.read_i64_into.new.dst (omega (arith, c.read_i64_into.auto.dst)) c.type_inv.bytes c.read_i64_into.ensures

pub returns-clause-in_range : goal.returns-clause-in_range
returns-clause-in_range c = decoded-fits c.args.bytes.now c.read_i64_into.new.dst c.type_inv.bytes c.read_i64_into.ensures
