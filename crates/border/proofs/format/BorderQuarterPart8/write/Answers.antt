use Rattle.std.proofs.Common.{◌+◌, arith}
use Rattle.byte_layer.specs.Number.{octets}
use Rattle.byte_layer.proofs.Numbers.{length_octets}
use Rattle.byte_layer.proofs.Placed.{placed_then}
use Rattle.border.specs.Format.{border_quarter_bytes}
use Rattle.border.proofs.Operands.{length_quarter}
use Rattle.border.proofs.format.BorderQuarterPart8.write.Goals as goal

pub returns-clause-size : goal.returns-clause-size
returns-clause-size c = length_quarter c.args.self.now

pub returns-clause-written : goal.returns-clause-written
unfolding border_quarter_bytes
returns-clause-written c =
    let a = c.args.at in
    let q = c.args.self.now in
    placed_then c.args.text.now c.write.new.text c.write-2.new.text a (a + 4) (octets 4 q.forward) (octets 4 q.back)
    (omega arith) c.write.ensures.bytes (omega (arith, length_octets 4 q.forward))
    c.write-2.ensures.bytes
