use Rattle.std.proofs.Common.{◌+◌, ℤ, ap, ◌∙◌, arith, w32, SFits, rules}
use Rattle.std.proofs.lemmas.Int.{to_z-of_z}
use Rattle.byte_layer.specs.Number.{octets, signed_octets, placed}
use Rattle.byte_layer.proofs.Numbers.{length_octets}
use Rattle.byte_layer.proofs.Placed.{placed_then}
use Rattle.need.specs.Format.{need_quarter_bytes}
use Rattle.need.proofs.Operands.{length_quarter}
use Rattle.need.proofs.format.NeedQuarterPart8.write.Goals as goal

pub returns-clause-size : goal.returns-clause-size
returns-clause-size c = length_quarter c.args.self.now

pub returns-clause-written : goal.returns-clause-written
unfolding need_quarter_bytes
returns-clause-written c =
    let t = c.args.text.now in
    let a = c.args.at in
    let q = c.args.self.now in
    let f : SFits w32 q.price = search rules in
    placed_then t c.write.new.text c.write-2.new.text a (a + 4) (octets 4 q.maximum) (signed_octets 4 q.price)
    (omega arith) c.write.ensures.bytes (omega (arith, length_octets 4 q.maximum))
    (c.write-2.ensures.bytes ∙ ap (λ (z : ℤ). placed c.write.new.text (a + 4) (signed_octets 4 z)) (to_z-of_z w32 q.price f))
