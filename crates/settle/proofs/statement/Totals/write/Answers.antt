use Rattle.std.proofs.Common.{◌+◌, ℤ, [], ◌∷◌, ap, ◌∙◌, arith, w64, SFits, rules}
use Rattle.std.proofs.lemmas.Int.{to_z-of_z}
use Rattle.byte_layer.specs.Number.{signed_octets, twos, placed}
use Rattle.byte_layer.proofs.Numbers.{length_octets}
use Rattle.byte_layer.proofs.Placed.{placed_three}
use Rattle.settle.specs.Statement.{closing}
use Rattle.settle.proofs.statement.Totals.write.Goals as goal

pub returns : goal.returns
unfolding closing
returns c =
    let t = c.args.text.now in
    let a = c.args.at in
    let p = c.args.self.now in
    let cents : SFits w64 p.cents = search rules in
    let rest : SFits w64 p.rest = search rules in
    placed_three t c.write_bytes.new.text c.write.new.text c.write-2.new.text a (a + 1) (a + 9) (0x57 ∷ []) (signed_octets 8 p.cents) (signed_octets 8 p.rest)
    (omega arith) c.write_bytes.ensures (omega arith)
    (c.write.ensures.bytes ∙ ap (λ (z : ℤ). placed c.write_bytes.new.text (a + 1) (signed_octets 8 z)) (to_z-of_z w64 p.cents cents)) (omega (arith, length_octets 8 (twos 8 p.cents)))
    (c.write-2.ensures.bytes ∙ ap (λ (z : ℤ). placed c.write.new.text (a + 9) (signed_octets 8 z)) (to_z-of_z w64 p.rest rest))
