use Rattle.std.proofs.Common.{ℕ, ◌+◌, [], ◌∷◌, refl, ap, ◌∙◌, pos, arith}
use Rattle.byte_layer.specs.Number.{placed}
use Rattle.byte_layer.proofs.Fours.{fours_bytes}
use Rattle.byte_layer.proofs.Placed.{placed_then}
use Rattle.units.specs.Side.{side_byte}
use Rattle.bid.specs.declared.fields.BidQuarter.{BidQuarter}
use Rattle.bid.specs.Format.{bid_bytes, quarter_bytes}
use Rattle.bid.proofs.lawful.Bid.write.Goals as goal

pub returns : goal.returns
unfolding bid_bytes
returns c =
    let t = c.args.text.now in
    let a = c.args.at in
    let f = c.args.self.now.fields in
    let none : BidQuarter = record { minimum = 0; maximum = 0; price = pos 0 } in
    placed_then t c.write_bytes.new.text c.write_four.new.text a (a + 2) (f.area ∷ side_byte f.side ∷ []) _
    (omega arith) (c.write_bytes.ensures ∙ ap (λ (x : ℕ). placed t a (f.area ∷ x ∷ [])) c.from.ensures) refl
    (c.write_four.ensures ∙ ap (placed c.write_bytes.new.text (a + 2)) (fours_bytes quarter_bytes none none none none f.quarters c.args.self.now.four))
