use Rattle.std.proofs.Common.{ℕ, ◌+◌, [], ◌∷◌, refl, ap, ◌∙◌, pos, arith}
use Rattle.byte_layer.specs.Number.{placed}
use Rattle.byte_layer.proofs.Fours.{fours_bytes}
use Rattle.byte_layer.proofs.Placed.{placed_then}
use Rattle.units.specs.Side.{side_byte}
use Rattle.need.specs.Elasticity.{elasticity_byte}
use Rattle.need.specs.declared.fields.NeedQuarter.{NeedQuarter}
use Rattle.need.specs.Format.{need_bytes, need_quarter_bytes}
use Rattle.need.proofs.lawful.Need.write.Goals as goal

pub returns : goal.returns
unfolding need_bytes
returns c =
    let t = c.args.text.now in
    let a = c.args.at in
    let f = c.args.self.now.fields in
    let none : NeedQuarter = record { maximum = 0; price = pos 0 } in
    placed_then t c.write_bytes.new.text c.write_four.new.text a (a + 3) (f.area ∷ side_byte f.side ∷ elasticity_byte f.elasticity ∷ []) _
    (omega arith)
    (c.write_bytes.ensures
    ∙ ap (λ (x : ℕ). placed t a (f.area ∷ x ∷ c.from-2.result ∷ [])) c.from.ensures
    ∙ ap (λ (x : ℕ). placed t a (f.area ∷ side_byte f.side ∷ x ∷ [])) c.from-2.ensures)
    refl
    (c.write_four.ensures ∙ ap (placed c.write_bytes.new.text (a + 3)) (fours_bytes need_quarter_bytes none none none none f.quarters c.args.self.now.four))
