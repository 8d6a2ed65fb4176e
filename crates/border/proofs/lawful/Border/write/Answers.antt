use Rattle.std.proofs.Common.{ℕ, ◌+◌, [], ◌∷◌, refl, ap, ◌∙◌, arith}
use Rattle.byte_layer.specs.Number.{placed}
use Rattle.byte_layer.proofs.Fours.{fours_bytes}
use Rattle.byte_layer.proofs.Placed.{placed_then}
use Rattle.border.specs.Step.{step_byte}
use Rattle.border.specs.declared.fields.BorderQuarter.{BorderQuarter}
use Rattle.border.specs.Format.{border_bytes, border_quarter_bytes}
use Rattle.border.proofs.lawful.Border.write.Goals as goal

pub returns : goal.returns
unfolding border_bytes
returns c =
    let t = c.args.text.now in
    let a = c.args.at in
    let f = c.args.self.now.fields in
    let none : BorderQuarter = record { forward = 0; back = 0 } in
    placed_then t c.write_bytes.new.text c.write_four.new.text a (a + 3) (f.from ∷ f.to ∷ step_byte f.step ∷ []) _
    (omega arith) (c.write_bytes.ensures ∙ ap (λ (x : ℕ). placed t a (f.from ∷ f.to ∷ x ∷ [])) c.from.ensures) refl
    (c.write_four.ensures ∙ ap (placed c.write_bytes.new.text (a + 3)) (fours_bytes border_quarter_bytes none none none none f.quarters c.args.self.now.four))
