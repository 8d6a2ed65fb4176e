use Rattle.std.proofs.Common.{ℕ, ◌+◌, get_or, sym, ap, ◌∙◌, arith}
use Rattle.byte_layer.specs.Number.{placed}
use Rattle.byte_layer.proofs.Fours.{fours_bytes}
use Rattle.byte_layer.proofs.Placed.{placed_four}
use Rattle.byte_layer.proofs.part.write_four.Goals as goal

pub returns : goal.returns
returns g c =
    let t = c.args.text.now in
    let a = c.args.at in
    let k = g.row.K in
    let ps = c.args.parts.now in
    let B = g.P.Part.bytes in
    let w = B (get_or ps 0 c.index-parts-0.result) in
    let x = B (get_or ps 1 c.index-parts-1.result) in
    let y = B (get_or ps 2 c.index-parts-2.result) in
    let z = B (get_or ps 3 c.index-parts-3.result) in
    placed_four t c.write.new.text c.write-2.new.text c.write-3.new.text c.write-4.new.text a (a + k) (a + k + k) (a + k + k + k) w x y z
    (omega arith) c.write.ensures.written (ap (λ (n : ℕ). a + n) (sym c.write.ensures.size)) c.write-2.ensures.written (ap (λ (n : ℕ). a + k + n) (sym c.write-2.ensures.size))
    c.write-3.ensures.written (ap (λ (n : ℕ). a + k + k + n) (sym c.write-3.ensures.size)) c.write-4.ensures.written
    ∙ ap (placed t a) (sym (fours_bytes B c.index-parts-0.result c.index-parts-1.result c.index-parts-2.result c.index-parts-3.result ps c.type_inv.parts))
