use Rattle.std.proofs.Common.{◌≡◌, ap, ◌∙◌}
use Rattle.byte_layer.specs.Number.{octets, placed}
use Rattle.byte_layer.proofs.Numbers.{reads}
use Rattle.byte_layer.proofs.number.write.Goals as goal

pub returns : goal.returns
returns g c =
    let k = g.row.N in
    let t = c.args.text.now in
    let n = g.T.Number.code c.args.value in
    let bytes : c.write_bytes.new.text ≡ placed t c.args.at (octets k n) = c.write_bytes.ensures ∙ ap (placed t c.args.at) c.to_octets.ensures.octets in
    record { bytes = bytes; reads = ap g.T.Number.of_code (reads k t _ c.args.at n c.requires c.to_octets.ensures.small bytes) ∙ c.to_octets.ensures.back }
