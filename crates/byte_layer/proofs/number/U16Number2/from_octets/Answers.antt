use Rattle.std.proofs.Common.{◌≡◌, ◌∙◌}
use Rattle.byte_layer.specs.Number.{number}
use Rattle.byte_layer.proofs.Words.{from_be}
use Rattle.byte_layer.proofs.number.U16Number2.from_octets.Goals as goal

pub returns : goal.returns
returns c =
    let e : c.from_be_bytes.result ≡ number 2 c.args.bytes.now 0 = c.from_be_bytes.ensures ∙ from_be 1 c.args.bytes.now in
    record { value = e; code = e }
