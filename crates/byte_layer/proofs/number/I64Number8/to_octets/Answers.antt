use Rattle.std.proofs.Common.{refl, ◌∙◌, w64, of_z, to_z}
use Rattle.byte_layer.proofs.Words.{to_be, signed_to}
use Rattle.byte_layer.proofs.number.I64Number8.to_octets.Goals as goal

pub returns : goal.returns
returns c =
    let r = signed_to w64 8 c.args.self c.to_be_bytes.result (record { half = refl; whole = refl }) c.ranges.self (c.to_be_bytes.ensures ∙ to_be 8 (of_z w64 (to_z w64 (of_z w64 c.args.self)))) in
    record { octets = r.0; small = r.1.0; back = r.1.1 }
