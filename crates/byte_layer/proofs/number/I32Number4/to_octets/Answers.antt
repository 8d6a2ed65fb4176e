use Rattle.std.proofs.Common.{refl, ◌∙◌, w32, of_z, to_z}
use Rattle.byte_layer.proofs.Words.{to_be, signed_to}
use Rattle.byte_layer.proofs.number.I32Number4.to_octets.Goals as goal

pub returns : goal.returns
returns c =
    let r = signed_to w32 4 c.args.self c.to_be_bytes.result (record { half = refl; whole = refl }) c.ranges.self (c.to_be_bytes.ensures ∙ to_be 4 (of_z w32 (to_z w32 (of_z w32 c.args.self)))) in
    record { octets = r.0; small = r.1.0; back = r.1.1 }
