use Rattle.std.proofs.Common.{refl, ◌∙◌, w16, of_z, to_z}
use Rattle.byte_layer.proofs.Words.{to_be, signed_to}
use Rattle.byte_layer.proofs.number.I16Number2.to_octets.Goals as goal

pub returns : goal.returns
returns c =
    let r = signed_to w16 2 c.args.self c.to_be_bytes.result (record { half = refl; whole = refl }) c.ranges.self (c.to_be_bytes.ensures ∙ to_be 2 (of_z w16 (to_z w16 (of_z w16 c.args.self)))) in
    record { octets = r.0; small = r.1.0; back = r.1.1 }
