use Rattle.std.proofs.Common.{refl, ◌∙◌, w8, of_z, to_z}
use Rattle.byte_layer.proofs.Words.{one_octet, signed_to, signed_small}
use Rattle.byte_layer.proofs.number.I8Number1.to_octets.Goals as goal

pub returns : goal.returns
returns c =
    let r = signed_to w8 1 c.args.self c.to_be_bytes.result (record { half = refl; whole = refl }) c.ranges.self (c.to_be_bytes.ensures ∙ one_octet (of_z w8 (to_z w8 (of_z w8 c.args.self))) (signed_small w8 1 c.args.self (record { half = refl; whole = refl }) c.ranges.self)) in
    record { octets = r.0; small = r.1.0; back = r.1.1 }
