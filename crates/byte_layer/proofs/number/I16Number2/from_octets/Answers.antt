use Rattle.std.proofs.Common.{refl, w16, SFits, rules}
use Rattle.byte_layer.proofs.Words.{from_be, signed_from}
use Rattle.byte_layer.proofs.number.I16Number2.from_octets.Goals as goal

pub returns : goal.returns
returns c =
    let f : SFits w16 c.from_be_bytes.result = search rules in
    let r = signed_from w16 2 c.args.bytes.now _ c.from_be_bytes.result (record { half = refl; whole = refl }) f c.fits-bytes (from_be 1 c.args.bytes.now) c.from_be_bytes.ensures in
    record { value = r.0; code = r.1 }
