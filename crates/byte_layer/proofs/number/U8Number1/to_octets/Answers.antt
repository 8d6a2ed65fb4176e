use Rattle.std.proofs.Common.{refl, ◌∙◌}
use Rattle.byte_layer.proofs.Words.{one_octet}
use Rattle.byte_layer.proofs.number.U8Number1.to_octets.Goals as goal

pub returns : goal.returns
returns c = record { octets = c.to_be_bytes.ensures ∙ one_octet c.args.self c.ranges.self.fits; small = c.ranges.self.fits; back = refl }
