use Rattle.std.proofs.Common.{refl, ◌∙◌}
use Rattle.byte_layer.proofs.Words.{to_be}
use Rattle.byte_layer.proofs.number.U32Number4.to_octets.Goals as goal

pub returns : goal.returns
returns c = record { octets = c.to_be_bytes.ensures ∙ to_be 4 c.args.self; small = c.ranges.self.fits; back = refl }
