use Rattle.std.proofs.Common.{refl, ◌∙◌}
use Rattle.byte_layer.proofs.Words.{to_be}
use Rattle.byte_layer.proofs.number.U16Number2.to_octets.Goals as goal

pub returns : goal.returns
returns c = record { octets = c.to_be_bytes.ensures ∙ to_be 2 c.args.self; small = c.ranges.self.fits; back = refl }
