use Rattle.std.proofs.Common.{refl}
use Rattle.lot.specs.Sum.{sum}
use Rattle.joined.proofs.heading.HeadingLot.net.Goals as goal

pub returns : goal.returns
unfolding sum
returns c = refl
