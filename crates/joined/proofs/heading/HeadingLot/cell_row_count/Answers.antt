use Rattle.std.proofs.Common.{refl}
use Rattle.lot.specs.Sum.{count}
use Rattle.joined.proofs.heading.HeadingLot.cell_row_count.Goals as goal

pub returns : goal.returns
unfolding count
returns c = refl
