use Rattle.std.proofs.Common.{rules}
use Rattle.lot.specs.Sum.{count}
use Rattle.border.proofs.as_lot.BorderLot.cell_row_count.Goals as goal

pub returns : goal.returns
unfolding count
returns c = search rules
