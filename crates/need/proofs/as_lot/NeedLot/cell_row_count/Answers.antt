use Rattle.lot.proofs.Alone.{alone_cells}
use Rattle.need.specs.Needing.{needing}
use Rattle.need.proofs.as_lot.NeedLot.cell_row_count.Goals as goal

pub returns : goal.returns
returns c = alone_cells (needing c.args.self.now.fields)
