use Rattle.lot.proofs.Alone.{alone_cells}
use Rattle.bid.specs.Bidding.{bidding}
use Rattle.bid.proofs.as_lot.BidLot.cell_row_count.Goals as goal

pub returns : goal.returns
returns c = alone_cells (bidding c.args.self.now.fields)
