use Rattle.std.proofs.Common.{◌∙◌}
use Rattle.lot.proofs.Alone.{alone_long, tells}
use Rattle.bid.specs.Bidding.{bidding}
use Rattle.bid.proofs.as_lot.BidLot.refused_row.Goals as goal

pub row-requires : goal.row-requires
row-requires c = alone_long (bidding c.args.self.now.fields) c.args.cells.bytes.now c.requires

pub returns : goal.returns
returns c = c.then_some.ensures ∙ tells (bidding c.args.self.now.fields) c.args.cells.bytes.now c.row.result c.row.ensures c.admits.result c.admits.ensures
