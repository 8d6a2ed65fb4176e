use Rattle.border.proofs.Rows.{row_long}
use Rattle.border.proofs.as_lot.BorderLot.broken_row.Goals as goal

pub row-flow-requires : goal.row-flow-requires
row-flow-requires c = row_long c.args.self.now.fields c.args.cells.bytes.now c.requires.ready.sized
