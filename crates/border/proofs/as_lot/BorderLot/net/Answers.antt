use Rattle.border.proofs.Rows.{row_long, net_is}
use Rattle.border.proofs.as_lot.BorderLot.net.Goals as goal

pub cell-flow-requires : goal.cell-flow-requires
cell-flow-requires c = (c.requires.quarter, row_long c.args.self.now.fields c.args.cells.bytes.now c.requires.ready.sized)

pub returns : goal.returns
returns c = net_is c.args.self.now.fields c.args.cells.bytes.now c.args.area c.args.quarter c.cell-flow.result c.carried.result
    c.cell-flow.ensures (record { sfits = c.cell-flow.type_inv }) c.carried.ensures (record { sfits = c.carried.type_inv })
