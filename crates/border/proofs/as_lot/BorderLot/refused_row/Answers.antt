use Rattle.std.proofs.Common.{◌∙◌}
use Rattle.lot.proofs.Alone.{tells}
use Rattle.border.specs.Flow.{flowing}
use Rattle.border.proofs.Rows.{row_long}
use Rattle.border.proofs.as_lot.BorderLot.refused_row.Goals as goal

pub row-flow-requires : goal.row-flow-requires
row-flow-requires c = row_long c.args.self.now.fields c.args.cells.bytes.now c.requires

pub returns : goal.returns
returns c = c.then_some.ensures ∙ tells (flowing c.args.self.now.fields) c.args.cells.bytes.now c.row-flow.result c.row-flow.ensures c.admits.result c.admits.ensures
