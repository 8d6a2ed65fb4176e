use Rattle.std.proofs.Common.{take}
use Rattle.lot.specs.Meaning.{cell_rows}
use Rattle.group.proofs.Members.{count_rows}
use Rattle.group.proofs.as_lot.ExclusiveGroupLot.cell_row_count.Goals as goal

pub returns : goal.returns
returns c = let x = c.args.self.now in count_rows (take x.size.members x.members) _ c.rows.ensures cell_rows c.cell_row_count.ensures
