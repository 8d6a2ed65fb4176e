use Rattle.std.proofs.Common.{take}
use Rattle.group.proofs.Members.{count_rows}
use Rattle.group.proofs.as_lot.ExclusiveGroupLot.row_count.Goals as goal

pub returns : goal.returns
returns c = let x = c.args.self.now in count_rows (take x.size.members x.members) _ c.rows.ensures (λ m. m.rows) c.row_count.ensures
