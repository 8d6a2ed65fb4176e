use Rattle.std.proofs.Common.{take}
use Rattle.lot.specs.Page.{table_of}
use Rattle.group.proofs.Members.{ready_rows, answered}
use Rattle.group.proofs.as_lot.ExclusiveGroupLot.broken_row.Goals as goal

pub broken_row-requires : goal.broken_row-requires
broken_row-requires c = let x = c.args.self.now in record { ready = ready_rows (take x.size.members x.members) _ c.rows.ensures c.args.cells.bytes.now c.requires.ready }

pub returns : goal.returns
returns c =
    let x = c.args.self.now in
    let k = c.args.cells.bytes.now in
    answered (take x.size.members x.members) _ c.rows.ensures k (λ m. m.broken (table_of k) (table_of c.args.prices.bytes.now)) c.broken_row.ensures
