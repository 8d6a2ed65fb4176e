use Rattle.std.proofs.Common.{take, ◌∙◌, w64, rules}
use Rattle.std.proofs.lemmas.Int.{to_z-of_z}
use Rattle.lot.specs.Meaning.{amount}
use Rattle.lot.specs.Page.{table_of}
use Rattle.group.proofs.Members.{ready_rows, row_below, answered}
use Rattle.group.proofs.as_lot.ExclusiveGroupLot.amount.Goals as goal

pub amount-requires : goal.amount-requires
amount-requires c =
    let x = c.args.self.now in
    let k = c.args.cells.bytes.now in
    record { ready = ready_rows (take x.size.members x.members) _ c.rows.ensures k c.requires.ready; row = row_below (take x.size.members x.members) _ c.rows.ensures k c.args.row c.requires.row }

pub returns : goal.returns
returns c =
    let x = c.args.self.now in
    let k = c.args.cells.bytes.now in
    to_z-of_z w64 c.amount.result (search rules) ∙ answered (take x.size.members x.members) _ c.rows.ensures k (λ m. amount m (table_of k) (table_of c.args.prices.bytes.now) c.args.row) c.amount.ensures
