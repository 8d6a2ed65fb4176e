use Rattle.std.proofs.Common.{take, ◌∙◌, w64, rules}
use Rattle.std.proofs.lemmas.Int.{to_z-of_z}
use Rattle.lot.specs.Meaning.{lot_net}
use Rattle.lot.specs.Page.{table_of}
use Rattle.group.proofs.Members.{ready_rows, answered}
use Rattle.group.proofs.as_lot.ExclusiveGroupLot.net.Goals as goal

pub net-requires : goal.net-requires
net-requires c = let x = c.args.self.now in record { ready = ready_rows (take x.size.members x.members) _ c.rows.ensures c.args.cells.bytes.now c.requires.ready; area = c.requires.area; quarter = c.requires.quarter }

pub returns : goal.returns
returns c =
    let x = c.args.self.now in
    let k = c.args.cells.bytes.now in
    to_z-of_z w64 c.net.result (search rules) ∙ answered (take x.size.members x.members) _ c.rows.ensures k (λ m. lot_net m (table_of k) c.args.area c.args.quarter) c.net.ensures
