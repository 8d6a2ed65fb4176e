use Rattle.std.proofs.Common.{take, rules}
use Rattle.group.proofs.Members.{sized_rows, long_rows, named_or}
use Rattle.group.proofs.as_lot.ExclusiveGroupLot.refused_row.Goals as goal

pub refused_row-requires : goal.refused_row-requires
refused_row-requires c = let x = c.args.self.now in sized_rows (take x.size.members x.members) _ c.rows.ensures c.args.cells.bytes.now c.requires

pub or_else-requires : goal.or_else-requires
or_else-requires c =
    let x = c.args.self.now in
    let long = long_rows (take x.size.members x.members) _ c.rows.ensures c.args.cells.bytes.now c.requires in
    search rules

pub returns : goal.returns
returns c =
    let x = c.args.self.now in
    named_or (take x.size.members x.members) _ c.rows.ensures c.args.cells.bytes.now c.refused_row.result c.refused_row.ensures c.or_else.ensures (λ p. search rules)
