use Rattle.std.proofs.Common.{◌∙◌, arith, w64, rules}
use Rattle.std.proofs.lemmas.Int.{to_z-of_z}
use Rattle.lot.specs.Meaning.{amount as amount_of}
use Rattle.lot.specs.Page.{table_of}
use Rattle.joined.proofs.Halves.{both, asks, first_ready, next_ready, amounts}
use Rattle.joined.proofs.Walks.{seeking_none, seeking_here, seeking_next}
use Rattle.joined.proofs.joined.JoinedLot.amount.Goals as goal

pub front_part-requires : goal.front_part-requires
front_part-requires g c = asks (both g.A.Lot g.B.Lot c.args.self.now.0 c.args.self.now.1) c.requires.ready.sized

pub amount-requires : goal.amount-requires
amount-requires g c = record { ready = first_ready (both g.A.Lot g.B.Lot c.args.self.now.0 c.args.self.now.1) c.front_part.ensures c.requires.ready; row = omega arith }

pub rest_part-requires : goal.rest_part-requires
rest_part-requires g c = asks (both g.A.Lot g.B.Lot c.args.self.now.0 c.args.self.now.1) c.requires.ready.sized

pub amount-requires-else-row-rows : goal.amount-requires-else-row-rows
amount-requires-else-row-rows g c = record { ready = next_ready (both g.A.Lot g.B.Lot c.args.self.now.0 c.args.self.now.1) c.rest_part.ensures c.requires.ready; row = let few = c.requires.ready.sized.few in omega arith }

pub returns-then-row-rows : goal.returns-then-row-rows
returns-then-row-rows g c = to_z-of_z w64 c.amount.result (search rules) ∙ c.amount.ensures
    ∙ seeking_here (both g.A.Lot g.B.Lot c.args.self.now.0 c.args.self.now.1) (seeking_none {w = λ m d r. amount_of m d (table_of c.args.prices.bytes.now) r} c.requires.ready c.requires.row) _ c.row_count-rows.ensures (amounts _) c.front_part.ensures c.if-row-rows.true

pub returns-else-row-rows : goal.returns-else-row-rows
returns-else-row-rows g c = to_z-of_z w64 c.amount-else-row-rows.result (search rules) ∙ c.amount-else-row-rows.ensures
    ∙ (seeking_next (both g.A.Lot g.B.Lot c.args.self.now.0 c.args.self.now.1) (seeking_none {w = λ m d r. amount_of m d (table_of c.args.prices.bytes.now) r} c.requires.ready c.requires.row) _ c.row_count-rows.ensures (amounts _) c.rest_part.ensures c.if-row-rows.false).same
