use Rattle.std.proofs.Common.{◌∙◌, ap, w64, rules}
use Rattle.std.proofs.lemmas.Int.{to_z-of_z}
use Rattle.lot.specs.Meaning.{money}
use Rattle.lot.specs.Page.{table_of}
use Rattle.lot.specs.Trade.{trade_net}
use Rattle.lot.specs.Direction.{trade_of}
use Rattle.lot.proofs.Terms.{terms_money}
use Rattle.lot.proofs.Alone.{alone_long, alone_within, row_is}
use Rattle.need.specs.Needing.{needing, need_trade}
use Rattle.need.proofs.Trades.{cells_small}
use Rattle.need.proofs.as_lot.NeedLot.amount.Goals as goal

pub row-requires : goal.row-requires
row-requires c = alone_long (needing c.args.self.now.fields) c.args.cells.bytes.now c.requires.ready.sized

pub amount-requires : goal.amount-requires
amount-requires c = alone_within (needing c.args.self.now.fields) c.args.cells.bytes.now c.row.ensures (cells_small c.args.self.now c.args.cells.bytes.now c.requires.ready)

pub returns : goal.returns
returns c =
    let b = c.args.self.now in
    let k = c.args.cells.bytes.now in
    let p = table_of c.args.prices.bytes.now in
    to_z-of_z w64 c.amount.result (search rules)
    ∙ c.amount.ensures
    ∙ ap (λ q. money (trade_net (trade_of c.terms.result) q) p) (row_is (needing b.fields) k c.row.result c.row.ensures)
    ∙ terms_money (need_trade b.fields) c.terms.result c.terms.ensures (table_of k 0) p
