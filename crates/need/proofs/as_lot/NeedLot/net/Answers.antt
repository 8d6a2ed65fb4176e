use Rattle.std.proofs.Common.{◌≡◌, ap, ◌∙◌, lit<, w32, w64, to_z, of_z, rules}
use Rattle.std.proofs.lemmas.Int.{to_z-of_z}
use Rattle.lot.specs.Page.{table_of}
use Rattle.lot.specs.Trade.{trade_net}
use Rattle.lot.specs.Direction.{trade_of}
use Rattle.lot.proofs.Terms.{terms_net}
use Rattle.lot.proofs.Alone.{alone_long, alone_net, cell_small}
use Rattle.need.specs.Needing.{need_trade, needing}
use Rattle.need.proofs.Trades.{cells_small}
use Rattle.need.proofs.as_lot.NeedLot.net.Goals as goal

pub cell-requires : goal.cell-requires
cell-requires c = (c.requires.quarter, alone_long (needing c.args.self.now.fields) c.args.cells.bytes.now c.requires.ready.sized)

pub net-requires : goal.net-requires
net-requires c = cell_small (cells_small c.args.self.now c.args.cells.bytes.now c.requires.ready c.args.quarter c.requires.quarter) c.cell.ensures (lit< tt)

pub returns : goal.returns
returns c =
    let f = c.args.self.now.fields in
    let k = c.args.cells.bytes.now in
    let same : to_z w32 (of_z w32 c.cell.result) ≡ table_of k 0 c.args.quarter = to_z-of_z w32 c.cell.result (search rules) ∙ c.cell.ensures in
    to_z-of_z w64 c.net.result (search rules)
    ∙ alone_net (needing f) k c.args.area c.args.quarter c.net.result
    (c.net.ensures
    ∙ ap (λ z. trade_net (trade_of c.terms.result) (λ _. z) c.args.area c.args.quarter) same
    ∙ terms_net (need_trade f) c.terms.result c.terms.ensures (table_of k 0) c.args.area c.args.quarter)
