use Rattle.std.proofs.Common.{◌∙◌, ap, w64, rules}
use Rattle.std.proofs.lemmas.Int.{to_z-of_z}
use Rattle.lot.specs.Page.{table_of}
use Rattle.lot.specs.Trade.{trade_worth}
use Rattle.lot.specs.Direction.{trade_of}
use Rattle.lot.proofs.Terms.{terms_worth}
use Rattle.lot.proofs.Alone.{alone_long, alone_within, row_is}
use Rattle.bid.specs.Bidding.{bidding, bid_trade}
use Rattle.bid.proofs.Trades.{cells_small}
use Rattle.bid.proofs.as_lot.BidLot.worth.Goals as goal

pub row-requires : goal.row-requires
row-requires c = alone_long (bidding c.args.self.now.fields) c.args.cells.bytes.now c.requires.ready.sized

pub worth-requires : goal.worth-requires
worth-requires c = alone_within (bidding c.args.self.now.fields) c.args.cells.bytes.now c.row.ensures (cells_small c.args.self.now c.args.cells.bytes.now c.requires.ready)

pub returns : goal.returns
returns c =
    let b = c.args.self.now in
    let k = c.args.cells.bytes.now in
    to_z-of_z w64 c.worth.result (search rules)
    ∙ c.worth.ensures
    ∙ ap (trade_worth (trade_of c.terms.result)) (row_is (bidding b.fields) k c.row.result c.row.ensures)
    ∙ terms_worth (bid_trade b.fields) c.terms.result c.terms.ensures (table_of k 0)
