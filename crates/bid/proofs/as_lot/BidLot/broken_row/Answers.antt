use Rattle.std.proofs.Common.{◌≡◌, ℕ, List, ℤ, ◌+ℤ◌, ◌*ℤ◌, sym, ◌∙◌, w64, rules}
use Rattle.std.proofs.lemmas.Int.{to_z-of_z}
use Rattle.lot.specs.declared.trade.TradeTerms.{TradeTerms}
use Rattle.lot.specs.Sum.{sum}
use Rattle.lot.specs.Meaning.{money}
use Rattle.lot.specs.Page.{table_of, four, at}
use Rattle.lot.specs.Trade.{trade_net, trade_worth, gain}
use Rattle.lot.specs.Direction.{trade_of, TermsOf}
use Rattle.lot.specs.Laws.Trades.{trade_surplus}
use Rattle.lot.proofs.Terms.{earned}
use Rattle.lot.proofs.Alone.{alone_long, alone_within, broken_below}
use Rattle.bid.specs.declared.lawful.Bid.{Bid}
use Rattle.bid.specs.Bidding.{bidding, bid_trade}
use Rattle.bid.proofs.Trades.{inside, cells_small}
use Rattle.bid.proofs.as_lot.BidLot.broken_row.Goals as goal

pub row-requires : goal.row-requires
row-requires c = alone_long (bidding c.args.self.now.fields) c.args.cells.bytes.now c.requires.ready.sized

pub dot-surplus-requires : goal.dot-surplus-requires
dot-surplus-requires c = record {
  quantities = alone_within (bidding c.args.self.now.fields) c.args.cells.bytes.now c.row.ensures (cells_small c.args.self.now c.args.cells.bytes.now c.requires.ready);
  prices = c.gains.ensures.within;
}

surplus_same : (b : Bid) (k p : List ℕ) (x : TradeTerms) → TermsOf (bid_trade b.fields) x → (g : List ℤ) → g ≡ four (gain (trade_of x) (table_of p)) → (q : List ℤ) → q ≡ four (table_of k 0) → (r : ℤ) → r ≡ sum 4 (λ t. at q t *ℤ at g t)
    → r ≡ trade_worth (bid_trade b.fields) (table_of k 0) +ℤ money (trade_net (bid_trade b.fields) (table_of k 0)) (table_of p)
surplus_same b k p x ex g eg q eq r e =
    earned (bid_trade b.fields) x ex p g eg (table_of k 0) q eq r e ∙ sym (trade_surplus (bid_trade b.fields) (inside b) (table_of k 0) (table_of p))

pub returns : goal.returns
returns c =
    c.then_some.ensures
    ∙ broken_below (to_z-of_z w64 c.dot-surplus.result (search rules) ∙ surplus_same c.args.self.now c.args.cells.bytes.now c.args.prices.bytes.now c.terms.result c.terms.ensures c.gains.result c.gains.ensures.same c.row.result c.row.ensures c.dot-surplus.result c.dot-surplus.ensures)
