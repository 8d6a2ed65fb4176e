-- What a trade does with power, and its terms as the code holds them.
use Rattle.std.specs.Prelude.{◌≡◌, Bool, true, false}
use Rattle.lot.specs.declared.trade.Direction.{Direction}
use Rattle.lot.specs.declared.trade.Direction.TheVariants.{Sells, Buys}
use Rattle.lot.specs.declared.trade.TradeTerms.{TradeTerms}
use Rattle.lot.specs.Page.{at, four}
use Rattle.lot.specs.Trade.{Trade}

abbrev pub sells : Direction → Bool
sells Sells = true
sells Buys = false

abbrev pub towards : Bool → Direction
towards true = Sells
towards false = Buys

abbrev pub trade_of : TradeTerms → Trade
trade_of x = record { area = x.area; sells = sells x.direction; limit = at x.limits }

-- x holds the terms of T
pub record TermsOf (T : Trade) (x : TradeTerms) : Type 0 where
  pub area : x.area ≡ T.area
  pub direction : x.direction ≡ towards T.sells
  pub limits : x.limits ≡ four T.limit
