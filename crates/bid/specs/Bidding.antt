-- A bid as a lot of a single row. An upward bid sells and a downward one buys.
use Rattle.std.specs.Prelude.{ℕ, Bool, ◌&&◌, ◌||◌, ℤ, pos, ◌+ℤ◌, ◌*ℤ◌, int_le}
use Rattle.std.specs.Int.{int_max}
use Rattle.units.specs.Side.{is_upward}
use Rattle.lot.specs.Sum.{sum, every, same_z}
use Rattle.lot.specs.Meaning.{money}
use Rattle.lot.specs.Single.{Single, idle_row}
use Rattle.lot.specs.Trade.{Trade, trade_net, trade_worth, gain}
use Rattle.bid.specs.declared.fields.BidFields.{BidFields}
use Rattle.bid.specs.Fields.{bid_quarter}

abbrev pub least : BidFields → ℕ → ℤ
least f t = pos (bid_quarter f.quarters t).minimum

abbrev pub most : BidFields → ℕ → ℤ
most f t = pos (bid_quarter f.quarters t).maximum

abbrev pub bid_trade : BidFields → Trade
bid_trade f = record { area = f.area; sells = is_upward f.side; limit = λ t. (bid_quarter f.quarters t).price }

-- each cell lies from the minimum to the maximum
abbrev pub in_range : BidFields → (ℕ → ℤ) → Bool
in_range f q = every 4 (λ t. int_le (least f t) (q t) && int_le (q t) (most f t))

-- all cells are one share of their maxima
abbrev pub in_ratio : BidFields → (ℕ → ℤ) → Bool
in_ratio f q = every 4 (λ t. every 4 (λ u. same_z (q t *ℤ most f u) (q u *ℤ most f t)))

abbrev pub bidding : BidFields → Single
bidding f = record {
  -- all zero, or each in its range and all in one ratio
  admits = λ q. idle_row q || (in_range f q && in_ratio f q);
  net = trade_net (bid_trade f);
  worth = trade_worth (bid_trade f);
  -- all of the maxima, or nothing
  best = λ p. int_max (pos 0) (sum 4 (λ t. most f t *ℤ gain (bid_trade f) p t));
  -- worth plus amount over the four quarters together is not negative
  keeps = λ q p. int_le (pos 0) (trade_worth (bid_trade f) q +ℤ money (trade_net (bid_trade f) q) p);
}
