-- A need as a lot of a single row. An upward need buys and a downward one sells.
use Rattle.std.specs.Prelude.{ℕ, cond, not, ◌&&◌, ℤ, pos, ◌+ℤ◌, ◌*ℤ◌, neg_ℤ, int_le}
use Rattle.std.specs.Int.{int_max}
use Rattle.units.specs.Limit.{cap}
use Rattle.units.specs.declared.side.Side.{Side}
use Rattle.units.specs.Side.{is_upward}
use Rattle.lot.specs.Sum.{sum, every}
use Rattle.lot.specs.Single.{Single}
use Rattle.lot.specs.Trade.{Trade, trade_net, trade_worth, quarter_worth, quarter_amount, gain}
use Rattle.need.specs.declared.elasticity.Elasticity.{Elasticity}
use Rattle.need.specs.declared.elasticity.Elasticity.TheVariants.{Elastic, Inelastic}
use Rattle.need.specs.declared.fields.NeedFields.{NeedFields}
use Rattle.need.specs.Fields.{need_quarter}

abbrev pub wanted : NeedFields → ℕ → ℤ
wanted f t = pos (need_quarter f.quarters t).maximum

-- an inelastic need counts at the cap if upward, at minus the cap if downward
abbrev pub at_any_price : Side → ℤ
at_any_price s = cond (is_upward s) (pos cap) (neg_ℤ (pos cap))

-- an elastic need has its own price in each quarter
abbrev pub limit_of : Elasticity → Side → ℤ → ℤ
limit_of Elastic s price = price
limit_of Inelastic s price = at_any_price s

abbrev pub need_trade : NeedFields → Trade
need_trade f = record { area = f.area; sells = not (is_upward f.side); limit = λ t. limit_of f.elasticity f.side (need_quarter f.quarters t).price }

abbrev pub needing : NeedFields → Single
needing f = record {
  -- each quarter by itself, from nothing to its maximum
  admits = λ q. every 4 (λ t. int_le (pos 0) (q t) && int_le (q t) (wanted f t));
  net = trade_net (need_trade f);
  worth = trade_worth (need_trade f);
  -- in each quarter all of the maximum, or nothing
  best = λ p. sum 4 (λ t. int_max (pos 0) (wanted f t *ℤ gain (need_trade f) p t));
  -- worth plus amount is not negative in each quarter
  keeps = λ q p. every 4 (λ t. int_le (pos 0) (quarter_worth (need_trade f) q t +ℤ quarter_amount (need_trade f) q p t));
}
