-- The rules of a need's fields.
use Rattle.std.specs.Prelude.{ℕ, Bool, false, ◌&&◌, ◌||◌, List, pos, Result, nat_lt, slice_index_or}
use Rattle.byte_layer.specs.declared.fault.Told.{Told}
use Rattle.units.specs.Limit.{is_area, is_quantity, is_price, is_zero}
use Rattle.units.specs.Field.{judged}
use Rattle.need.specs.declared.elasticity.Elasticity.{Elasticity}
use Rattle.need.specs.declared.elasticity.Elasticity.TheVariants.{Elastic, Inelastic}
use Rattle.need.specs.declared.fields.NeedQuarter.{NeedQuarter}
use Rattle.need.specs.declared.fields.NeedFields.{NeedFields}

-- the quarter of a number, from 0 to 3
abbrev pub need_quarter : List NeedQuarter → ℕ → NeedQuarter
need_quarter qs k = slice_index_or qs k (record { maximum = 0; price = pos 0 })

-- only an elastic need has prices, and only in quarters that are offered
abbrev pub may_price : Elasticity → ℕ → Bool
may_price Elastic maximum = nat_lt 0 maximum
may_price Inelastic maximum = false

-- a quarter that may not have a price has price 0
unfoldable pub need_quarter_fine : Elasticity → NeedQuarter → Bool
need_quarter_fine e q = is_quantity q.maximum && (is_price q.price && (may_price e q.maximum || is_zero q.price))

-- some quarter is offered
unfoldable pub need_offers : List NeedQuarter → Bool
need_offers qs = nat_lt 0 (need_quarter qs 0).maximum || (nat_lt 0 (need_quarter qs 1).maximum || (nat_lt 0 (need_quarter qs 2).maximum || nat_lt 0 (need_quarter qs 3).maximum))

-- every rule but the one on the area
unfoldable pub need_fine : Elasticity → List NeedQuarter → Bool
need_fine e qs = need_quarter_fine e (need_quarter qs 0) && (need_quarter_fine e (need_quarter qs 1) && (need_quarter_fine e (need_quarter qs 2) && (need_quarter_fine e (need_quarter qs 3) && need_offers qs)))

-- the fields, or what they tell in a row
abbrev pub need_judged : ℕ → NeedFields → Result NeedFields Told
need_judged row f = judged row (is_area f.area) (need_fine f.elasticity f.quarters) f
