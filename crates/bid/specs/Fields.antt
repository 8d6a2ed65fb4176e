-- The rules of a bid's fields.
use Rattle.std.specs.Prelude.{ℕ, Bool, ◌&&◌, ◌||◌, List, pos, Result, nat_le, nat_lt, slice_index_or}
use Rattle.byte_layer.specs.declared.fault.Told.{Told}
use Rattle.units.specs.Limit.{is_area, is_quantity, is_price, is_zero}
use Rattle.units.specs.Field.{judged}
use Rattle.bid.specs.declared.fields.BidQuarter.{BidQuarter}
use Rattle.bid.specs.declared.fields.BidFields.{BidFields}

-- the quarter of a number, from 0 to 3
abbrev pub bid_quarter : List BidQuarter → ℕ → BidQuarter
bid_quarter qs k = slice_index_or qs k (record { minimum = 0; maximum = 0; price = pos 0 })

-- the minimum is at most the maximum, and a quarter that is not offered has minimum and price 0
unfoldable pub quarter_fine : BidQuarter → Bool
quarter_fine q = nat_le q.minimum q.maximum && (is_quantity q.maximum && (is_price q.price && (nat_lt 0 q.maximum || is_zero q.price)))

-- some quarter is offered
unfoldable pub bid_offers : List BidQuarter → Bool
bid_offers qs = nat_lt 0 (bid_quarter qs 0).maximum || (nat_lt 0 (bid_quarter qs 1).maximum || (nat_lt 0 (bid_quarter qs 2).maximum || nat_lt 0 (bid_quarter qs 3).maximum))

-- every rule but the one on the area
unfoldable pub bid_fine : List BidQuarter → Bool
bid_fine qs = quarter_fine (bid_quarter qs 0) && (quarter_fine (bid_quarter qs 1) && (quarter_fine (bid_quarter qs 2) && (quarter_fine (bid_quarter qs 3) && bid_offers qs)))

-- the fields, or what they tell in a row
abbrev pub bid_judged : ℕ → BidFields → Result BidFields Told
bid_judged row f = judged row (is_area f.area) (bid_fine f.quarters) f
