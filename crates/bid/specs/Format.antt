-- The operands of a bid's command, 50 bytes: area, side, then for each quarter minimum, maximum and price,
-- 4 bytes each, the price signed.
use Rattle.std.specs.Prelude.{ℕ, ◌+◌, List, [], ◌∷◌, ◌++◌, Some, None, Err, Option, Result, slice_index}
use Rattle.byte_layer.specs.declared.fault.Told.{Told}
use Rattle.byte_layer.specs.Number.{number, octets, signed_number, signed_octets}
use Rattle.units.specs.declared.side.Side.{Side}
use Rattle.units.specs.Side.{side_of, side_byte}
use Rattle.units.specs.Limit.{is_area}
use Rattle.units.specs.Field.{unreadable}
use Rattle.bid.specs.declared.fields.BidQuarter.{BidQuarter}
use Rattle.bid.specs.declared.fields.BidFields.{BidFields}
use Rattle.bid.specs.Fields.{bid_quarter, bid_judged}

unfoldable pub quarter_bytes : BidQuarter → List ℕ
quarter_bytes q = octets 4 q.minimum ++ (octets 4 q.maximum ++ signed_octets 4 q.price)

unfoldable pub bid_bytes : BidFields → List ℕ
bid_bytes f = (f.area ∷ side_byte f.side ∷ []) ++ (quarter_bytes (bid_quarter f.quarters 0) ++ (quarter_bytes (bid_quarter f.quarters 1) ++ (quarter_bytes (bid_quarter f.quarters 2) ++ quarter_bytes (bid_quarter f.quarters 3))))

-- the quarter whose bytes stand in t from the place `at` on
unfoldable pub quarter_at : List ℕ → ℕ → BidQuarter
quarter_at t at = record { minimum = number 4 t at; maximum = number 4 t (at + 4); price = signed_number 4 t (at + 8) }

abbrev pub quarters_at : List ℕ → List BidQuarter
quarters_at t = quarter_at t 2 ∷ quarter_at t 14 ∷ quarter_at t 26 ∷ quarter_at t 38 ∷ []

abbrev pub bid_sided : ℕ → List ℕ → Option Side → Result BidFields Told
bid_sided row t None = Err (unreadable row (is_area (slice_index t 0)))
bid_sided row t (Some s) = bid_judged row (record { area = slice_index t 0; side = s; quarters = quarters_at t })

-- the bid whose operands stand at the front of t, or what they tell in a row
unfoldable pub bid_read : ℕ → List ℕ → Result BidFields Told
bid_read row t = bid_sided row t (side_of (slice_index t 1))
