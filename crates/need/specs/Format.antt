-- The operands of a need's command, 35 bytes: area, side, elasticity, then for each quarter maximum and price,
-- 4 bytes each, the price signed.
use Rattle.std.specs.Prelude.{ℕ, ◌+◌, List, [], ◌∷◌, ◌++◌, Some, None, Err, Option, Result, slice_index}
use Rattle.byte_layer.specs.declared.fault.Told.{Told}
use Rattle.byte_layer.specs.Number.{number, octets, signed_number, signed_octets}
use Rattle.units.specs.declared.side.Side.{Side}
use Rattle.units.specs.Side.{side_of, side_byte}
use Rattle.units.specs.Limit.{is_area}
use Rattle.units.specs.Field.{unreadable}
use Rattle.need.specs.declared.elasticity.Elasticity.{Elasticity}
use Rattle.need.specs.declared.fields.NeedQuarter.{NeedQuarter}
use Rattle.need.specs.declared.fields.NeedFields.{NeedFields}
use Rattle.need.specs.Elasticity.{elasticity_of, elasticity_byte}
use Rattle.need.specs.Fields.{need_quarter, need_judged}

unfoldable pub need_quarter_bytes : NeedQuarter → List ℕ
need_quarter_bytes q = octets 4 q.maximum ++ signed_octets 4 q.price

unfoldable pub need_bytes : NeedFields → List ℕ
need_bytes f = (f.area ∷ side_byte f.side ∷ elasticity_byte f.elasticity ∷ []) ++ (need_quarter_bytes (need_quarter f.quarters 0) ++ (need_quarter_bytes (need_quarter f.quarters 1) ++ (need_quarter_bytes (need_quarter f.quarters 2) ++ need_quarter_bytes (need_quarter f.quarters 3))))

-- the quarter whose bytes stand in t from the place `at` on
unfoldable pub need_quarter_at : List ℕ → ℕ → NeedQuarter
need_quarter_at t at = record { maximum = number 4 t at; price = signed_number 4 t (at + 4) }

abbrev pub need_quarters_at : List ℕ → List NeedQuarter
need_quarters_at t = need_quarter_at t 3 ∷ need_quarter_at t 11 ∷ need_quarter_at t 19 ∷ need_quarter_at t 27 ∷ []

abbrev pub need_named : ℕ → List ℕ → Option Side → Option Elasticity → Result NeedFields Told
need_named row t None e = Err (unreadable row (is_area (slice_index t 0)))
need_named row t (Some s) None = Err (unreadable row (is_area (slice_index t 0)))
need_named row t (Some s) (Some e) = need_judged row (record { area = slice_index t 0; side = s; elasticity = e; quarters = need_quarters_at t })

-- the need whose operands stand at the front of t, or what they tell in a row
unfoldable pub need_read : ℕ → List ℕ → Result NeedFields Told
need_read row t = need_named row t (side_of (slice_index t 1)) (elasticity_of (slice_index t 2))
