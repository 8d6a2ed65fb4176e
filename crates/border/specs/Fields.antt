-- The rules of a border's fields.
use Rattle.std.specs.Prelude.{ℕ, Bool, not, ◌&&◌, List, Result, ◌==◌, slice_index_or}
use Rattle.byte_layer.specs.declared.fault.Told.{Told}
use Rattle.units.specs.Limit.{is_area, is_quantity}
use Rattle.units.specs.Field.{judged}
use Rattle.border.specs.declared.fields.BorderQuarter.{BorderQuarter}
use Rattle.border.specs.declared.fields.BorderFields.{BorderFields}

-- the quarter of a number, from 0 to 3
abbrev pub border_quarter : List BorderQuarter → ℕ → BorderQuarter
border_quarter qs k = slice_index_or qs k (record { forward = 0; back = 0 })

-- the rule on the areas: both are areas, and they differ
unfoldable pub border_placed : ℕ → ℕ → Bool
border_placed from to = is_area from && (is_area to && not (from == to))

unfoldable pub border_quarter_fine : BorderQuarter → Bool
border_quarter_fine q = is_quantity q.forward && is_quantity q.back

-- every rule but the one on the areas
unfoldable pub border_fine : List BorderQuarter → Bool
border_fine qs = border_quarter_fine (border_quarter qs 0) && (border_quarter_fine (border_quarter qs 1) && (border_quarter_fine (border_quarter qs 2) && border_quarter_fine (border_quarter qs 3)))

-- the fields, or what they tell in a row
abbrev pub border_judged : ℕ → BorderFields → Result BorderFields Told
border_judged row f = judged row (border_placed f.from f.to) (border_fine f.quarters) f
