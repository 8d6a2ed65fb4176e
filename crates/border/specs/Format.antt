-- The operands of a border's command, 35 bytes: from, to, step, then for each quarter forward and back, 4 bytes each.
use Rattle.std.specs.Prelude.{ℕ, ◌+◌, List, [], ◌∷◌, ◌++◌, Some, None, Err, Option, Result, slice_index}
use Rattle.byte_layer.specs.declared.fault.Told.{Told}
use Rattle.byte_layer.specs.Number.{number, octets}
use Rattle.units.specs.Field.{unreadable}
use Rattle.border.specs.declared.step.Step.{Step}
use Rattle.border.specs.declared.fields.BorderQuarter.{BorderQuarter}
use Rattle.border.specs.declared.fields.BorderFields.{BorderFields}
use Rattle.border.specs.Step.{step_for, step_byte}
use Rattle.border.specs.Fields.{border_quarter, border_placed, border_judged}

unfoldable pub border_quarter_bytes : BorderQuarter → List ℕ
border_quarter_bytes q = octets 4 q.forward ++ octets 4 q.back

unfoldable pub border_bytes : BorderFields → List ℕ
border_bytes f = (f.from ∷ f.to ∷ step_byte f.step ∷ []) ++ (border_quarter_bytes (border_quarter f.quarters 0) ++ (border_quarter_bytes (border_quarter f.quarters 1) ++ (border_quarter_bytes (border_quarter f.quarters 2) ++ border_quarter_bytes (border_quarter f.quarters 3))))

-- the quarter whose bytes stand in t from the place `at` on
unfoldable pub border_quarter_at : List ℕ → ℕ → BorderQuarter
border_quarter_at t at = record { forward = number 4 t at; back = number 4 t (at + 4) }

abbrev pub border_quarters_at : List ℕ → List BorderQuarter
border_quarters_at t = border_quarter_at t 3 ∷ border_quarter_at t 11 ∷ border_quarter_at t 19 ∷ border_quarter_at t 27 ∷ []

abbrev pub border_stepped : ℕ → List ℕ → Option Step → Result BorderFields Told
border_stepped row t None = Err (unreadable row (border_placed (slice_index t 0) (slice_index t 1)))
border_stepped row t (Some s) = border_judged row (record { from = slice_index t 0; to = slice_index t 1; step = s; quarters = border_quarters_at t })

-- the border whose operands stand at the front of t, or what they tell in a row
unfoldable pub border_read : ℕ → List ℕ → Result BorderFields Told
border_read row t = border_stepped row t (step_for (slice_index t 2))
