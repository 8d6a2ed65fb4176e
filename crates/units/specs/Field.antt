-- What the fields of a row are refused for: its areas first (23), then any other rule (24), at the row.
use Rattle.std.specs.Prelude.{ℕ, Bool, cond, Ok, Err, Result}
use Rattle.byte_layer.specs.declared.fault.Told.{Told}
use Rattle.byte_layer.specs.Fault.{fault}
use Rattle.units.specs.declared.field.FieldFault.{FieldFault}
use Rattle.units.specs.declared.field.FieldFault.TheVariants.{Area, Rule}

abbrev pub told_field : ℕ → FieldFault → Told
told_field row Area = fault 23 row
told_field row Rule = fault 24 row

-- the fields x of a row, where `areas` says that its areas are lawful, and `others` that its other fields are
abbrev pub judged : {X : Type 0} → ℕ → Bool → Bool → X → Result X Told
judged row areas others x = cond areas (cond others (Ok x) (Err (fault 24 row))) (Err (fault 23 row))

-- what fields tell of which a byte names nothing
abbrev pub unreadable : ℕ → Bool → Told
unreadable row areas = cond areas (fault 24 row) (fault 23 row)
