-- The fields that a lawful border holds.
use Rattle.std.specs.Prelude.{Ok, Err, Result}
use Rattle.units.specs.declared.field.FieldFault.{FieldFault}
use Rattle.border.specs.declared.fields.BorderFields.{BorderFields}
use Rattle.border.specs.declared.lawful.Border.{Border}

abbrev pub fields_in : Result Border FieldFault → Result BorderFields FieldFault
fields_in (Ok b) = Ok b.fields
fields_in (Err e) = Err e
