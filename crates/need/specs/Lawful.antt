-- The fields that a lawful need holds.
use Rattle.std.specs.Prelude.{Ok, Err, Result}
use Rattle.units.specs.declared.field.FieldFault.{FieldFault}
use Rattle.need.specs.declared.fields.NeedFields.{NeedFields}
use Rattle.need.specs.declared.lawful.Need.{Need}

abbrev pub fields_in : Result Need FieldFault → Result NeedFields FieldFault
fields_in (Ok n) = Ok n.fields
fields_in (Err e) = Err e
