-- The fields that a lawful bid and a lawful group hold.
use Rattle.std.specs.Prelude.{ℕ, Ok, Err, Result}
use Rattle.units.specs.declared.field.FieldFault.{FieldFault}
use Rattle.bid.specs.declared.fields.BidFields.{BidFields}
use Rattle.bid.specs.declared.lawful.Bid.{Bid}
use Rattle.bid.specs.declared.size.GroupSize.{GroupSize}

abbrev pub fields_in : Result Bid FieldFault → Result BidFields FieldFault
fields_in (Ok b) = Ok b.fields
fields_in (Err e) = Err e

abbrev pub members_in : Result GroupSize FieldFault → Result ℕ FieldFault
members_in (Ok g) = Ok g.members
members_in (Err e) = Err e
