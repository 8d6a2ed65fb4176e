-- The row that a lawful row is, by its fields.
use Rattle.std.specs.Prelude.{Some, Ok, Err, Option, Result}
use Rattle.book.specs.declared.row.Row.{Row}
use Rattle.book.specs.declared.row.Row.TheVariants as kind
use Rattle.writer.specs.declared.lawful.LawfulRow.{LawfulRow}
use Rattle.writer.specs.declared.lawful.LawfulRow.TheVariants as lawful

abbrev pub row_of : LawfulRow → Row
row_of (lawful.Bid b) = kind.Bid b.fields
row_of (lawful.Group g) = kind.Group g.members
row_of (lawful.Need n) = kind.Need n.fields
row_of (lawful.Border b) = kind.Border b.fields

abbrev pub row_in : {E : Type 0} → Result LawfulRow E → Result (Option Row) E
row_in (Ok l) = Ok (Some (row_of l))
row_in (Err e) = Err e
