-- What each fault of a book tells.
use Rattle.std.specs.Prelude.{ℕ}
use Rattle.byte_layer.specs.declared.fault.Told.{Told}
use Rattle.byte_layer.specs.Fault.{fault, told_byte}
use Rattle.book.specs.declared.fault.BookFault.{BookFault}
use Rattle.book.specs.declared.fault.BookFault.TheVariants.{Bytes, Member, Full, Area, Field, Mixed, Short}

-- the most rows of a book
abbrev pub most_rows : ℕ
most_rows = 1024

abbrev pub told_book : BookFault → Told
told_book (Bytes e) = told_byte e
told_book (Member row) = fault 21 row
told_book Full = fault 22 most_rows
told_book (Area row) = fault 23 row
told_book (Field row) = fault 24 row
told_book (Mixed row) = fault 25 row
told_book (Short rows) = fault 26 rows
