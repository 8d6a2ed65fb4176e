-- The rows that a reader has before it.
use Rattle.std.specs.Prelude.{ℕ, Bool, true, false, List, length, Ok, Err, Result}
use Rattle.byte_layer.specs.declared.fault.Told.{Told}
use Rattle.book.specs.declared.row.Row.{Row}
use Rattle.book.specs.declared.stand.Stand.{Stand}
use Rattle.book.specs.Reading.{read_rows, rows_of}

-- reading on from there finds no fault
abbrev pub reads : Result (List Row × Stand) Told → Bool
reads (Ok p) = true
reads (Err e) = false

abbrev pub reads_on : Stand → List ℕ → Bool
reads_on s t = reads (read_rows (length t) s t)

-- and these rows
unfoldable pub ahead : Stand → List ℕ → List Row
ahead s t = rows_of (read_rows (length t) s t)
