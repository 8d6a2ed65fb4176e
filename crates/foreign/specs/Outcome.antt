-- The check of a text as plain numbers.
use Rattle.std.specs.Prelude.{ℕ, Ok, Err, Result}
use Rattle.byte_layer.specs.declared.fault.Told.{Told}
use Rattle.book.specs.declared.check.Checked.{Checked}

abbrev pub fault_number : Result Checked Told → ℕ
fault_number (Ok k) = 0
fault_number (Err e) = e.number

abbrev pub place_or_length : Result Checked Told → ℕ
place_or_length (Ok k) = k.length
place_or_length (Err e) = e.place

abbrev pub rows_found : Result Checked Told → ℕ
rows_found (Ok k) = k.rows
rows_found (Err e) = 0
