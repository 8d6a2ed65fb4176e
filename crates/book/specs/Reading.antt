-- Reading a text command by command, and its check.
use Rattle.std.specs.Prelude.{ℕ, zero, suc, ◌+◌, cond, not, ◌&&◌, List, [], ◌∷◌, length, drop, Some, None, Ok, Err, Option, Result, nat_le, nat_lt}
use Rattle.std.specs.Result.{result_map_both}
use Rattle.byte_layer.specs.declared.fault.Told.{Told}
use Rattle.byte_layer.specs.Fault.{fault}
use Rattle.book.specs.declared.check.Checked.{Checked}
use Rattle.book.specs.declared.command.Command.{Command}
use Rattle.book.specs.declared.row.Row.{Row}
use Rattle.book.specs.declared.stand.Stand.{Stand}
use Rattle.book.specs.Fault.{most_rows}
use Rattle.book.specs.Command.{command_at, is_bid, is_seal}
use Rattle.book.specs.Rows.{row_size, row_read}
use Rattle.book.specs.Stands.{begin, after, due_of}

-- a row with the stand after it
abbrev pub stood : Row → Result Stand Told → Result (Option (Row × Stand)) Told
stood r x = result_map_both (λ n. Some (r, n)) (λ e. e) x

-- one command, tried in this order: 12, 11 (`command_at`); 21, where a member is due and it is no bid; 22, where
-- the book has all its rows and it is not the seal; 23, 24 (`row_read`); 25 (`after`). It gives the row and where the reader stands then,
-- or nothing at the seal.
abbrev pub step_taken : Stand → Result (Option Row) Told → Result (Option (Row × Stand)) Told
step_taken s (Err e) = Err e
step_taken s (Ok None) = Ok None
step_taken s (Ok (Some r)) = stood r (after s r)

abbrev pub step_row : Stand → List ℕ → Command → Result (Option (Row × Stand)) Told
step_row s t k = cond (nat_le most_rows s.rows && not (is_seal k)) (Err (fault 22 most_rows)) (step_taken s (row_read k s.rows t))

abbrev pub step_command : Stand → List ℕ → Result Command Told → Result (Option (Row × Stand)) Told
step_command s t (Err e) = Err e
step_command s t (Ok k) = cond (nat_lt 0 (due_of s) && not (is_bid k)) (Err (fault 21 s.rows)) (step_row s t k)

unfoldable pub step_of : Stand → List ℕ → Result (Option (Row × Stand)) Told
step_of s t = step_command s t (command_at s.at t)

-- a row before what comes of reading on
abbrev pub push : Row → Result (List Row × Stand) Told → Result (List Row × Stand) Told
push r (Ok p) = Ok (r ∷ p.0, p.1)
push r (Err e) = Err e

-- what comes of one step, where `more` reads on
abbrev pub stepped : Stand → Result (Option (Row × Stand)) Told → (Row → Stand → Result (List Row × Stand) Told) → Result (List Row × Stand) Told
stepped s (Err e) more = Err e
stepped s (Ok None) more = Ok ([], s)
stepped s (Ok (Some p)) more = push p.0 (more p.0 p.1)

-- the rows of a text up to its seal and where the reader stands there, in at most so many steps
unfoldable pub read_rows : ℕ → Stand → List ℕ → Result (List Row × Stand) Told
read_rows zero s t = Err (fault 11 s.at)
read_rows (suc f) s t = stepped s (step_of s t) (λ r n. read_rows f n (drop (row_size r) t))

-- each step takes a byte at least, so a text's length is steps enough
unfoldable pub decoded : List ℕ → Result (List Row × Stand) Told
decoded t = read_rows (length t) begin t

abbrev pub ends : Result (List Row × Stand) Told → Result Checked Told
ends (Ok p) = Ok (record { length = p.1.at + 1; rows = p.1.rows })
ends (Err e) = Err e

-- the check of a text: the length up to and with the seal and the number of rows, or the first fault
unfoldable pub checked : List ℕ → Result Checked Told
checked t = ends (decoded t)

abbrev pub rows_of : Result (List Row × Stand) Told → List Row
rows_of (Ok p) = p.0
rows_of (Err e) = []

-- the rows of a text; one that fails its check has none
unfoldable pub rows_in : List ℕ → List Row
rows_in t = rows_of (decoded t)
