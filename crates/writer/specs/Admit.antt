-- What a writer refuses: 22, 23, 24, 26, 25, tried in this order.
use Rattle.std.specs.Prelude.{ℕ, ◌+◌, cond, Ok, Err, Option, Result, nat_le}
use Rattle.byte_layer.specs.declared.fault.Told.{Told}
use Rattle.byte_layer.specs.Fault.{fault}
use Rattle.bid.specs.declared.fields.BidFields.{BidFields}
use Rattle.bid.specs.Group.{same_area}
use Rattle.book.specs.declared.row.Row.{Row}
use Rattle.book.specs.declared.row.Row.TheVariants as kind
use Rattle.book.specs.Fault.{most_rows}
use Rattle.book.specs.Rows.{row_size, row_judged}
use Rattle.writer.specs.declared.state.GroupUnderway.{GroupUnderway}

-- a text of `len` bytes has room for `size` more behind the first `at`, or is too short (26), after so many rows
abbrev pub roomed : ℕ → ℕ → ℕ → ℕ → Result (Unit {0}) Told
roomed len at rows size = cond (nat_le (at + size) len) (Ok tt) (Err (fault 26 rows))

-- x, where y is no fault
abbrev pub unless : {X Y : Type 0} → Result X Told → Result Y Told → Result X Told
unless (Err e) y = Err e
unless (Ok x) (Err e) = Err e
unless (Ok x) (Ok y) = Ok x

-- a row as the next of a book: not past the most rows (22), lawful (23, 24), and with room (26)
unfoldable pub admitted : ℕ → ℕ → ℕ → Row → Result (Option Row) Told
admitted len at rows r = cond (nat_le most_rows rows) (Err (fault 22 most_rows)) (unless (row_judged rows r) (roomed len at rows (row_size r)))

-- and as a member of a group: of the first member's area (25)
abbrev pub joined : Result (Option Row) Told → ℕ → Option ℕ → ℕ → Result (Option Row) Told
joined (Err e) group first area = Err e
joined (Ok x) group first area = cond (same_area first area) (Ok x) (Err (fault 25 group))

abbrev pub member_admitted : ℕ → GroupUnderway → BidFields → Result (Option Row) Told
member_admitted len g f = joined (admitted len g.book.length g.book.rows (kind.Bid f)) g.before.rows g.first f.area
