-- The rows that a reader of a sealed book has left.
use Rattle.std.specs.Prelude.{◌≡◌, false, not, ◌&&◌, List, ◌∷◌, Ok, nat_lt}
use Rattle.book.specs.declared.row.Row.{Row}
use Rattle.book.specs.Command.{is_bid}
use Rattle.book.specs.Rows.{command_of}
use Rattle.book.specs.Stands.{after, due_of}
use Rattle.sealed.specs.declared.rows.Rows.{Rows}
use Rattle.sealed.specs.Ahead.{ahead}

abbrev pub rows_left : Rows → List Row
rows_left x = ahead x.stand x.rest.now

-- r is the first of the rows that x has left, and y has those after it; while a member is due it is a bid
pub record NextRow (x : Rows) (r : Row) (y : Rows) : Type 0 where
  pub ahead : rows_left x ≡ r ∷ rows_left y
  pub after : after x.stand r ≡ Ok y.stand
  pub due : (nat_lt 0 (due_of x.stand) && not (is_bid (command_of r))) ≡ false
