-- The rows that a text holds for a book that is being written: those that were filed, in order.
use Rattle.std.specs.Prelude.{ℕ, ◌<◌, ◌≤◌, List, ◌++◌, Some, None, Option}
use Rattle.book.specs.declared.row.Row.{Row}
use Rattle.book.specs.declared.stand.Areas.{Areas}
use Rattle.book.specs.declared.stand.Areas.TheVariants.{Unknown, Same}
use Rattle.book.specs.declared.stand.Stand.{Stand}
use Rattle.book.specs.Stands.{fresh}
use Rattle.book.specs.Writing.{Begins}
use Rattle.writer.specs.declared.state.OpenBook.{OpenBook}
use Rattle.writer.specs.declared.state.GroupUnderway.{GroupUnderway}
use Rattle.writer.specs.declared.state.Membership.{Membership}
use Rattle.writer.specs.declared.state.Membership.TheVariants.{More, Last}

-- where a reader of the text stands who has read what is written
abbrev pub opened : OpenBook → Stand
opened b = fresh b.length b.rows

abbrev pub areas_for : Option ℕ → Areas
areas_for None = Unknown
areas_for (Some area) = Same area

abbrev pub underway : GroupUnderway → Stand
underway g = record { at = g.book.length; rows = g.book.rows; group = Some (record { due = g.due; row = g.before.rows; areas = areas_for g.first }) }

-- t holds the rows rs, which the book b has so far
abbrev pub Holds : List ℕ → OpenBook → List Row → Type 0
Holds t b rs = Begins t (opened b) rs

-- t holds the rows rs and, behind them, the group's row and members so far, ms; more members are due
pub record Owes (t : List ℕ) (g : GroupUnderway) (rs ms : List Row) : Type 0 where
  pub before : Begins t (opened g.before) rs
  pub since : g.before.length ≤ g.book.length
  pub begins : Begins t (underway g) (rs ++ ms)
  pub due : 0 < g.due

abbrev pub HoldsNext : List ℕ → Membership → List Row → List Row → Type 0
HoldsNext t (More g) rs ms = Owes t g rs ms
HoldsNext t (Last b) rs ms = Holds t b (rs ++ ms)
