-- Where a reader stands: the bytes and the rows behind it, and the group underway, if any.
use Rattle.std.specs.Prelude.{ℕ, ◌+◌, ◌-◌, Bool, true, false, cond, Some, None, Ok, Err, Option, Result, ◌==◌}
use Rattle.byte_layer.specs.declared.fault.Told.{Told}
use Rattle.byte_layer.specs.Fault.{fault}
use Rattle.book.specs.declared.row.Row.{Row}
use Rattle.book.specs.declared.row.Row.TheVariants as kind
use Rattle.book.specs.declared.stand.Areas.{Areas}
use Rattle.book.specs.declared.stand.Areas.TheVariants.{Unknown, Same, Mixed}
use Rattle.book.specs.declared.stand.Gathering.{Gathering}
use Rattle.book.specs.declared.stand.Stand.{Stand}
use Rattle.book.specs.Rows.{row_size}

-- the areas of members, with one of an area more
abbrev pub area_on : Areas → ℕ → Areas
area_on Unknown a = Same a
area_on (Same b) a = cond (a == b) (Same b) Mixed
area_on Mixed a = Mixed

-- they are all one
abbrev pub is_one : Areas → Bool
is_one Unknown = true
is_one (Same b) = true
is_one Mixed = false

-- of the group underway: how many members are still due, its row, and the areas of its members so far; with no group
-- underway none is due
abbrev pub due_in : Option Gathering → ℕ
due_in None = 0
due_in (Some g) = g.due

abbrev pub due_of : Stand → ℕ
due_of s = due_in s.group

abbrev pub row_in : Option Gathering → ℕ
row_in None = 0
row_in (Some g) = g.row

abbrev pub row_of : Stand → ℕ
row_of s = row_in s.group

abbrev pub areas_in : Option Gathering → Areas
areas_in None = Unknown
areas_in (Some g) = g.areas

abbrev pub areas_of : Stand → Areas
areas_of s = areas_in s.group

abbrev pub same_of : Stand → Bool
same_of s = is_one (areas_of s)

-- with no group underway: so many bytes and rows
abbrev pub fresh : ℕ → ℕ → Stand
fresh at rows = record { at = at; rows = rows; group = None }

abbrev pub begin : Stand
begin = fresh 0 0

-- one row on, which is no group and no member of one
abbrev pub onward : Stand → Row → Stand
onward s r = fresh (s.at + row_size r) (s.rows + 1)

-- one member on, of an area
abbrev pub member_on : Stand → ℕ → Stand
member_on s area = record { at = s.at + 51; rows = s.rows + 1; group = Some (record { due = due_of s - 1; row = row_of s; areas = area_on (areas_of s) area }) }

-- a group's own row on
abbrev pub group_on : Stand → ℕ → Stand
group_on s n = record { at = s.at + 2; rows = s.rows + 1; group = Some (record { due = n; row = s.rows; areas = Unknown }) }

-- the last member closes the group, whose members are to be of one area (25)
abbrev pub closed : Stand → Result Stand Told
closed s = cond (due_of s == 0) (cond (same_of s) (Ok (fresh s.at s.rows)) (Err (fault 25 (row_of s)))) (Ok s)

-- where the reader stands after a row
unfoldable pub after : Stand → Row → Result Stand Told
after s (kind.Bid f) = cond (due_of s == 0) (Ok (onward s (kind.Bid f))) (closed (member_on s f.area))
after s (kind.Group n) = Ok (group_on s n)
after s (kind.Need f) = Ok (onward s (kind.Need f))
after s (kind.Border f) = Ok (onward s (kind.Border f))
