-- The cells of two lots set one after the other, and the row that is named of several.
use Rattle.std.specs.Prelude.{ℕ, ◌+◌, Bool, cond, Some, None, Option}
use Rattle.std.specs.Option.{option_map}
use Rattle.lot.specs.Sum.{beside}
use Rattle.lot.specs.Meaning.{Cells, no_cells}

-- the cells of the first n cell rows, and nothing past them
unfoldable pub front : ℕ → Cells → Cells
front n c = beside n c no_cells

-- the cells from cell row n on
unfoldable pub shift : ℕ → Cells → Cells
shift n c k = c (n + k)

-- the first row that is named; the second's are raised by n
abbrev pub first_named : ℕ → Option ℕ → Option ℕ → Option ℕ
first_named n None y = option_map (λ r. n + r) y
first_named n (Some r) y = Some r

-- a row that the members of a group name, else the group's own row, 0, where its own rule is broken
abbrev pub group_named : Option ℕ → Bool → Option ℕ
group_named None kept = cond kept None (Some 0)
group_named (Some r) kept = Some r
