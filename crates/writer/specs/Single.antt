-- Rows that stand by themselves.
use Rattle.book.specs.declared.row.Row.{Row}
use Rattle.book.specs.declared.row.Row.TheVariants as kind

-- a row that is no group
abbrev pub Single : Row → Type 0
Single (kind.Bid b) = Unit {0}
Single (kind.Group n) = ⊥
Single (kind.Need n) = Unit {0}
Single (kind.Border b) = Unit {0}
