-- The rows of a book: their commands' bytes, and the rules of their fields.
use Rattle.std.specs.Prelude.{◌≡◌, ℕ, List, [], ◌∷◌, length, drop, flat_map, Some, None, Ok, Err, Option, Result, slice_index}
use Rattle.byte_layer.specs.declared.fault.Told.{Told}
use Rattle.bid.specs.Fields.{bid_judged}
use Rattle.bid.specs.Format.{bid_bytes, bid_read}
use Rattle.bid.specs.Group.{group_judged}
use Rattle.need.specs.Fields.{need_judged}
use Rattle.need.specs.Format.{need_bytes, need_read}
use Rattle.border.specs.Fields.{border_judged}
use Rattle.border.specs.Format.{border_bytes, border_read}
use Rattle.book.specs.declared.command.Command.{Command}
use Rattle.book.specs.declared.command.Command.TheVariants as command
use Rattle.book.specs.declared.row.Row.{Row}
use Rattle.book.specs.declared.row.Row.TheVariants as kind
use Rattle.book.specs.Command.{command_byte}

-- the command that a row is
abbrev pub command_of : Row → Command
command_of (kind.Bid f) = command.Bid
command_of (kind.Group n) = command.Group
command_of (kind.Need f) = command.Need
command_of (kind.Border f) = command.Border

abbrev pub row_size : Row → ℕ
row_size (kind.Bid f) = 51
row_size (kind.Group n) = 2
row_size (kind.Need f) = 36
row_size (kind.Border f) = 36

-- the bytes of a row's operands, and of its command
abbrev pub operands : Row → List ℕ
operands (kind.Bid f) = bid_bytes f
operands (kind.Group n) = n ∷ []
operands (kind.Need f) = need_bytes f
operands (kind.Border f) = border_bytes f

abbrev pub row_bytes : Row → List ℕ
row_bytes r = command_byte (command_of r) ∷ operands r

-- the bytes of rows, one behind the other
abbrev pub encode : List Row → List ℕ
encode rs = flat_map row_bytes rs

-- fields as a row of their kind
abbrev pub rowed : {X : Type 0} → (X → Row) → Result X Told → Result (Option Row) Told
rowed f (Ok x) = Ok (Some (f x))
rowed f (Err e) = Err e

-- a group of so many members
abbrev pub group_read : ℕ → ℕ → Result (Option Row) Told
group_read row n = rowed kind.Group (group_judged row n)

-- the row of a command at the front of t, or what its fields tell; the seal is none
unfoldable pub row_read : Command → ℕ → List ℕ → Result (Option Row) Told
row_read command.Bid row t = rowed kind.Bid (bid_read row (drop 1 t))
row_read command.Group row t = group_read row (slice_index t 1)
row_read command.Need row t = rowed kind.Need (need_read row (drop 1 t))
row_read command.Border row t = rowed kind.Border (border_read row (drop 1 t))
row_read command.Seal row t = Ok None

-- the same rules for fields that a writer is handed
abbrev pub row_judged : ℕ → Row → Result (Option Row) Told
row_judged row (kind.Bid f) = rowed kind.Bid (bid_judged row f)
row_judged row (kind.Group n) = group_read row n
row_judged row (kind.Need f) = rowed kind.Need (need_judged row f)
row_judged row (kind.Border f) = rowed kind.Border (border_judged row f)

-- four quarters, as the arrays of the code have
abbrev pub Four : Row → Type 0
Four (kind.Bid f) = length f.quarters ≡ 4
Four (kind.Group n) = Unit {0}
Four (kind.Need f) = length f.quarters ≡ 4
Four (kind.Border f) = length f.quarters ≡ 4
