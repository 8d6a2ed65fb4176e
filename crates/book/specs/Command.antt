-- The commands of a book: one byte, followed by operands of fixed widths.
use Rattle.std.specs.Prelude.{ℕ, Bool, true, false, cond, List, [], ◌∷◌, length, Some, None, Ok, Err, Option, Result, ◌==◌, nat_le}
use Rattle.byte_layer.specs.declared.fault.Told.{Told}
use Rattle.byte_layer.specs.Fault.{fault}
use Rattle.book.specs.declared.command.Command.{Command}
use Rattle.book.specs.declared.command.Command.TheVariants as command

-- the command's byte
abbrev pub command_byte : Command → ℕ
command_byte command.Bid = 0x42
command_byte command.Group = 0x45
command_byte command.Need = 0x4E
command_byte command.Border = 0x4C
command_byte command.Seal = 0x53

-- how many bytes it has, the first included
abbrev pub command_size : Command → ℕ
command_size command.Bid = 51
command_size command.Group = 2
command_size command.Need = 36
command_size command.Border = 36
command_size command.Seal = 1

-- the command that a byte names, if it names one
abbrev pub command_for : ℕ → Option Command
command_for b = cond (b == 0x42) (Some command.Bid) (cond (b == 0x45) (Some command.Group) (cond (b == 0x4E) (Some command.Need) (cond (b == 0x4C) (Some command.Border) (cond (b == 0x53) (Some command.Seal) None))))

-- a command of which n bytes are there, at an offset: it is known (else 12) and whole (else 11)
abbrev pub whole : ℕ → ℕ → Option Command → Result Command Told
whole offset n None = Err (fault 12 offset)
whole offset n (Some k) = cond (nat_le (command_size k) n) (Ok k) (Err (fault 11 offset))

-- the command at the front of t, which stands at an offset in a longer text
abbrev pub command_at : ℕ → List ℕ → Result Command Told
command_at offset [] = Err (fault 11 offset)
command_at offset (b ∷ bs) = whole offset (length (b ∷ bs)) (command_for b)

abbrev pub is_bid : Command → Bool
is_bid command.Bid = true
is_bid command.Group = false
is_bid command.Need = false
is_bid command.Border = false
is_bid command.Seal = false

abbrev pub is_seal : Command → Bool
is_seal command.Bid = false
is_seal command.Group = false
is_seal command.Need = false
is_seal command.Border = false
is_seal command.Seal = true
