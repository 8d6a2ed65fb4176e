-- The side of a bid or a need, and its byte in a text.
use Rattle.std.specs.Prelude.{ℕ, zero, suc, Bool, true, false, List, Some, None, Option, codes}
use Rattle.units.specs.declared.side.Side.{Side}
use Rattle.units.specs.declared.side.Side.TheVariants.{Upward, Downward}

abbrev pub side_byte : Side → ℕ
side_byte Upward = 0
side_byte Downward = 1

abbrev pub side_of : ℕ → Option Side
side_of zero = Some Upward
side_of (suc zero) = Some Downward
side_of (suc (suc n)) = None

abbrev pub is_upward : Side → Bool
is_upward Upward = true
is_upward Downward = false

-- how a side is printed
abbrev pub side_text : Side → List ℕ
side_text Upward = codes "upward"
side_text Downward = codes "downward"
