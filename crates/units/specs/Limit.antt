-- Areas, quantities and prices. A quantity counts units of 0.1 MW, a price cents per MWh.
use Rattle.std.specs.Prelude.{ℕ, Bool, false, ◌&&◌, ℤ, pos, negsuc, neg_ℤ, ◌==◌, int_le, nat_le}

-- the last of the areas, which are numbered from 0
abbrev pub last_area : ℕ
last_area = 31

-- the largest quantity
abbrev pub most_quantity : ℕ
most_quantity = 99999

-- the highest price, and, below zero, the lowest
abbrev pub cap : ℕ
cap = 9999999

unfoldable pub is_area : ℕ → Bool
is_area a = nat_le a last_area

unfoldable pub is_quantity : ℕ → Bool
is_quantity q = nat_le q most_quantity

unfoldable pub is_price : ℤ → Bool
is_price p = int_le (neg_ℤ (pos cap)) p && int_le p (pos cap)

unfoldable pub is_zero : ℤ → Bool
is_zero (pos n) = n == 0
is_zero (negsuc n) = false
