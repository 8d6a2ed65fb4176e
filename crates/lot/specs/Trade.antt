-- Power sold or bought in one area, at a price a quarter.
use Rattle.std.specs.Prelude.{ℕ, ◌<◌, Bool, true, false, cond, List, ℤ, pos, ◌-ℤ◌, ◌*ℤ◌, neg_ℤ, ◌==◌}
use Rattle.lot.specs.Sum.{sum}
use Rattle.lot.specs.Meaning.{Prices}
use Rattle.lot.specs.Page.{AllWithin}

pub record Trade : Type 0 where
  pub area : ℕ
  -- it sells, else it buys
  pub sells : Bool
  pub limit : ℕ → ℤ

-- as it is where power is sold, with the sign turned where it is bought
abbrev pub turned : Bool → ℤ → ℤ
turned true z = z
turned false z = neg_ℤ z

-- a quantity q that is sold has the net q and is worth -price × q; one that is bought has both signs turned
abbrev pub trade_net : Trade → (ℕ → ℤ) → ℕ → ℕ → ℤ
trade_net T q a t = cond (a == T.area) (turned T.sells (q t)) (pos 0)

abbrev pub quarter_worth : Trade → (ℕ → ℤ) → ℕ → ℤ
quarter_worth T q t = turned T.sells (neg_ℤ (T.limit t *ℤ q t))

abbrev pub trade_worth : Trade → (ℕ → ℤ) → ℤ
trade_worth T q = sum 4 (quarter_worth T q)

abbrev pub quarter_amount : Trade → (ℕ → ℤ) → Prices → ℕ → ℤ
quarter_amount T q p t = turned T.sells (q t) *ℤ p T.area t

-- what one unit gains at the prices
abbrev pub gain : Trade → Prices → ℕ → ℤ
gain T p t = turned T.sells (p T.area t -ℤ T.limit t)

-- the area is one of the 32, and the limits are within the cap
pub record Fair (area : ℕ) (limits : List ℤ) : Type 0 where
  pub inside : area < 32
  pub priced : AllWithin 9999999 limits
