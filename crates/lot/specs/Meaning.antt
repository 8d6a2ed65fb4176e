-- What a lot means. A lot is anything that can move power in the hour: its rows, which of them hold cells, and,
-- over cells and prices, the power that it moves and the money that it is worth.
use Rattle.std.specs.Prelude.{◌≡◌, ℕ, ◌<◌, ◌≤◌, Bool, ℤ, pos, ◌+ℤ◌, ◌*ℤ◌, Some, None, Option, unsigned_abs}
use Rattle.units.specs.Limit.{cap}
use Rattle.lot.specs.Sum.{sum, count}

-- cells by their number among the cell rows, and by quarter; in units of 0.1 MW
abbrev pub Cells : Type 0
Cells = ℕ → ℕ → ℤ

-- prices by area, and by quarter; in cents per MWh
abbrev pub Prices : Type 0
Prices = ℕ → ℕ → ℤ

-- x is a table of k rows of four numbers, one a quarter: nothing stands past the last row, nor past the fourth quarter.
-- So there are just as many such x as there are lists of k rows of four, and what is said of each of them says
-- nothing of rows or quarters that do not exist.
pub record Table (k : ℕ) (x : ℕ → ℕ → ℤ) : Type 0 where
  pub past : (i t : ℕ) → k ≤ i → x i t ≡ pos 0
  pub late : (i t : ℕ) → 4 ≤ t → x i t ≡ pos 0

-- prices of the 32 areas
abbrev pub Quoted : Prices → Type 0
Quoted p = Table 32 p

-- and each is within the cap
abbrev pub Capped : Prices → Type 0
Capped p = (a t : ℕ) → a < 32 → t < 4 → unsigned_abs (p a t) ≤ cap

-- A grain is one unit of 0.1 MW at a price of one for one quarter; worths, amounts and best count grains.
pub record Meaning : Type 0 where
  pub rows : ℕ
  -- which rows hold cells
  pub holds : ℕ → Bool
  -- none where the cells are admitted, else the row that is named
  pub refused : Cells → Option ℕ
  -- what a row puts into an area in a quarter, by row, area and quarter
  pub net : Cells → ℕ → ℕ → ℕ → ℤ
  -- what a row is worth, by row
  pub worth : Cells → ℕ → ℤ
  -- the greatest surplus at prices
  pub best : Prices → ℤ
  -- none where the price rule is kept, else the row that is named
  pub broken : Cells → Prices → Option ℕ
  -- a row that is named is a row of the lot
  pub refused_row : (c : Cells) → Table (count rows holds) c → (r : ℕ) → refused c ≡ Some r → r < rows
  pub broken_row : (c : Cells) → Table (count rows holds) c → refused c ≡ None → (p : Prices) → Quoted p → (r : ℕ) → broken c p ≡ Some r → r < rows

abbrev pub cell_rows : Meaning → ℕ
cell_rows m = count m.rows m.holds

-- cells of the lot: as many rows of four as it has cell rows
abbrev pub Fitting : Meaning → Cells → Type 0
Fitting m c = Table (cell_rows m) c

abbrev pub Admitted : Meaning → Cells → Type 0
Admitted m c = m.refused c ≡ None

abbrev pub no_cells : Cells
no_cells k t = pos 0

-- nets x at the prices, over all areas and quarters
unfoldable pub money : (ℕ → ℕ → ℤ) → Prices → ℤ
money x p = sum 32 (λ a. sum 4 (λ t. x a t *ℤ p a t))

abbrev pub lot_net : Meaning → Cells → ℕ → ℕ → ℤ
lot_net m c a t = sum m.rows (λ r. m.net c r a t)

abbrev pub amount : Meaning → Cells → Prices → ℕ → ℤ
amount m c p r = money (m.net c r) p

abbrev pub surplus : Meaning → Cells → Prices → ℤ
surplus m c p = sum m.rows (λ r. m.worth c r +ℤ amount m c p r)

abbrev pub welfare : Meaning → Cells → ℤ
welfare m c = sum m.rows (λ r. m.worth c r)

-- a feasible clearing: cells that the lot admits, with no power left over in any area and quarter
pub record Feasible (m : Meaning) (c : Cells) : Type 0 where
  pub fitting : Fitting m c
  pub admitted : Admitted m c
  pub balanced : (a t : ℕ) → a < 32 → t < 4 → lot_net m c a t ≡ pos 0
