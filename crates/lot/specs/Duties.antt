-- What every lot owes: five duties, each of lots of at most 4,096 rows.
use Rattle.std.specs.Prelude.{◌≡◌, ℕ, ◌*◌, ◌<◌, ◌≤◌, pos, ◌+ℤ◌, ◌≤ℤ◌, None, unsigned_abs}
use Rattle.lot.specs.Sum.{sum}
use Rattle.lot.specs.Meaning.{Meaning, Cells, Prices, Admitted, Fitting, Quoted, Capped, no_cells, money, amount, surplus, lot_net}

-- the most rows of a lot that is questioned
abbrev pub most_lot_rows : ℕ
most_lot_rows = 4096

-- the most that the sizes of a row's nets in a quarter sum to
abbrev pub most_power : ℕ
most_power = 199998

-- the largest size of a row's worth and of its amount, in grains
abbrev pub most_money : ℕ
most_money = 10000000000000

-- first: all-zero cells are admitted, with zero nets and worths
pub record Idle (m : Meaning) : Type 0 where
  pub admits : Admitted m no_cells
  pub nets : (r : ℕ) → r < m.rows → (a t : ℕ) → a < 32 → t < 4 → m.net no_cells r a t ≡ pos 0
  pub worths : (r : ℕ) → r < m.rows → m.worth no_cells r ≡ pos 0

-- cells that reach the best surplus
pub record Reach (m : Meaning) (p : Prices) : Type 0 where
  pub at : Cells
  pub fitting : Fitting m at
  pub admitted : Admitted m at
  pub gives : surplus m at p ≡ m.best p

-- second: at any prices no admitted cells have a surplus above best, and some reach it
pub record Greatest (m : Meaning) : Type 0 where
  pub above : (p : Prices) → Quoted p → (c : Cells) → Fitting m c → Admitted m c → surplus m c p ≤ℤ m.best p
  pub reached : (p : Prices) → Quoted p → Reach m p

-- third: the amounts of all rows sum to the lot's net at the prices
abbrev pub Settled : Meaning → Type 0
Settled m = (c : Cells) (p : Prices) → Fitting m c → Admitted m c → Quoted p → sum m.rows (λ r. amount m c p r) ≡ money (lot_net m c) p

-- fourth: where the cells are admitted, the prices within the cap and the price rule kept, no row loses
abbrev pub Unharmed : Meaning → Type 0
Unharmed m = (c : Cells) (p : Prices) → Fitting m c → Admitted m c → Quoted p → Capped p → m.broken c p ≡ None →
    (r : ℕ) → r < m.rows → pos 0 ≤ℤ (m.worth c r +ℤ amount m c p r)

-- how much power and money a row holds at most
pub record Bounded (m : Meaning) (c : Cells) (p : Prices) (r : ℕ) : Type 0 where
  pub power : (t : ℕ) → t < 4 → sum 32 (λ a. pos (unsigned_abs (m.net c r a t))) ≤ℤ pos most_power
  pub worth : unsigned_abs (m.worth c r) ≤ most_money
  pub amount : unsigned_abs (amount m c p r) ≤ most_money

-- fifth: with cells admitted and prices within the cap every row is bounded, and best by as many rows
pub record Limited (m : Meaning) : Type 0 where
  pub each : (c : Cells) (p : Prices) → Fitting m c → Admitted m c → Quoted p → Capped p → (r : ℕ) → r < m.rows → Bounded m c p r
  pub best : (p : Prices) → Quoted p → Capped p → m.best p ≤ℤ pos (most_money * m.rows)

-- the five together
pub record Duties (m : Meaning) : Type 0 where
  pub idle : m.rows ≤ most_lot_rows → Idle m
  pub greatest : m.rows ≤ most_lot_rows → Greatest m
  pub settled : m.rows ≤ most_lot_rows → Settled m
  pub unharmed : m.rows ≤ most_lot_rows → Unharmed m
  pub limited : m.rows ≤ most_lot_rows → Limited m
