-- An accepted page in plain words, and its figures.
use Rattle.std.specs.Prelude.{◌≡◌, ◌≤◌, ℕ, List, ◌+ℤ◌, ◌-ℤ◌, ◌≤ℤ◌, Some, None, Option, Ok, Err, Result}
use Rattle.lot.specs.Meaning.{Meaning, Cells, Prices, Feasible, cell_rows, welfare}
use Rattle.lot.specs.Duties.{most_lot_rows}
use Rattle.lot.specs.Page.{Priced}
use Rattle.page.specs.Shape.{price_part, Shaped}
use Rattle.judge.specs.Judge.{cells_in, prices_in}
use Rattle.judge.specs.declared.judge.Figures.{Figures}

-- a page that is accepted, with no order: the lot has few rows, the page is of its shape, its prices are within the cap,
-- its clearing is feasible, and the price rule is kept
pub record Accepted (m : Meaning) (page : List ℕ) : Type 0 where
  pub few : m.rows ≤ most_lot_rows
  pub shaped : Shaped (cell_rows m) page
  pub priced : Priced (price_part (cell_rows m) page)
  pub feasible : Feasible m (cells_in m page)
  pub kept : m.broken (cells_in m page) (prices_in m page) ≡ None

-- welfare, and how far it is below the best surplus at the prices
abbrev pub figures_of : Meaning → Cells → Prices → Figures
figures_of m c p = record { welfare = welfare m c; foregone = m.best p -ℤ welfare m c }

abbrev pub figures : Meaning → List ℕ → Figures
figures m page = figures_of m (cells_in m page) (prices_in m page)

-- the value, unless there is a fault
abbrev pub verdict : {A E : Type 0} → Option E → A → Result A E
verdict None a = Ok a
verdict (Some e) a = Err e

-- no feasible clearing of the lot, whether anybody wrote it down or not, has a greater welfare than the two figures together
pub record Covers (m : Meaning) (f : Figures) : Type 0 where
  pub every : (c : Cells) → Feasible m c → welfare m c ≤ℤ (f.welfare +ℤ f.foregone)
