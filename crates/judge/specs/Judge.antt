-- What a lot refuses a page for: the first fault in order.
use Rattle.std.specs.Prelude.{ℕ, ◌/◌, ◌%◌, cond, not, List, Some, None, Option, nat_le}
use Rattle.std.specs.Option.{option_map, option_or}
use Rattle.units.specs.Limit.{is_zero}
use Rattle.lot.specs.declared.fault.MarketFault.{MarketFault}
use Rattle.lot.specs.declared.fault.MarketFault.TheVariants.{Refused, Unbalanced, Broken}
use Rattle.lot.specs.Meaning.{Meaning, Cells, Prices, cell_rows, lot_net}
use Rattle.lot.specs.Duties.{most_lot_rows}
use Rattle.lot.specs.Page.{table_of}
use Rattle.page.specs.Shape.{least, cell_part, price_part, page_fault}
use Rattle.judge.specs.declared.fault.JudgeFault.{JudgeFault}
use Rattle.judge.specs.declared.fault.JudgeFault.TheVariants.{Rows, Page, Market}

-- the smallest place, 4 × area + quarter, where power is left over or missing
unfoldable pub balance_fault : Meaning → Cells → Option ℕ
balance_fault m c = least 128 (λ j. not (is_zero (lot_net m c (j / 4) (j % 4))))

-- what a clearing breaks in the market: admission first, then the balance, then the price rule
abbrev pub market_fault : Meaning → Cells → Prices → Option MarketFault
market_fault m c p = option_or (option_map Refused (m.refused c)) (option_or (option_map Unbalanced (balance_fault m c)) (option_map Broken (m.broken c p)))

-- the clearing that a page proposes for the lot
abbrev pub cells_in : Meaning → List ℕ → Cells
cells_in m page = table_of (cell_part (cell_rows m) page)

abbrev pub prices_in : Meaning → List ℕ → Prices
prices_in m page = table_of (price_part (cell_rows m) page)

-- the lot has too many rows
abbrev pub rows_fault : Meaning → Option JudgeFault
rows_fault m = cond (nat_le m.rows most_lot_rows) None (Some Rows)

-- what a page is refused for first
abbrev pub first_broken : Meaning → List ℕ → Option JudgeFault
first_broken m page = option_or (rows_fault m) (option_or (option_map Page (page_fault (cell_rows m) page)) (option_map Market (market_fault m (cells_in m page) (prices_in m page))))
