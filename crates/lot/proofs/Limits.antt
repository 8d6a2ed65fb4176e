-- How large a lot's figures can be.
use Rattle.std.proofs.Common.{◌≡◌, ℕ, zero, suc, ◌*◌, ◌<◌, ◌≤◌, List, ℤ, pos, nat_abs, ◌≤ℤ◌, ap, ⊎_elim, arith}
use Rattle.std.proofs.lemmas.Int.{ints}
use Rattle.std.proofs.lemmas.Bool.{cases_lt}
use Rattle.lot.specs.Sum.{sum}
use Rattle.lot.specs.Meaning.{Meaning, Cells, Prices, Fitting, cell_rows, Admitted, Quoted, Capped, no_cells, surplus, lot_net}
use Rattle.lot.specs.Duties.{most_lot_rows, most_power, most_money, Duties}
use Rattle.lot.specs.Page.{table_of, Ready}
use Rattle.lot.proofs.Splits.{sized_fits}
use Rattle.lot.specs.Laws.Sums.{sum_within}
use Rattle.lot.specs.Laws.Joins.{idle_surplus}
use Rattle.lot.specs.Laws.Tables.{table_none}

pub no_prices : Prices
no_prices a t = pos 0

no_prices_capped : Capped no_prices
unfolding no_prices
no_prices_capped a t h k = omega arith

no_prices_quoted : Quoted no_prices
unfolding no_prices
no_prices_quoted = table_none 32

-- one of several naturals is at most their sum
pub sum_naturals : (n : ℕ) (f : ℕ → ℤ) → pos 0 ≤ℤ sum n (λ k. pos (nat_abs (f k)))
unfolding sum
sum_naturals zero f = omega (arith, ints)
sum_naturals (suc n) f = let e = sum_naturals n f in omega (arith, ints)

pub one_of_sum : (n : ℕ) (f : ℕ → ℤ) (k : ℕ) → k < n → pos (nat_abs (f k)) ≤ℤ sum n (λ k. pos (nat_abs (f k)))
unfolding sum
one_of_sum zero f k h = absurd (omega arith)
one_of_sum (suc n) f k h =
    let all = sum_naturals n f in
    ⊎_elim
    (λ (l : k < n). let e = one_of_sum n f k l in omega (arith, ints))
    (λ (g : n ≤ k). let same : f k ≡ f n = ap f (omega arith) in omega (arith, ints))
    (cases_lt k n)

-- how much power can meet in one area and quarter
pub net_limit : (m : Meaning) → Duties m → (b : List ℕ) → Ready m b → (a t : ℕ) → a < 32 → t < 4 → nat_abs (lot_net m (table_of b) a t) ≤ most_power * m.rows
net_limit m d b ok a t ha ht = sum_within m.rows most_power (λ r. m.net (table_of b) r a t) (λ r h.
    let p = ((d.limited ok.sized.few).each (table_of b) no_prices (sized_fits m b ok.sized) ok.admitted no_prices_quoted no_prices_capped r h).power t ht in
    let o = one_of_sum 32 (λ a. m.net (table_of b) r a t) a ha in
    omega (arith, ints))

pub worth_limit : (m : Meaning) → Duties m → m.rows ≤ most_lot_rows → (c : Cells) → Fitting m c → Admitted m c → (r : ℕ) → r < m.rows → nat_abs (m.worth c r) ≤ most_money
worth_limit m d few c fits ok r h = ((d.limited few).each c no_prices fits ok no_prices_quoted no_prices_capped r h).worth

-- doing nothing is admitted, so the best is no loss
pub best_low : (m : Meaning) → Duties m → m.rows ≤ most_lot_rows → (p : Prices) → Quoted p → pos 0 ≤ℤ m.best p
best_low m d few p quoted =
    let i = d.idle few in
    let none = idle_surplus m i p in
    let top : surplus m no_cells p ≤ℤ m.best p = (d.greatest few).above p quoted no_cells (table_none (cell_rows m)) i.admits in
    omega (arith, ints)
