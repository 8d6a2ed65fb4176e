-- Questions to a lot by a caller who has shown nothing: an answer where the question may be asked, else why it may not.
use Rattle.std.specs.Prelude.{◌≡◌, ℕ, ◌*◌, Bool, true, false, cond, ◌&&◌, List, length, ℤ, ◌≤ℤ◌, Some, None, Option, Ok, Err, Result, codes, ◌==◌, nat_le, nat_lt}
use Rattle.std.specs.Result.{result_and}
use Rattle.units.specs.Limit.{is_price}
use Rattle.lot.specs.Sum.{every}
use Rattle.lot.specs.Meaning.{Meaning, Cells, Prices, Feasible, Quoted, cell_rows, lot_net, amount, welfare}
use Rattle.lot.specs.Duties.{most_lot_rows}
use Rattle.lot.specs.Page.{table_of}
use Rattle.asked.specs.declared.unasked.Unasked.{Unasked}
use Rattle.asked.specs.declared.unasked.Unasked.TheVariants.{TooManyRows, OtherCells, RefusedCells, OtherPrices, NoPlace}

-- the lot has few rows enough to be questioned
abbrev pub may_ask : Meaning → Bool
may_ask m = nat_le m.rows most_lot_rows

-- the bytes are cells for it
abbrev pub may_hold : Meaning → List ℕ → Bool
may_hold m b = may_ask m && length b == 17 * cell_rows m

-- the bytes are prices of the 32 areas, each within the cap
abbrev pub may_price : List ℕ → Bool
may_price q = length q == 544 && every 32 (λ a. every 4 (λ t. is_price (table_of q a t)))

abbrev pub is_none : Option ℕ → Bool
is_none None = true
is_none (Some r) = false

-- the bytes are cells that the lot admits
abbrev pub may_figure : Meaning → List ℕ → Bool
may_figure m b = may_hold m b && is_none (m.refused (table_of b))

abbrev pub when : {A : Type 0} → Bool → A → Option A
when may x = cond may (Some x) None

-- what is answered
abbrev pub refused_of : Meaning → List ℕ → Option (Option ℕ)
refused_of m b = when (may_hold m b) (m.refused (table_of b))

abbrev pub net_of : Meaning → List ℕ → ℕ → ℕ → Option ℤ
net_of m b a t = when ((may_figure m b && nat_lt a 32) && nat_lt t 4) (lot_net m (table_of b) a t)

abbrev pub worth_of : Meaning → List ℕ → ℕ → Option ℤ
worth_of m b r = when (may_figure m b && nat_lt r m.rows) (m.worth (table_of b) r)

abbrev pub amount_of : Meaning → List ℕ → List ℕ → ℕ → Option ℤ
amount_of m b q r = when ((may_figure m b && may_price q) && nat_lt r m.rows) (amount m (table_of b) (table_of q) r)

abbrev pub best_of : Meaning → List ℕ → Option ℤ
best_of m q = when (may_ask m && may_price q) (m.best (table_of q))

abbrev pub broken_of : Meaning → List ℕ → List ℕ → Option (Option ℕ)
broken_of m b q = when (may_figure m b && may_price q) (m.broken (table_of b) (table_of q))

-- a test, or why it fails; of tests one after another the first that fails tells why
abbrev pub passes : Bool → Unasked → Result (Unit {0}) Unasked
passes b e = cond b (Ok tt) (Err e)

-- the lot has few rows enough; the bytes are cells for it; it admits them
abbrev pub few : Meaning → Result (Unit {0}) Unasked
few m = passes (may_ask m) TooManyRows

abbrev pub held : Meaning → List ℕ → Result (Unit {0}) Unasked
held m b = result_and (few m) (passes (length b == 17 * cell_rows m) OtherCells)

abbrev pub admitted : Meaning → List ℕ → Result (Unit {0}) Unasked
admitted m b = result_and (held m b) (passes (is_none (m.refused (table_of b))) RefusedCells)

-- the bytes are prices within the cap
abbrev pub priced : List ℕ → Result (Unit {0}) Unasked
priced q = passes (may_price q) OtherPrices

-- what is told
abbrev pub refused_told : Meaning → List ℕ → Result (Option ℕ) Unasked
refused_told m b = result_and (held m b) (Ok (m.refused (table_of b)))

abbrev pub net_told : Meaning → List ℕ → ℕ → ℕ → Result ℤ Unasked
net_told m b a t = result_and (admitted m b) (result_and (passes (nat_lt a 32 && nat_lt t 4) NoPlace) (Ok (lot_net m (table_of b) a t)))

abbrev pub worth_told : Meaning → List ℕ → ℕ → Result ℤ Unasked
worth_told m b r = result_and (admitted m b) (result_and (passes (nat_lt r m.rows) NoPlace) (Ok (m.worth (table_of b) r)))

abbrev pub amount_told : Meaning → List ℕ → List ℕ → ℕ → Result ℤ Unasked
amount_told m b q r = result_and (admitted m b) (result_and (priced q) (result_and (passes (nat_lt r m.rows) NoPlace) (Ok (amount m (table_of b) (table_of q) r))))

abbrev pub best_told : Meaning → List ℕ → Result ℤ Unasked
best_told m q = result_and (few m) (result_and (priced q) (Ok (m.best (table_of q))))

abbrev pub broken_told : Meaning → List ℕ → List ℕ → Result (Option ℕ) Unasked
broken_told m b q = result_and (admitted m b) (result_and (priced q) (Ok (m.broken (table_of b) (table_of q))))

-- how a reason is printed
abbrev pub unasked_text : Unasked → List ℕ
unasked_text TooManyRows = codes "the lot has too many rows"
unasked_text OtherCells = codes "these are not cells of the lot"
unasked_text RefusedCells = codes "the lot does not admit the cells"
unasked_text OtherPrices = codes "these are not prices within the cap"
unasked_text NoPlace = codes "there is no such place"

-- the market theorem: at any prices best is a ceiling on the welfare of every feasible clearing, whether anybody wrote
-- that clearing down or not
pub record Ceiling (m : Meaning) : Type 0 where
  pub bounds : may_ask m ≡ true → (p : Prices) → Quoted p → (c : Cells) → Feasible m c → welfare m c ≤ℤ m.best p
