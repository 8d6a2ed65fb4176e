-- A page is accepted just where nothing refuses it, and what follows then.
use Rattle.std.proofs.Common.{◌≡◌, ℕ, ◌+◌, ◌*◌, ◌/◌, ◌%◌, ◌<◌, ◌≤◌, min, Bool, true, false, not, cond, leb-true, le-leb, List, length-take, length-drop, ℤ, pos, ◌+ℤ◌, ◌-ℤ◌, ◌≤ℤ◌, nat_abs, w64, of_z, to_z, Ok, Err, Result, IsOk, IfOk, ◌↔◌, Some, None, Option, sym, refl, ap, ap₂, ◌∙◌, subst, subst₂, arith}
use Rattle.std.proofs.lemmas.Int.{ints, to_z-of_z}
use Rattle.std.specs.Option.{option_map, option_or}
use Rattle.std.specs.Prelude.{FitsSigned, nat_le}
use Rattle.units.specs.Limit.{is_zero}
use Rattle.units.proofs.Judged.{no_some}
use Rattle.lot.specs.declared.fault.MarketFault.{MarketFault}
use Rattle.lot.specs.declared.fault.MarketFault.TheVariants.{Refused, Unbalanced, Broken}
use Rattle.lot.specs.Meaning.{Meaning, Cells, Prices, Feasible, Quoted, Capped, cell_rows, lot_net, welfare}
use Rattle.lot.specs.Duties.{Duties, most_lot_rows, most_money}
use Rattle.lot.specs.Page.{table_of, Sized}
use Rattle.lot.specs.Laws.Joins.{ceiling}
use Rattle.lot.specs.Laws.Sums.{sum_within, count_le}
use Rattle.lot.specs.Laws.Tests.{zero_of_test}
use Rattle.lot.proofs.Splits.{sized_fits, priced_quoted}
use Rattle.page.specs.declared.fault.PageFault.{PageFault}
use Rattle.page.specs.Shape.{cell_part, price_part, page_fault, Shaped}
use Rattle.page.proofs.Least.{least_none}
use Rattle.page.proofs.Shapes.{mapped_none, first_none, something, accepted, nothing_wrong}
use Rattle.judge.specs.declared.fault.JudgeFault.{JudgeFault}
use Rattle.judge.specs.declared.fault.JudgeFault.TheVariants.{Rows, Page, Market}
use Rattle.judge.specs.declared.judge.Figures.{Figures}
use Rattle.judge.specs.Judge.{balance_fault, market_fault, rows_fault, first_broken, cells_in, prices_in}
use Rattle.judge.specs.Figures.{figures_of, figures, verdict, Accepted, Covers}
use Rattle.judge.proofs.Balance.{balanced_all}
use Rattle.judge.proofs.Worths.{worth_small}

-- ---- the market
not_off : (b : Bool) → not b ≡ false → b ≡ true
not_off true e = refl
not_off false e = sym e

balance_zero : (m : Meaning) (c : Cells) → balance_fault m c ≡ None → (a t : ℕ) → a < 32 → t < 4 → lot_net m c a t ≡ pos 0
unfolding balance_fault
balance_zero m c e a t l k =
    let off = least_none 128 (λ j. not (is_zero (lot_net m c (j / 4) (j % 4)))) e (4 * a + t) (omega arith) in
    let here : lot_net m c ((4 * a + t) / 4) ((4 * a + t) % 4) ≡ lot_net m c a t = ap₂ (lot_net m c) (omega arith) (omega arith) in
    zero_of_test (lot_net m c a t) (ap is_zero (sym here) ∙ not_off (is_zero (lot_net m c ((4 * a + t) / 4) ((4 * a + t) % 4))) off)

balance_none : (m : Meaning) (c : Cells) → Feasible m c → balance_fault m c ≡ None
balance_none m c f = sym (balanced_all (record { each = λ j l. f.balanced (j / 4) (j % 4) (omega arith) (omega arith) }))

market_parts : (m : Meaning) (c : Cells) (p : Prices) → market_fault m c p ≡ None → (m.refused c ≡ None) × (balance_fault m c ≡ None) × (m.broken c p ≡ None)
market_parts m c p h =
    let one = first_none (option_map Refused (m.refused c)) (option_or (option_map Unbalanced (balance_fault m c)) (option_map Broken (m.broken c p))) h in
    let two = first_none (option_map Unbalanced (balance_fault m c)) (option_map Broken (m.broken c p)) one.1 in
    (mapped_none Refused (m.refused c) one.0, mapped_none Unbalanced (balance_fault m c) two.0, mapped_none Broken (m.broken c p) two.1)

market_none : (m : Meaning) (c : Cells) (p : Prices) → Feasible m c → m.broken c p ≡ None → market_fault m c p ≡ None
market_none m c p f kept = rw (f.admitted, balance_none m c f, kept) refl

pub feasible_when : (m : Meaning) (b : List ℕ) (p : Prices) → Sized m b → market_fault m (table_of b) p ≡ None → Feasible m (table_of b)
feasible_when m b p s h =
    let parts = market_parts m (table_of b) p h in
    record { fitting = sized_fits m b s; admitted = parts.0; balanced = balance_zero m (table_of b) parts.1 }

-- ---- the figures
-- a difference of the best and a welfare fits
pub foregone_fits : (m : Meaning) (c : Cells) (p : Prices) → Duties m → m.rows ≤ most_lot_rows → Feasible m c → Quoted p → Capped p → FitsSigned w64 (m.best p -ℤ welfare m c)
foregone_fits m c p d few f quoted capped =
    let top : welfare m c ≤ℤ m.best p = ceiling m d few c f p quoted in
    let most : m.best p ≤ℤ pos (most_money * m.rows) = (d.limited few).best p quoted capped in
    let small : nat_abs (welfare m c) ≤ most_money * m.rows = sum_within m.rows most_money (λ r. m.worth c r) (worth_small m c (d.limited few) f.fitting f.admitted) in
    omega (arith, ints)

-- and so does what the machine takes for it
module _ {b w best worth : ℤ} (fb : FitsSigned w64 b) (fw : FitsSigned w64 w) (eb : b ≡ best) (ew : w ≡ worth) (fits : FitsSigned w64 (best -ℤ worth)) where
  pub passed_fits : FitsSigned w64 (to_z w64 (of_z w64 b) -ℤ to_z w64 (of_z w64 w))
  passed_fits = subst₂ (λ x y. FitsSigned w64 (x -ℤ y)) (sym (to_z-of_z w64 b fb ∙ eb)) (sym (to_z-of_z w64 w fw ∙ ew)) fits

  pub passed_is : to_z w64 (of_z w64 (to_z w64 (of_z w64 b) -ℤ to_z w64 (of_z w64 w))) ≡ best -ℤ worth
  passed_is = to_z-of_z w64 _ passed_fits ∙ ap₂ ◌-ℤ◌ (to_z-of_z w64 b fb ∙ eb) (to_z-of_z w64 w fw ∙ ew)

again : (w b : ℤ) → w +ℤ (b -ℤ w) ≡ b
again w b = omega (arith, ints)

-- ---- the page
sized_when : (m : Meaning) (page : List ℕ) → m.rows ≤ most_lot_rows → Shaped (cell_rows m) page → Sized m (cell_part (cell_rows m) page)
sized_when m page few s = let long = s.long in record { few = few; long = simp (length-take, length-drop) (omega arith) }

rows_none : (m : Meaning) → m.rows ≤ most_lot_rows → rows_fault m ≡ None
rows_none m few = ap (λ b. cond b None (Some Rows)) (le-leb m.rows most_lot_rows few)

few_when : (b : Bool) → cond b None (Some Rows) ≡ None → b ≡ true
few_when true e = refl
few_when false e = no_some Rows (sym e)

accepted_when : (m : Meaning) (page : List ℕ) → first_broken m page ≡ None → Accepted m page
accepted_when m page h =
    let k = cell_rows m in
    let one = first_none (rows_fault m) (option_or (option_map Page (page_fault k page)) (option_map Market (market_fault m (cells_in m page) (prices_in m page)))) h in
    let two = first_none (option_map Page (page_fault k page)) (option_map Market (market_fault m (cells_in m page) (prices_in m page))) one.1 in
    let few = leb-true m.rows most_lot_rows (few_when (nat_le m.rows most_lot_rows) one.0) in
    let right = accepted k page (mapped_none Page (page_fault k page) two.0) in
    let market = mapped_none Market (market_fault m (cells_in m page) (prices_in m page)) two.1 in
    record {
      few = few;
      shaped = right.0;
      priced = right.1;
      feasible = feasible_when m (cell_part k page) (prices_in m page) (sized_when m page few right.0) market;
      kept = (market_parts m (cells_in m page) (prices_in m page) market).2;
    }

-- what a page is refused for first, where the lot has few rows
page_left : (m : Meaning) (page : List ℕ) (x : Option PageFault) → m.rows ≤ most_lot_rows → page_fault (cell_rows m) page ≡ x → first_broken m page ≡ option_or (option_map Page x) (option_map Market (market_fault m (cells_in m page) (prices_in m page)))
page_left m page x few e =
    let rest = option_map Market (market_fault m (cells_in m page) (prices_in m page)) in
    ap (λ y. option_or y (option_or (option_map Page (page_fault (cell_rows m) page)) rest)) (rows_none m few) ∙ ap (λ y. option_or (option_map Page y) rest) e

market_left : (m : Meaning) (page : List ℕ) (x : Option MarketFault) → m.rows ≤ most_lot_rows → page_fault (cell_rows m) page ≡ None → market_fault m (cells_in m page) (prices_in m page) ≡ x → first_broken m page ≡ option_map Market x
market_left m page x few none e = page_left m page None few none ∙ ap (option_map Market) e

none_when : (m : Meaning) (page : List ℕ) → Accepted m page → first_broken m page ≡ None
none_when m page a = market_left m page None a.few (nothing_wrong (cell_rows m) page a.shaped a.priced) (market_none m (cells_in m page) (prices_in m page) a.feasible a.kept)

covers : (m : Meaning) (page : List ℕ) → Duties m → Accepted m page → Covers m (figures m page)
covers m page d a = record { every = λ c f. subst (λ y. welfare m c ≤ℤ y) (sym (again (welfare m (cells_in m page)) (m.best (prices_in m page)))) (ceiling m d a.few c f (prices_in m page) (priced_quoted (price_part (cell_rows m) page) a.priced)) }

-- ---- what a judge answers
answered : (m : Meaning) (page : List ℕ) (r : Result Figures JudgeFault) (x : Option JudgeFault) → first_broken m page ≡ x → r ≡ verdict x (figures m page) → r ≡ verdict (first_broken m page) (figures m page)
answered m page r x e h = h ∙ sym (ap (λ y. verdict y (figures m page)) e)

pub is_accepted : (m : Meaning) (page : List ℕ) (r : Result Figures JudgeFault) → r ≡ verdict (first_broken m page) (figures m page) → IsOk r ↔ Accepted m page
is_accepted m page r e = subst (λ s. IsOk s ↔ Accepted m page) (sym e) (by (first_broken m page) refl)
  where
    by : (o : Option JudgeFault) → first_broken m page ≡ o → IsOk (verdict o (figures m page)) ↔ Accepted m page
    by None h = (λ _. accepted_when m page h, λ _. refl)
    by (Some f) h = (λ n. let z : ◌≡◌ {A = ℕ} 0 1 = cc in absurd (omega arith), λ a. something (first_broken m page) f h (none_when m page a))

pub is_covered : (m : Meaning) (page : List ℕ) (r : Result Figures JudgeFault) → Duties m → r ≡ verdict (first_broken m page) (figures m page) → IfOk r (Covers m)
is_covered m page r d e = subst (λ s. IfOk s (Covers m)) (sym e) (by (first_broken m page) refl)
  where
    by : (o : Option JudgeFault) → first_broken m page ≡ o → IfOk (verdict o (figures m page)) (Covers m)
    by None h = covers m page d (accepted_when m page h)
    by (Some f) h = tt

-- the lot's own count of its cell rows
pub counted : (m : Meaning) (n : ℕ) → m.rows ≤ most_lot_rows → n ≡ min (cell_rows m) 4097 → n ≡ cell_rows m
counted m n few e = let l = count_le m.rows m.holds in omega (arith, e)

module _ (m : Meaning) (page : List ℕ) (k : ℕ) (few : m.rows ≤ most_lot_rows) (count : k ≡ cell_rows m) where
  pub sized_at : (b : List ℕ) → b ≡ cell_part k page → Shaped k page → Sized m b
  sized_at b e s = subst (Sized m) (sym (e ∙ ap (λ n. cell_part n page) count)) (sized_when m page few (subst (λ n. Shaped n page) count s))

  page_at : {x : Option PageFault} → page_fault k page ≡ x → page_fault (cell_rows m) page ≡ x
  page_at h = ap (λ n. page_fault n page) (sym count) ∙ h

  pub page_refuses : (r : Result Figures JudgeFault) (e : PageFault) → page_fault k page ≡ Some e → r ≡ Err (Page e) → r ≡ verdict (first_broken m page) (figures m page)
  page_refuses r e h i = answered m page r (Some (Page e)) (page_left m page (Some e) few (page_at h)) i

  module _ (b q : List ℕ) (cells : b ≡ cell_part k page) (prices : q ≡ price_part k page) (right : page_fault k page ≡ None) where
    cells_same : table_of b ≡ cells_in m page
    cells_same = ap table_of (cells ∙ ap (λ n. cell_part n page) count)

    prices_same : table_of q ≡ prices_in m page
    prices_same = ap table_of (prices ∙ ap (λ n. price_part n page) count)

    market_at : {x : Option MarketFault} → x ≡ market_fault m (table_of b) (table_of q) → market_fault m (cells_in m page) (prices_in m page) ≡ x
    market_at h = sym (h ∙ ap₂ (market_fault m) cells_same prices_same)

    pub market_refuses : (r : Result Figures JudgeFault) (e : MarketFault) → Some e ≡ market_fault m (table_of b) (table_of q) → r ≡ Err (Market e) → r ≡ verdict (first_broken m page) (figures m page)
    market_refuses r e h i = answered m page r (Some (Market e)) (market_left m page (Some e) few (page_at right) (market_at h)) i

    pub accepts : (f : Figures) → None ≡ market_fault m (table_of b) (table_of q) → f ≡ figures_of m (table_of b) (table_of q) → Ok f ≡ verdict (first_broken m page) (figures m page)
    accepts f h i = answered m page (Ok f) None (market_left m page None few (page_at right) (market_at h)) (ap Ok (i ∙ ap₂ (figures_of m) cells_same prices_same))
