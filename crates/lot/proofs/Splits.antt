-- The first rows of a cell part and the rows after them, as cells.
use Rattle.std.proofs.Common.{◌≡◌, ℕ, zero, suc, ◌+◌, ◌*◌, ◌^◌, ◌<◌, ◌≤◌, cond, ltb, List, length, get_or, take, drop, pos, Some, Option, sym, refl, ap, ◌∙◌, ap₂, ⊎_elim, arith, length-drop, length-take}
use mathlib.Core.Path.{fun_ext}
use Rattle.std.proofs.lemmas.List.{get_or-take, get_or-drop, get_or_past}
use Rattle.std.proofs.lemmas.Bool.{cases_lt, cond_both, le-ltb, cond-false}
use Rattle.lot.specs.Meaning.{Meaning, Prices, Table, Fitting, Quoted, cell_rows, no_cells}
use Rattle.lot.specs.Parts.{front, shift}
use Rattle.lot.specs.Join.{join}
use Rattle.byte_layer.specs.Number.{number, signed, signed_number}
use Rattle.lot.specs.Page.{table_of, Sized, Ready, Priced}
use Rattle.lot.specs.Laws.Sums.{beside_below, beside_above}
use Rattle.lot.specs.Laws.Joins.{admits_low, admits_high, cell_rows_join}

pub number_take : (k n : ℕ) (b : List ℕ) (i : ℕ) → i + k ≤ n → number k (take n b) i ≡ number k b i
unfolding number
number_take zero n b i h = refl
number_take (suc k) n b i h = ap₂ (λ x y. x * 256 ^ k + y) (get_or-take n b i 0 (omega arith)) (number_take k n b (i + 1) (omega arith))

pub number_past : (k : ℕ) (b : List ℕ) (i : ℕ) → length b ≤ i → number k b i ≡ 0
unfolding number
number_past zero b i h = refl
number_past (suc k) b i h = ap₂ (λ x y. x * 256 ^ k + y) (get_or_past b i 0 h) (number_past k b (i + 1) (omega arith)) ∙ zero_times (256 ^ k)
  where
    zero_times : (n : ℕ) → 0 * n + 0 ≡ 0
    zero_times n = omega arith

pub number_drop : (k n : ℕ) (b : List ℕ) (i j : ℕ) → n + i ≡ j → number k (drop n b) i ≡ number k b j
unfolding number
number_drop zero n b i j e = refl
number_drop (suc k) n b i j e = ap₂ (λ x y. x * 256 ^ k + y) (get_or-drop n b i 0 ∙ ap (λ (m : ℕ). get_or b m 0) e) (number_drop k n b (i + 1) (j + 1) (omega arith))

pub signed_take : (n : ℕ) (b : List ℕ) (i : ℕ) → i + 3 < n → signed_number 4 (take n b) i ≡ signed_number 4 b i
signed_take n b i h = ap (signed 4) (number_take 4 n b i (omega arith))

pub signed_past : (b : List ℕ) (i : ℕ) → length b ≤ i → signed_number 4 b i ≡ pos 0
unfolding signed
signed_past b i h = ap (signed 4) (number_past 4 b i h)

pub signed_drop : (n : ℕ) (b : List ℕ) (i j : ℕ) → n + i ≡ j → signed_number 4 (drop n b) i ≡ signed_number 4 b j
signed_drop n b i j e = ap (signed 4) (number_drop 4 n b i j e)

pub cells_take : (n : ℕ) (b : List ℕ) → table_of (take (17 * n) b) ≡ front n (table_of b)
unfolding table_of front
cells_take n b = fun_ext (λ k. ⊎_elim
    (λ (l : k < n). fun_ext (λ t. ⊎_elim
    (λ (q : t < 4). ap (λ x. cond (ltb t 4) x (pos 0)) (signed_take (17 * n) b (17 * k + 1 + 4 * t) (omega arith)))
    (λ q. cond-false (ltb t 4) _ _ (le-ltb t 4 q) ∙ sym (cond-false (ltb t 4) _ _ (le-ltb t 4 q)))
    (cases_lt t 4)) ∙ sym (beside_below n (table_of b) no_cells k l))
    (λ (g : n ≤ k). fun_ext (λ t. let short : length (take (17 * n) b) ≤ 17 * k + 1 + 4 * t = simp length-take (omega arith) in
    cond_both (ltb t 4) (signed_number 4 (take (17 * n) b) (17 * k + 1 + 4 * t)) (pos 0) (λ x. x ≡ pos 0) (λ _. signed_past (take (17 * n) b) (17 * k + 1 + 4 * t) short) (λ _. refl))
    ∙ sym (beside_above n (table_of b) no_cells k g))
    (cases_lt k n))

pub cells_drop : (n : ℕ) (b : List ℕ) → table_of (drop (17 * n) b) ≡ shift n (table_of b)
unfolding table_of shift
cells_drop n b = fun_ext (λ k. fun_ext (λ t.
    ap (λ x. cond (ltb t 4) x (pos 0)) (signed_drop (17 * n) b (17 * k + 1 + 4 * t) (17 * (n + k) + 1 + 4 * t) (omega arith))))

-- cells read from a page of the right length are table
pub cells_table : (k : ℕ) (b : List ℕ) → length b ≡ 17 * k → Table k (table_of b)
unfolding table_of
cells_table k b long = record {
  past = λ i t h. cond_both (ltb t 4) (signed_number 4 b (17 * i + 1 + 4 * t)) (pos 0) (λ x. x ≡ pos 0) (λ _. signed_past b (17 * i + 1 + 4 * t) (omega arith)) (λ _. refl);
  late = λ i t h. cond-false (ltb t 4) _ _ (le-ltb t 4 h);
}

pub sized_fits : (m : Meaning) (b : List ℕ) → Sized m b → Fitting m (table_of b)
sized_fits m b s = cells_table (cell_rows m) b s.long

-- and so are prices
pub priced_quoted : (b : List ℕ) → Priced b → Quoted (table_of b)
priced_quoted b p = cells_table 32 b p.long

-- a row that a lot names of a page is one of its rows
pub refused_below : (m : Meaning) (b : List ℕ) → Sized m b → (o : Option ℕ) → o ≡ m.refused (table_of b) → (r : ℕ) → o ≡ Some r → r < m.rows
refused_below m b s o e r is = m.refused_row (table_of b) (sized_fits m b s) r (sym e ∙ is)

pub broken_below : (m : Meaning) (b : List ℕ) → Ready m b → (p : Prices) → Quoted p → (o : Option ℕ) → o ≡ m.broken (table_of b) p → (r : ℕ) → o ≡ Some r → r < m.rows
broken_below m b s p q o e r is = m.broken_row (table_of b) (sized_fits m b s.sized) s.admitted p q r (sym e ∙ is)

-- what the two parts of a joined lot are asked with
module _ (m n : Meaning) (b : List ℕ) where
  pub sized_front : Sized (join m n) b → Sized m (take (17 * cell_rows m) b)
  sized_front s = let e = cell_rows_join m n in let few = s.few in let long = s.long in record { few = omega arith; long = simp length-take (omega arith) }

  pub sized_rest : Sized (join m n) b → Sized n (drop (17 * cell_rows m) b)
  sized_rest s = let e = cell_rows_join m n in let few = s.few in let long = s.long in record { few = omega arith; long = simp length-drop (omega arith) }

  pub ready_front : Ready (join m n) b → Ready m (take (17 * cell_rows m) b)
  ready_front r = record { sized = sized_front r.sized; admitted = ap m.refused (cells_take (cell_rows m) b) ∙ admits_low m n (table_of b) r.admitted }

  pub ready_rest : Ready (join m n) b → Ready n (drop (17 * cell_rows m) b)
  ready_rest r = record { sized = sized_rest r.sized; admitted = ap n.refused (cells_drop (cell_rows m) b) ∙ admits_high m n (table_of b) r.admitted }
