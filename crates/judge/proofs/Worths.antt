-- A sum over the rows, as a chain of iterators over their numbers gives it.
use Rattle.std.proofs.Common.{◌≡◌, ℕ, zero, suc, ◌+◌, ◌*◌, ◌^◌, ◌<◌, ◌≤◌, List, [], ◌∷◌, map, take, fold, length, ℤ, pos, ◌+ℤ◌, nat_abs, Option, w64, sym, refl, ap, ◌∙◌, subst, arith, mul-le-mul_left}
use Rattle.std.proofs.lemmas.Int.{ints}
use Rattle.std.proofs.lemmas.Iterator.{YieldsList}
use Rattle.std.proofs.lemmas.Iterator.Adapters.{total_from_yields_List}
use Rattle.std.proofs.lemmas.List.FromFn.{length-map-range_with_len, take-map-range_with_len}
use Rattle.std.specs.Iterator.{Yields, AlwaysYields, Drains}
use Rattle.std.specs.Iterator.Runs.{YieldsRun, EachRunFrom}
use Rattle.std.specs.List.{range_with_len}
use Rattle.std.specs.Prelude.{FitsSigned}
use Rattle.lot.specs.Sum.{sum}
use Rattle.lot.specs.Meaning.{Meaning, Cells, Fitting, Admitted}
use Rattle.lot.specs.Duties.{Limited, most_money}
use Rattle.lot.specs.Laws.Sums.{sum_within, sum_split, sum_one, sum_same}
use Rattle.lot.specs.Laws.Tables.{table_none}

fold_from : (h : ℕ → ℤ) (n a : ℕ) (z : ℤ) → fold ◌+ℤ◌ z (map h (range_with_len a n)) ≡ z +ℤ sum n (λ k. h (a + k))
unfolding sum
fold_from h zero a z = omega (arith, ints)
fold_from h (suc n) a z =
    let rest = fold_from h n (a + 1) (z +ℤ h a) in
    let up : suc n ≡ 1 + n = omega arith in
    let more : sum (suc n) (λ k. h (a + k)) ≡ sum (1 + n) (λ k. h (a + k)) = ap (λ j. sum j (λ k. h (a + k))) up in
    let split : sum (1 + n) (λ k. h (a + k)) ≡ sum 1 (λ k. h (a + k)) +ℤ sum n (λ k. h (a + (1 + k))) = sum_split 1 n (λ k. h (a + k)) in
    let one : sum 1 (λ k. h (a + k)) ≡ h (a + 0) = sum_one (λ k. h (a + k)) in
    let first : h (a + 0) ≡ h a = ap h (omega arith) in
    let same : sum n (λ k. h (a + 1 + k)) ≡ sum n (λ k. h (a + (1 + k))) = sum_same n (λ k. h (a + 1 + k)) (λ k. h (a + (1 + k))) (λ k l. ap h (omega arith)) in
    rest ∙ omega (arith, ints, more, split, one, first, same)

fold_range : (h : ℕ → ℤ) (n : ℕ) → fold ◌+ℤ◌ (pos 0) (map h (range_with_len 0 n)) ≡ sum n h
fold_range h n =
    let e = fold_from h n 0 (pos 0) in
    let same : sum n (λ k. h (0 + k)) ≡ sum n h = sum_same n (λ k. h (0 + k)) h (λ k l. ap h (omega arith)) in
    omega (arith, ints)

small_fits : (z : ℤ) (n : ℕ) → nat_abs z ≤ n → n < 2 ^ 63 → FitsSigned w64 z
small_fits z n h l = omega (arith, ints)

partial : {S : Type 0} (steps : S → Option ℤ → S → Type 0) (all xs : List ℤ) (s t : S) → AlwaysYields steps (λ x. x) s all → Yields steps s xs t → (k : ℕ) × (k ≤ length all) × (xs ≡ take k all)
partial steps all [] s t a y = (0, omega arith, refl)
partial steps [] (x ∷ xs) s t a y = absurd (a x y.0 y.1)
partial steps (z ∷ all) (x ∷ xs) s t a y =
    let one = a.1 x y.0 y.1 in
    let r = partial steps all xs y.0 t one.1 y.2 in
    let few : r.0 ≤ length all = r.1 in
    (suc r.0, omega arith, λ i. one.0 i ∷ r.2 i)

module _ {S : Type 0} {steps : S → Option ℤ → S → Type 0} {s : S} (h : ℕ → ℤ) (n : ℕ) (e : YieldsList steps (λ x. x) s (map h (range_with_len 0 n))) where
  pub rows_fit : (b : ℕ) → ((k : ℕ) → k < n → nat_abs (h k) ≤ b) → b * n < 2 ^ 63 → EachRunFrom steps s (λ p. FitsSigned w64 (fold ◌+ℤ◌ (pos 0) p.items))
  unfolding YieldsRun
  rows_fit b each few = λ p _ at.
      let all = map h (range_with_len 0 n) in
      let r = partial steps all p.items s p.gave.0.0 e.runs (subst (λ u. Yields steps u p.items p.gave.0.0) at p.gave.0.1) in
      let long = length-map-range_with_len h 0 n in
      let l : r.0 ≤ n = subst (λ j. r.0 ≤ j) long r.1 in
      let same : fold ◌+ℤ◌ (pos 0) p.items ≡ sum r.0 h = ap (fold ◌+ℤ◌ (pos 0)) (r.2 ∙ take-map-range_with_len h 0 n r.0 l) ∙ fold_range h r.0 in
      let w : nat_abs (sum r.0 h) ≤ b * r.0 = sum_within r.0 b h (λ k m. each k (omega arith)) in
      subst (FitsSigned w64) (sym same) (small_fits (sum r.0 h) (b * n) (omega (arith, mul-le-mul_left {m = r.0} {n = n} b l)) few)

  pub rows_sum : (r : ℤ) → ((xs : List ℤ) × (Unit {0} → Drains steps s xs) × (r ≡ fold ◌+ℤ◌ (pos 0) xs)) → r ≡ sum n h
  rows_sum r ran = total_from_yields_List ◌+ℤ◌ (pos 0) r ran e ∙ fold_range h n

-- each row's worth is bounded, whatever the prices
pub worth_small : (m : Meaning) (c : Cells) → Limited m → Fitting m c → Admitted m c → (k : ℕ) → k < m.rows → nat_abs (m.worth c k) ≤ most_money
worth_small m c d f a k l = (d.each c (λ i t. pos 0) f a (table_none 32) (λ i t u v. omega arith) k l).worth
