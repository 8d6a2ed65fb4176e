-- A sum of four, as a chain of iterators gives it.
use Rattle.std.proofs.Common.{◌≡◌, ℕ, zero, suc, ◌*◌, ◌^◌, ◌<◌, ◌≤◌, List, [], ◌∷◌, map, take, fold, length, ℤ, pos, ◌+ℤ◌, nat_abs, Option, w64, sym, refl, ap, ◌∙◌, subst, arith, lit≤, mul-le-mul_left}
use Rattle.std.proofs.lemmas.Int.{ints}
use Rattle.std.proofs.lemmas.Iterator.{YieldsList, items_from_drains}
use Rattle.std.specs.Iterator.{Yields, AlwaysYields, Drains}
use Rattle.std.specs.Iterator.Runs.{YieldsRun, EachRunFrom}
use Rattle.std.specs.List.{zip}
use Rattle.std.specs.Prelude.{FitsSigned}
use Rattle.lot.specs.Sum.{sum}
use Rattle.lot.specs.Laws.Sums.{sum_within}
use Rattle.lot.specs.Page.{at}
use Rattle.lot.proofs.Chains.{quad, quad_of}

map_id : {A : Type 0} (xs : List A) → map (λ x. x) xs ≡ xs
map_id [] = refl
map_id (x ∷ xs) = ap (λ ys. x ∷ ys) (map_id xs)

fold_take : (h : ℕ → ℤ) (k : ℕ) → k ≤ 4 → fold ◌+ℤ◌ (pos 0) (take k (quad h)) ≡ sum k h
unfolding sum
fold_take h zero l = refl
fold_take h (suc zero) l = refl
fold_take h (suc (suc zero)) l = refl
fold_take h (suc (suc (suc zero))) l = refl
fold_take h (suc (suc (suc (suc zero)))) l = refl
fold_take h (suc (suc (suc (suc (suc k))))) l = absurd (omega arith)

small_fits : (z : ℤ) (n : ℕ) → nat_abs z ≤ n → n < 2 ^ 63 → FitsSigned w64 z
small_fits z n h l = omega (arith, ints)

partial : {S : Type 0} (steps : S → Option ℤ → S → Type 0) (all xs : List ℤ) (s t : S) → AlwaysYields steps (λ x. x) s all → Yields steps s xs t → (k : ℕ) × (k ≤ length all) × (xs ≡ take k all)
partial steps all [] s t a y = (0, omega arith, refl)
partial steps [] (x ∷ xs) s t a y = absurd (a x y.0 y.1)
partial steps (z ∷ all) (x ∷ xs) s t a y =
    let one = a.1 x y.0 y.1 in
    let r = partial steps all xs y.0 t one.1 y.2 in
    let few : r.0 ≤ length all = r.1 in
    (suc r.0, omega arith, λ i. one.0 i ∷ r.2 i)

module _ {S : Type 0} {steps : S → Option ℤ → S → Type 0} {s : S} {all : List ℤ} (h : ℕ → ℤ) (e : YieldsList steps (λ x. x) s all) (four : all ≡ quad h) where
  pub sums_fit : (b : ℕ) → ((k : ℕ) → k < 4 → nat_abs (h k) ≤ b) → b * 4 < 2 ^ 63 → EachRunFrom steps s (λ p. FitsSigned w64 (fold ◌+ℤ◌ (pos 0) p.items))
  unfolding YieldsRun
  sums_fit b each few = λ p _ at.
      let r = partial steps all p.items s p.gave.0.0 e.runs (subst (λ u. Yields steps u p.items p.gave.0.0) at p.gave.0.1) in
      let l : r.0 ≤ 4 = subst (λ zs. r.0 ≤ length zs) four r.1 in
      let same : fold ◌+ℤ◌ (pos 0) p.items ≡ sum r.0 h = ap (fold ◌+ℤ◌ (pos 0)) (r.2 ∙ ap (take r.0) four) ∙ fold_take h r.0 l in
      let w : nat_abs (sum r.0 h) ≤ b * r.0 = sum_within r.0 b h (λ k m. each k (omega arith)) in
      subst (FitsSigned w64) (sym same) (small_fits (sum r.0 h) (b * 4) (omega (arith, mul-le-mul_left {m = r.0} {n = 4} b l)) few)

  pub sum_of_four : (r : ℤ) → ((xs : List ℤ) × (Unit {0} → Drains steps s xs) × (r ≡ fold ◌+ℤ◌ (pos 0) xs)) → r ≡ sum 4 h
  sum_of_four r m =
      let d = m.1 tt in
      m.2 ∙ ap (fold ◌+ℤ◌ (pos 0)) (sym (map_id m.0) ∙ items_from_drains m.0 (d.1.0, d.1.1, λ _. (d.0, d.1.2)) e ∙ four) ∙ fold_take h 4 (lit≤ tt)

-- what `map` gives of two lists of four, side by side
pub map_pairs : (h : ℤ × ℤ → ℤ) (xs ys : List ℤ) → length xs ≡ 4 → length ys ≡ 4 → map h (zip xs ys) ≡ quad (λ t. h (at xs t, at ys t))
map_pairs h xs ys k l = λ i. map h (zip (quad_of xs (pos 0) k i) (quad_of ys (pos 0) l i))
