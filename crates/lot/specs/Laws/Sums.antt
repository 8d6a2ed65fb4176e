-- The laws of `sum`, `count`, `every` and `beside`.
use Rattle.std.specs.Prelude.{◌≡◌, ℕ, zero, suc, ◌+◌, ◌-◌, ◌*◌, ◌<◌, ◌≤◌, Bool, true, false, cond, ◌&&◌, ℤ, pos, ◌+ℤ◌, ◌*ℤ◌, neg_ℤ, ◌≤ℤ◌, ◌==◌, unsigned_abs, refl}
use Rattle.std.proofs.Common.{sym, ap, ap₂, ◌∙◌, subst, add-suc, add-zero, mul-suc, add-one, ⊎_elim, arith}
use Rattle.std.proofs.Math.IntN.{+ℤ_idl, +ℤ_idr, +ℤ_assoc, zero-*ℤ}
use Rattle.std.proofs.lemmas.Int.{ints}
use Rattle.std.proofs.lemmas.Bool.{lt-ltb, le-ltb, cases_lt, cases_Bool, cond_both, cond-true, cond-false, and_parts, and_from, eq-eqb, ne_eqb, both_ways}
use Rattle.lot.specs.Sum.{sum, count, every, beside}
use Rattle.lot.specs.Laws.Ring.{add_mul}

pub sum_none : (f : ℕ → ℤ) → sum 0 f ≡ pos 0
unfolding sum
sum_none f = refl

pub sum_more : (n : ℕ) (f : ℕ → ℤ) → sum (n + 1) f ≡ sum n f +ℤ f n
unfolding sum
sum_more n f = ap (λ k. sum k f) (add-one n)

pub sum_same : (n : ℕ) (f g : ℕ → ℤ) → ((k : ℕ) → k < n → f k ≡ g k) → sum n f ≡ sum n g
unfolding sum
sum_same zero f g h = refl
sum_same (suc n) f g h = ap₂ ◌+ℤ◌ (sum_same n f g (λ k l. h k (omega arith))) (h n (omega arith))

pub sum_zero : (n : ℕ) (f : ℕ → ℤ) → ((k : ℕ) → k < n → f k ≡ pos 0) → sum n f ≡ pos 0
unfolding sum
sum_zero zero f h = refl
sum_zero (suc n) f h = ap₂ ◌+ℤ◌ (sum_zero n f (λ k l. h k (omega arith))) (h n (omega arith))

pub sum_add : (n : ℕ) (f g : ℕ → ℤ) → sum n (λ k. f k +ℤ g k) ≡ sum n f +ℤ sum n g
unfolding sum
sum_add zero f g = refl
sum_add (suc n) f g = let e = sum_add n f g in omega (arith, ints)

pub sum_neg : (n : ℕ) (f : ℕ → ℤ) → sum n (λ k. neg_ℤ (f k)) ≡ neg_ℤ (sum n f)
unfolding sum
sum_neg zero f = refl
sum_neg (suc n) f = let e = sum_neg n f in omega (arith, ints)

pub sum_split : (n m : ℕ) (f : ℕ → ℤ) → sum (n + m) f ≡ sum n f +ℤ sum m (λ k. f (n + k))
unfolding sum
sum_split n zero f = ap (λ k. sum k f) (add-zero n) ∙ sym (+ℤ_idr (sum n f))
sum_split n (suc m) f = ap (λ k. sum k f) (add-suc n m) ∙ ap (λ x. x +ℤ f (n + m)) (sum_split n m f) ∙ +ℤ_assoc (sum n f) (sum m (λ k. f (n + k))) (f (n + m))

pub sum_swap : (n m : ℕ) (f : ℕ → ℕ → ℤ) → sum n (λ i. sum m (λ j. f i j)) ≡ sum m (λ j. sum n (λ i. f i j))
unfolding sum
sum_swap zero m f = sym (sum_zero m (λ j. sum 0 (λ i. f i j)) (λ k l. refl))
sum_swap (suc n) m f = ap (λ x. x +ℤ sum m (λ j. f n j)) (sum_swap n m f) ∙ sym (sum_add m (λ j. sum n (λ i. f i j)) (f n))

pub sum_times : (n : ℕ) (f : ℕ → ℤ) (k : ℤ) → sum n (λ i. f i *ℤ k) ≡ sum n f *ℤ k
unfolding sum
sum_times zero f k = sym (zero-*ℤ k)
sum_times (suc n) f k = ap (λ x. x +ℤ f n *ℤ k) (sum_times n f k) ∙ sym (add_mul (sum n f) (f n) k)

pub sum_le : (n : ℕ) (f g : ℕ → ℤ) → ((k : ℕ) → k < n → f k ≤ℤ g k) → sum n f ≤ℤ sum n g
unfolding sum
sum_le zero f g h = omega (arith, ints)
sum_le (suc n) f g h =
    let e = sum_le n f g (λ k l. h k (omega arith)) in
    let w : f n ≤ℤ g n = h n (omega arith) in
    omega (arith, ints)

pub abs_plus : (a b : ℤ) → unsigned_abs (a +ℤ b) ≤ unsigned_abs a + unsigned_abs b
abs_plus a b = omega (arith, ints)

-- each at least -b and at most b
pub sum_within : (n b : ℕ) (f : ℕ → ℤ) → ((k : ℕ) → k < n → unsigned_abs (f k) ≤ b) → unsigned_abs (sum n f) ≤ b * n
unfolding sum
sum_within zero b f h = omega (arith, ints)
sum_within (suc n) b f h =
    let e = sum_within n b f (λ k l. h k (omega arith)) in
    let w : unsigned_abs (f n) ≤ b = h n (omega arith) in
    omega (arith, mul-suc b n, abs_plus (sum n f) (f n))

pub count_more : (n : ℕ) (p : ℕ → Bool) → count (n + 1) p ≡ count n p + cond (p n) 1 0
unfolding count
count_more n p = ap (λ k. count k p) (add-one n)

pub beside_below : {A : Type 0} (n : ℕ) (f g : ℕ → A) (k : ℕ) → k < n → beside n f g k ≡ f k
unfolding beside
beside_below n f g k h = ap (λ b. cond b (f k) (g (k - n))) (lt-ltb k n h)

pub beside_above : {A : Type 0} (n : ℕ) (f g : ℕ → A) (k : ℕ) → n ≤ k → beside n f g k ≡ g (k - n)
unfolding beside
beside_above n f g k h = ap (λ b. cond b (f k) (g (k - n))) (le-ltb k n h)

pub beside_past : {A : Type 0} (n : ℕ) (f g : ℕ → A) (k : ℕ) → beside n f g (n + k) ≡ g k
unfolding beside
beside_past n f g k = ap (λ b. cond b (f (n + k)) (g (n + k - n))) (le-ltb (n + k) n (omega arith)) ∙ ap g (omega arith)

pub each_beside : (P : ℕ → Type 0) (n l : ℕ) → ((k : ℕ) → k < n → P k) → ((k : ℕ) → k < l → P (n + k)) → (k : ℕ) → k < n + l → P k
each_beside P n l low high k h =
    ⊎_elim (λ b. low k b) (λ b. let e : n + (k - n) ≡ k = omega arith in subst P e (high (k - n) (omega arith))) (cases_lt k n)

-- a sum over rows set one after the other
pub sum_beside : (n l : ℕ) (h f g : ℕ → ℤ) → ((k : ℕ) → k < n → h k ≡ f k) → ((k : ℕ) → k < l → h (n + k) ≡ g k) → sum (n + l) h ≡ sum n f +ℤ sum l g
sum_beside n l h f g low high = sum_split n l h ∙ ap₂ ◌+ℤ◌ (sum_same n h f low) (sum_same l (λ k. h (n + k)) g high)

pub count_same : (n : ℕ) (p q : ℕ → Bool) → ((k : ℕ) → k < n → p k ≡ q k) → count n p ≡ count n q
unfolding count
count_same zero p q h = refl
count_same (suc n) p q h = ap₂ (λ x b. x + cond b 1 0) (count_same n p q (λ k l. h k (omega arith))) (h n (omega arith))

pub count_split : (n m : ℕ) (p : ℕ → Bool) → count (n + m) p ≡ count n p + count m (λ k. p (n + k))
unfolding count
count_split n zero p = ap (λ k. count k p) (add-zero n) ∙ omega arith
count_split n (suc m) p = ap (λ k. count k p) (add-suc n m) ∙ ap (λ x. x + cond (p (n + m)) 1 0) (count_split n m p) ∙ omega arith

pub count_beside : (n l : ℕ) (p q : ℕ → Bool) → count (n + l) (beside n p q) ≡ count n p + count l q
count_beside n l p q = count_split n l (beside n p q) ∙ ap₂ ◌+◌ (count_same n (beside n p q) p (beside_below n p q)) (count_same l (λ k. beside n p q (n + k)) q (λ k _. beside_past n p q k))

pub count_le : (n : ℕ) (p : ℕ → Bool) → count n p ≤ n
unfolding count
count_le zero p = omega arith
count_le (suc n) p = let e = count_le n p in cond_both (p n) 1 0 (λ x. count n p + x ≤ suc n) (λ _. omega arith) (λ _. omega arith)

pub count_none : (n : ℕ) (p : ℕ → Bool) → ((k : ℕ) → k < n → p k ≡ false) → count n p ≡ 0
unfolding count
count_none zero p h = refl
count_none (suc n) p h = ap₂ (λ x b. x + cond b 1 0) (count_none n p (λ k l. h k (omega arith))) (h n (omega arith))

-- where none is counted, none passes
pub count_zero : (n : ℕ) (p : ℕ → Bool) → count n p ≡ 0 → (k : ℕ) → k < n → p k ≡ false
unfolding count
count_zero zero p h k l = absurd (omega arith)
count_zero (suc n) p h k l = ⊎_elim
    (λ (y : p n ≡ true). let e : ◌≡◌ {A = ℕ} (cond (p n) 1 0) 1 = ap (λ b. cond b 1 0) y in let f : count n p + cond (p n) 1 0 ≡ 0 = h in absurd (omega arith))
    (λ (y : p n ≡ false). let f : count n p + cond (p n) 1 0 ≡ 0 = h in ⊎_elim
    (λ (b : k < n). count_zero n p (omega arith) k b)
    (λ (b : n ≤ k). ap p (omega arith) ∙ y)
    (cases_lt k n))
    (cases_Bool (p n))

-- ---- tests of all
pub every_true : (n : ℕ) (f : ℕ → Bool) → every n f ≡ true → (k : ℕ) → k < n → f k ≡ true
unfolding every
every_true zero f h k l = absurd (omega arith)
every_true (suc n) f h k l = let both = and_parts (every n f) (f n) h in
    ⊎_elim (λ (b : k < n). every_true n f both.0 k b) (λ (b : n ≤ k). ap f (omega arith) ∙ both.1) (cases_lt k n)

pub every_from : (n : ℕ) (f : ℕ → Bool) → ((k : ℕ) → k < n → f k ≡ true) → every n f ≡ true
unfolding every
every_from zero f h = refl
every_from (suc n) f h = and_from (every n f) (f n) (every_from n f (λ k l. h k (omega arith))) (h n (omega arith))

pub every_same : (n : ℕ) (f g : ℕ → Bool) → ((k : ℕ) → k < n → f k ≡ g k) → every n f ≡ every n g
unfolding every
every_same zero f g h = refl
every_same (suc n) f g h = ap₂ ◌&&◌ (every_same n f g (λ k l. h k (omega arith))) (h n (omega arith))

pub every_false : (n : ℕ) (f : ℕ → Bool) (k : ℕ) → k < n → f k ≡ false → every n f ≡ false
every_false n f k l h = ⊎_elim
    (λ (y : every n f ≡ true). let z = every_true n f y k l in absurd (both_ways (f k) h z))
    (λ (e : every n f ≡ false). e)
    (cases_Bool (every n f))

-- the four quarters, one by one
pub every_four : (f : ℕ → Bool) → every 4 f ≡ (((true && f 0) && f 1) && f 2) && f 3
unfolding every
every_four f = refl

pub sum_four : (f : ℕ → ℤ) → sum 4 f ≡ f 0 +ℤ f 1 +ℤ f 2 +ℤ f 3
unfolding sum
sum_four f = ap (λ x. x +ℤ f 1 +ℤ f 2 +ℤ f 3) (+ℤ_idl (f 0))

pub each_four : (P : ℕ → Type 0) → P 0 → P 1 → P 2 → P 3 → (t : ℕ) → t < 4 → P t
each_four P a b c d zero h = a
each_four P a b c d (suc zero) h = b
each_four P a b c d (suc (suc zero)) h = c
each_four P a b c d (suc (suc (suc zero))) h = d
each_four P a b c d (suc (suc (suc (suc t)))) h = absurd (omega arith)

-- ---- sums with one term
pub sum_one : (f : ℕ → ℤ) → sum 1 f ≡ f 0
unfolding sum
sum_one f = +ℤ_idl (f 0)

pub sum_pick : (n k : ℕ) (f : ℕ → ℤ) → k < n → sum n (λ a. cond (a == k) (f a) (pos 0)) ≡ f k
unfolding sum
sum_pick zero k f h = absurd (omega arith)
sum_pick (suc n) k f h = ⊎_elim
    (λ (l : k < n). let off : cond (n == k) (f n) (pos 0) ≡ pos 0 = cond-false (n == k) _ _ (ne_eqb n k (λ e. omega arith)) in
    let e = sum_pick n k f l in
    omega (arith, ints))
    (λ (g : n ≤ k). let same : n ≡ k = omega arith in
    let none : sum n (λ a. cond (a == k) (f a) (pos 0)) ≡ pos 0 = sum_zero n (λ a. cond (a == k) (f a) (pos 0)) (λ a l. cond-false (a == k) _ _ (ne_eqb a k (λ e. omega arith))) in
    let on : cond (n == k) (f n) (pos 0) ≡ f k = cond-true (n == k) _ _ (eq-eqb n k same) ∙ ap f same in
    omega (arith, ints))
    (cases_lt k n)
