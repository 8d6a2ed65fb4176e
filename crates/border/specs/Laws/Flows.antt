-- What a border owes as a lot: its best bounds the rent of every flow that it admits and is reached, a flow that keeps
-- the price rule reaches it, and power and money are bounded.
use Rattle.std.specs.Prelude.{◌≡◌, ℕ, zero, suc, ◌+◌, ◌*◌, ◌<◌, ◌≤◌, min, Bool, true, false, cond, not, ◌||◌, List, [], ◌∷◌, ℤ, pos, ◌+ℤ◌, ◌-ℤ◌, ◌*ℤ◌, neg_ℤ, ◌≤ℤ◌, ◌<ℤ◌, ◌==◌, ◌≢◌, int_le, int_lt, unsigned_abs}
use Rattle.std.proofs.Math.Path.{refl, sym, ap₂, subst}
use Rattle.std.proofs.Common.{ap, ◌∙◌, subst₂, ⊎_elim, arith, lit<, lit≤}
use Rattle.std.proofs.Math.Nat.{le_trans}
use Rattle.std.proofs.Math.IntN.{*ℤ_comm, zero-*ℤ, +ℤ_idl, +ℤ_idr}
use Rattle.std.specs.Int.Signed.{≤ℤ_refl}
use Rattle.std.specs.Int.{int_max}
use Rattle.std.specs.List.{AllByRecursion}
use Rattle.std.proofs.lemmas.Int.{ints, clamps, by_lt_z}
use Rattle.std.proofs.lemmas.Bool.{and_parts, and_from, or_cases, or_left, or_right, not-true, not_from_false, leb-true, eqb-true, eqb-false}
use Rattle.units.specs.Limit.{cap, most_quantity, is_area, is_quantity}
use Rattle.lot.specs.Sum.{sum, every, same_z}
use Rattle.lot.specs.Meaning.{Prices, Capped, money}
use Rattle.lot.specs.Duties.{most_money}
use Rattle.lot.specs.Page.{at}
use Rattle.lot.specs.Laws.Ring.{neg_mul, mul_add, mul_sub, mul_le_mul_nonneg, abs_mul_le}
use Rattle.lot.specs.Laws.Sums.{sum_four, sum_same, sum_zero, sum_add, sum_within, sum_pick, every_true, every_from, each_four}
use Rattle.lot.specs.Laws.Singles.{SingleDuties, no_power}
use Rattle.border.specs.declared.step.Step.{Step}
use Rattle.border.specs.declared.step.Step.TheVariants.{One, Two, Four}
use Rattle.border.specs.declared.fields.BorderQuarter.{BorderQuarter}
use Rattle.border.specs.declared.fields.BorderFields.{BorderFields}
use Rattle.border.specs.declared.stretch.Stretch.{Stretch}
use Rattle.border.specs.Fields.{border_quarter, border_placed, border_quarter_fine, border_fine}
use Rattle.border.specs.Stretch.{stretch_best, stretch_keeps}
use Rattle.border.specs.Flow.{Block, blocks, least_from, total_from, least, total, sum_over, every_of, steady, forward_at, back_at, passes, carried, gap_at, stretch, flowing}

-- ---- the members of a list
all_map : {A : Type 0} (P R : A → Type 0) → ((x : A) → P x → R x) → (xs : List A) → AllByRecursion P xs → AllByRecursion R xs
all_map P R f [] p = tt
all_map P R f (x ∷ xs) p = (f x p.0, all_map P R f xs p.1)

all_map₂ : {A : Type 0} (P Q R : A → Type 0) → ((x : A) → P x → Q x → R x) → (xs : List A) → AllByRecursion P xs → AllByRecursion Q xs → AllByRecursion R xs
all_map₂ P Q R f [] p q = tt
all_map₂ P Q R f (x ∷ xs) p q = (f x p.0 q.0, all_map₂ P Q R f xs p.1 q.1)

all_any : {A : Type 0} (P : A → Type 0) → ((x : A) → P x) → (xs : List A) → AllByRecursion P xs
all_any P f [] = tt
all_any P f (x ∷ xs) = (f x, all_any P f xs)

every_of_lem : {A : Type 0} (xs : List A) (f : A → Bool) → every_of xs f ≡ true → AllByRecursion (λ x. f x ≡ true) xs
every_of_lem [] f h = tt
every_of_lem (x ∷ xs) f h = let both = and_parts (f x) (every_of xs f) h in (both.0, every_of_lem xs f both.1)

of_every : {A : Type 0} (xs : List A) (f : A → Bool) → AllByRecursion (λ x. f x ≡ true) xs → every_of xs f ≡ true
of_every [] f h = refl
of_every (x ∷ xs) f h = and_from (f x) (every_of xs f) h.0 (of_every xs f h.1)

sum_over_le : {A : Type 0} (f g : A → ℤ) (xs : List A) → AllByRecursion (λ x. f x ≤ℤ g x) xs → sum_over xs f ≤ℤ sum_over xs g
sum_over_le f g [] h = ≤ℤ_refl (pos 0)
sum_over_le f g (x ∷ xs) h = let a : f x ≤ℤ g x = h.0 in let r = sum_over_le f g xs h.1 in omega (arith, ints)

sum_over_same : {A : Type 0} (f g : A → ℤ) (xs : List A) → AllByRecursion (λ x. f x ≡ g x) xs → sum_over xs f ≡ sum_over xs g
sum_over_same f g [] h = refl
sum_over_same f g (x ∷ xs) h = ap₂ ◌+ℤ◌ h.0 (sum_over_same f g xs h.1)

-- ---- the quarters of a step
-- P of every quarter of a step
abbrev On : (ℕ → Type 0) → Block → Type 0
On P k = AllByRecursion P (k.0 ∷ k.1)

on_blocks : (P : ℕ → Type 0) → ((t : ℕ) → t < 4 → P t) → (w : Step) → AllByRecursion (On P) (blocks w)
on_blocks P h One = ((h 0 (lit< tt), tt), ((h 1 (lit< tt), tt), ((h 2 (lit< tt), tt), ((h 3 (lit< tt), tt), tt))))
on_blocks P h Two = ((h 0 (lit< tt), (h 1 (lit< tt), tt)), ((h 2 (lit< tt), (h 3 (lit< tt), tt)), tt))
on_blocks P h Four = ((h 0 (lit< tt), (h 1 (lit< tt), (h 2 (lit< tt), (h 3 (lit< tt), tt)))), tt)

-- a sum over the hour is one over its steps
sum_blocks : (f : ℕ → ℤ) (w : Step) → sum 4 f ≡ sum_over (blocks w) (total f)
sum_blocks f w = sum_four f ∙ by_step w
  where
    by_step : (w : Step) → f 0 +ℤ f 1 +ℤ f 2 +ℤ f 3 ≡ sum_over (blocks w) (total f)
    by_step One = omega (arith, ints)
    by_step Two = omega (arith, ints)
    by_step Four = omega (arith, ints)

-- what every quarter of a step lets pass, its least does
le_least : (f : ℕ → ℕ) (x : ℤ) (t : ℕ) (us : List ℕ) → On (λ u. x ≤ℤ pos (f u)) (t, us) → x ≤ℤ pos (least f (t, us))
le_least f x t [] h = h.0
le_least f x t (u ∷ us) h =
    let a : x ≤ℤ pos (f t) = h.0 in
    let r : x ≤ℤ pos (least_from f u us) = le_least f x u us h.1 in
    omega (arith, ints)

pub least_le : (f : ℕ → ℕ) (t : ℕ) (us : List ℕ) → On (λ u. least f (t, us) ≤ f u) (t, us)
least_le f t [] = (omega arith, tt)
least_le f t (u ∷ us) = (omega arith, all_map (λ v. least_from f u us ≤ f v) (λ v. min (f t) (least_from f u us) ≤ f v) (λ v h. omega arith) (u ∷ us) (least_le f u us))

-- a steady flow comes out of the sum
total_steady : (q d : ℕ → ℤ) (x : ℤ) (t : ℕ) (us : List ℕ) → q t ≡ x → AllByRecursion (λ u. q u ≡ x) us → total_from (λ u. q u *ℤ d u) t us ≡ x *ℤ total_from d t us
total_steady q d x t [] e a = ap (λ y. y *ℤ d t) e
total_steady q d x t (u ∷ us) e a = ap₂ (λ y z. y *ℤ d t +ℤ z) e (total_steady q d x u us a.0 a.1) ∙ sym (mul_add x (d t) (total_from d u us))

-- ---- one step, with the flow x, the ATCs f and b, and the gap d
-- at a positive gap the greater flow earns more, at a negative one the smaller
mul_up : (x y d : ℤ) → x ≤ℤ y → pos 0 ≤ℤ d → (x *ℤ d) ≤ℤ (y *ℤ d)
mul_up x y d h n = subst₂ (λ u v. u ≤ℤ v) (*ℤ_comm d x) (*ℤ_comm d y) (mul_le_mul_nonneg d x y n h)

mul_down : (x y d : ℤ) → x ≤ℤ y → d ≤ℤ pos 0 → (y *ℤ d) ≤ℤ (x *ℤ d)
mul_down x y d h n = back (x *ℤ d) (y *ℤ d) (subst₂ (λ u v. u ≤ℤ v) (turned x) (turned y) (mul_le_mul_nonneg (neg_ℤ d) x y (omega (arith, ints)) h))
  where
    turned : (z : ℤ) → neg_ℤ d *ℤ z ≡ neg_ℤ (z *ℤ d)
    turned z = neg_mul d z ∙ ap neg_ℤ (*ℤ_comm d z)

    back : (u v : ℤ) → neg_ℤ u ≤ℤ neg_ℤ v → v ≤ℤ u
    back u v h = omega (arith, ints)

step_above : (x f b d : ℤ) → neg_ℤ b ≤ℤ x → x ≤ℤ f → (x *ℤ d) ≤ℤ int_max (f *ℤ d) (neg_ℤ (b *ℤ d))
step_above x f b d lo hi =
    by_lt_z d (pos 0)
    (λ under. low (x *ℤ d) (f *ℤ d) (b *ℤ d) (subst (λ z. (x *ℤ d) ≤ℤ z) (neg_mul b d) (mul_down (neg_ℤ b) x d lo (omega (arith, ints)))))
    (λ over. high (x *ℤ d) (f *ℤ d) (b *ℤ d) (mul_up x f d hi over))
  where
    low : (u v w : ℤ) → u ≤ℤ neg_ℤ w → u ≤ℤ int_max v (neg_ℤ w)
    low u v w h = omega (arith, ints, clamps)

    high : (u v w : ℤ) → u ≤ℤ v → u ≤ℤ int_max v (neg_ℤ w)
    high u v w h = omega (arith, ints, clamps)

-- the price rule of a step, as two facts
record Kept (x f b d : ℤ) : Type 0 where
  not_full : x <ℤ f → d ≤ℤ pos 0
  not_back : neg_ℤ b <ℤ x → pos 0 ≤ℤ d

kept_facts : (s : Stretch) (x : ℤ) → stretch_keeps s x ≡ true → Kept x (pos s.forward) (pos s.back) s.gap
kept_facts s x h =
    let both = and_parts (not (int_lt x (pos s.forward)) || int_le s.gap (pos 0)) (not (int_lt (neg_ℤ (pos s.back)) x) || int_le (pos 0) s.gap) h in
    record {
      not_full = implied x (pos s.forward) s.gap (pos 0) both.0;
      not_back = implied (neg_ℤ (pos s.back)) x (pos 0) s.gap both.1;
    }
  where
    implied : (u v y z : ℤ) → (not (int_lt u v) || int_le y z) ≡ true → u <ℤ v → y ≤ℤ z
    implied u v y z h l = ⊎_elim
        (λ (n : not (int_lt u v) ≡ true). let e : int_lt u v ≡ false = not-true (int_lt u v) n in absurd (omega (arith, ints)))
        (λ (y : int_le y z ≡ true). omega (arith, ints))
        (or_cases (not (int_lt u v)) (int_le y z) h)

-- a flow that keeps the rule earns as much as any other flow y of the step
kept_beats : (x y d : ℤ) → (x <ℤ y → d ≤ℤ pos 0) → (y <ℤ x → pos 0 ≤ℤ d) → (y *ℤ d) ≤ℤ (x *ℤ d)
kept_beats x y d less more =
    by_lt_z x y
    (λ l. mul_down x y d (omega (arith, ints)) (less l))
    (λ g. by_lt_z y x
    (λ l. mul_up y x d g (more l))
    (λ h. let e : y ≡ x = omega (arith, ints) in subst (λ z. (z *ℤ d) ≤ℤ (x *ℤ d)) (sym e) (≤ℤ_refl (x *ℤ d))))

step_kept : (x f b d : ℤ) → neg_ℤ b ≤ℤ x → x ≤ℤ f → Kept x f b d → x *ℤ d ≡ int_max (f *ℤ d) (neg_ℤ (b *ℤ d))
step_kept x f b d lo hi k =
    meet (x *ℤ d) (f *ℤ d) (b *ℤ d) (step_above x f b d lo hi)
    (kept_beats x f d k.not_full (λ l. absurd (omega (arith, ints))))
    (subst (λ z. z ≤ℤ (x *ℤ d)) (neg_mul b d) (kept_beats x (neg_ℤ b) d (λ l. absurd (omega (arith, ints))) k.not_back))
  where
    meet : (u v w : ℤ) → u ≤ℤ int_max v (neg_ℤ w) → v ≤ℤ u → neg_ℤ w ≤ℤ u → u ≡ int_max v (neg_ℤ w)
    meet u v w h g l = omega (arith, ints, clamps)

le_yes : (x y : ℤ) → x ≤ℤ y → int_le x y ≡ true
le_yes x y h = let e : true ≡ int_le x y = omega (arith, ints) in sym e

passes_from : (f b : ℕ) (x : ℤ) → neg_ℤ (pos b) ≤ℤ x → x ≤ℤ pos f → passes f b x ≡ true
passes_from f b x lo hi = and_from (int_le (neg_ℤ (pos b)) x) (int_le x (pos f)) (le_yes (neg_ℤ (pos b)) x lo) (le_yes x (pos f) hi)

-- all that may flow: forward, or back where the gap is negative
push : Stretch → ℤ
push s = cond (int_lt s.gap (pos 0)) (neg_ℤ (pos s.back)) (pos s.forward)

push_keeps : (s : Stretch) → stretch_keeps s (push s) ≡ true
unfolding push
push_keeps s = by_test (int_lt s.gap (pos 0)) refl
  where
    not_under : (x : ℤ) → not (int_lt x x) ≡ true
    not_under x = let e : false ≡ int_lt x x = omega (arith, ints) in not_from_false (int_lt x x) (sym e)

    by_test : (t : Bool) → int_lt s.gap (pos 0) ≡ t → stretch_keeps s (cond t (neg_ℤ (pos s.back)) (pos s.forward)) ≡ true
    by_test true e = and_from _ _ (or_right (not (int_lt (neg_ℤ (pos s.back)) (pos s.forward))) _ (le_yes s.gap (pos 0) (omega (arith, ints)))) (or_left _ _ (not_under (neg_ℤ (pos s.back))))
    by_test false e = and_from _ _ (or_left _ _ (not_under (pos s.forward))) (or_right (not (int_lt (neg_ℤ (pos s.back)) (pos s.forward))) _ (le_yes (pos 0) s.gap (omega (arith, ints))))

push_passes : (s : Stretch) (f b : ℕ) → s.forward ≤ f → s.back ≤ b → passes f b (push s) ≡ true
unfolding push
push_passes s f b h k = by_test (int_lt s.gap (pos 0))
  where
    by_test : (t : Bool) → passes f b (cond t (neg_ℤ (pos s.back)) (pos s.forward)) ≡ true
    by_test true = passes_from f b (neg_ℤ (pos s.back)) (omega (arith, ints)) (omega (arith, ints))
    by_test false = passes_from f b (pos s.forward) (omega (arith, ints)) (omega (arith, ints))

-- ---- a flow by its steps
spread : Step → (Block → ℤ) → ℕ → ℤ
spread One v = at (v (0, []) ∷ v (1, []) ∷ v (2, []) ∷ v (3, []) ∷ [])
spread Two v = at (v (0, 1 ∷ []) ∷ v (0, 1 ∷ []) ∷ v (2, 3 ∷ []) ∷ v (2, 3 ∷ []) ∷ [])
spread Four v = at (v (0, 1 ∷ 2 ∷ 3 ∷ []) ∷ v (0, 1 ∷ 2 ∷ 3 ∷ []) ∷ v (0, 1 ∷ 2 ∷ 3 ∷ []) ∷ v (0, 1 ∷ 2 ∷ 3 ∷ []) ∷ [])

late : (a b c d : ℤ) (t : ℕ) → 4 ≤ t → at (a ∷ b ∷ c ∷ d ∷ []) t ≡ pos 0
late a b c d zero h = absurd (omega arith)
late a b c d (suc zero) h = absurd (omega arith)
late a b c d (suc (suc zero)) h = absurd (omega arith)
late a b c d (suc (suc (suc zero))) h = absurd (omega arith)
late a b c d (suc (suc (suc (suc t)))) h = refl

spread_late : (w : Step) (v : Block → ℤ) (t : ℕ) → 4 ≤ t → spread w v t ≡ pos 0
unfolding spread
spread_late One v t h = late _ _ _ _ t h
spread_late Two v t h = late _ _ _ _ t h
spread_late Four v t h = late _ _ _ _ t h

spread_starts : (w : Step) (v : Block → ℤ) → AllByRecursion (λ k. v k ≡ spread w v k.0) (blocks w)
unfolding spread
spread_starts One v = (refl, (refl, (refl, (refl, tt))))
spread_starts Two v = (refl, (refl, tt))
spread_starts Four v = (refl, tt)

spread_same : (w : Step) (v : Block → ℤ) → AllByRecursion (λ k. AllByRecursion (λ u. spread w v u ≡ spread w v k.0) k.1) (blocks w)
unfolding spread
spread_same One v = (tt, (tt, (tt, (tt, tt))))
spread_same Two v = ((refl, tt), ((refl, tt), tt))
spread_same Four v = ((refl, (refl, (refl, tt))), tt)

spread_each : (P : ℤ → ℕ → Type 0) (w : Step) (v : Block → ℤ) → AllByRecursion (λ k. On (P (v k)) k) (blocks w) → (t : ℕ) → t < 4 → P (spread w v t) t
unfolding spread
spread_each P One v h = each_four (λ t. P (spread One v t) t) h.0.0 h.1.0.0 h.1.1.0.0 h.1.1.1.0.0
spread_each P Two v h = each_four (λ t. P (spread Two v t) t) h.0.0 h.0.1.0 h.1.0.0 h.1.0.1.0
spread_each P Four v h = each_four (λ t. P (spread Four v t) t) h.0.0 h.0.1.0 h.0.1.1.0 h.0.1.1.1.0

same_yes : (x y : ℤ) → x ≡ y → same_z x y ≡ true
same_yes x y e = and_from (int_le x y) (int_le y x) (le_yes x y (omega (arith, ints))) (le_yes y x (omega (arith, ints)))

same_is : (x y : ℤ) → same_z x y ≡ true → x ≡ y
same_is x y h = let both = and_parts (int_le x y) (int_le y x) h in omega (arith, ints)

steady_from : (w : Step) (q : ℕ → ℤ) → AllByRecursion (λ k. AllByRecursion (λ u. q u ≡ q k.0) k.1) (blocks w) → steady w q ≡ true
steady_from w q h = of_every (blocks w) (λ k. every_of k.1 (λ u. same_z (q u) (q k.0)))
    (all_map (λ k. AllByRecursion (λ u. q u ≡ q k.0) k.1) (λ k. every_of k.1 (λ u. same_z (q u) (q k.0)) ≡ true)
    (λ k a. of_every k.1 (λ u. same_z (q u) (q k.0)) (all_map (λ u. q u ≡ q k.0) (λ u. same_z (q u) (q k.0) ≡ true) (λ u e. same_yes (q u) (q k.0) e) k.1 a))
    (blocks w) h)

steady_is : (w : Step) (q : ℕ → ℤ) → steady w q ≡ true → AllByRecursion (λ k. AllByRecursion (λ u. q u ≡ q k.0) k.1) (blocks w)
steady_is w q h = all_map (λ k. every_of k.1 (λ u. same_z (q u) (q k.0)) ≡ true) (λ k. AllByRecursion (λ u. q u ≡ q k.0) k.1)
    (λ k a. all_map (λ u. same_z (q u) (q k.0) ≡ true) (λ u. q u ≡ q k.0) (λ u e. same_is (q u) (q k.0) e) k.1 (every_of_lem k.1 (λ u. same_z (q u) (q k.0)) a))
    (blocks w) (every_of_lem (blocks w) (λ k. every_of k.1 (λ u. same_z (q u) (q k.0))) h)

-- ---- what the fields of a lawful border are
pub record Lawful (f : BorderFields) : Type 0 where
  pub first : f.from < 32
  pub second : f.to < 32
  pub apart : f.from ≡ f.to → ⊥
  pub few_forward : (t : ℕ) → t < 4 → forward_at f t ≤ most_quantity
  pub few_back : (t : ℕ) → t < 4 → back_at f t ≤ most_quantity

area_below : (a : ℕ) → is_area a ≡ true → a < 32
unfolding is_area
area_below a h = omega (arith, leb-true a 31 h)

quarter_few : (q : BorderQuarter) → border_quarter_fine q ≡ true → (q.forward ≤ most_quantity) × (q.back ≤ most_quantity)
unfolding border_quarter_fine is_quantity
quarter_few q h = let both = and_parts (is_quantity q.forward) (is_quantity q.back) h in (leb-true q.forward most_quantity both.0, leb-true q.back most_quantity both.1)

quarters_few : (qs : List BorderQuarter) → border_fine qs ≡ true → (t : ℕ) → t < 4 → ((border_quarter qs t).forward ≤ most_quantity) × ((border_quarter qs t).back ≤ most_quantity)
unfolding border_fine
quarters_few qs h =
    let a = and_parts (border_quarter_fine (border_quarter qs 0)) _ h in
    let b = and_parts (border_quarter_fine (border_quarter qs 1)) _ a.1 in
    let c = and_parts (border_quarter_fine (border_quarter qs 2)) (border_quarter_fine (border_quarter qs 3)) b.1 in
    each_four (λ t. ((border_quarter qs t).forward ≤ most_quantity) × ((border_quarter qs t).back ≤ most_quantity))
    (quarter_few (border_quarter qs 0) a.0) (quarter_few (border_quarter qs 1) b.0) (quarter_few (border_quarter qs 2) c.0) (quarter_few (border_quarter qs 3) c.1)

pub lawful : (f : BorderFields) → border_placed f.from f.to ≡ true → border_fine f.quarters ≡ true → Lawful f
unfolding border_placed
lawful f placed fine =
    let a = and_parts (is_area f.from) _ placed in
    let b = and_parts (is_area f.to) (not (f.from == f.to)) a.1 in
    record {
      first = area_below f.from a.0;
      second = area_below f.to b.0;
      apart = eqb-false f.from f.to (not-true (f.from == f.to) b.1);
      few_forward = λ t l. (quarters_few f.quarters fine t l).0;
      few_back = λ t l. (quarters_few f.quarters fine t l).1;
    }

-- an area is not both ends
one_end : (f : BorderFields) → Lawful f → (a : ℕ) → (a == f.from) ≡ true → (a == f.to) ≢ true
one_end f ok a g h = ok.apart (sym (eqb-true a f.from g) ∙ eqb-true a f.to h)

-- ---- power and rent
quarter_rent : (x p r : ℤ) → neg_ℤ x *ℤ p +ℤ x *ℤ r ≡ x *ℤ (r -ℤ p)
quarter_rent x p r = last (x *ℤ p) (x *ℤ r) (neg_ℤ x *ℤ p) (x *ℤ (r -ℤ p)) (neg_mul x p) (mul_sub x r p)
  where
    last : (a b c d : ℤ) → c ≡ neg_ℤ a → d ≡ b -ℤ a → c +ℤ b ≡ d
    last a b c d e g = omega (arith, ints)

-- the rent of a flow: in each quarter the flow times the gap
unfoldable pub rent : BorderFields → (ℕ → ℤ) → Prices → ℤ
rent f q p = sum 4 (λ t. q t *ℤ gap_at f p t)

-- a flow at the prices of an area
abbrev paid : Prices → (ℕ → ℤ) → ℕ → ℤ
paid p q a = sum 4 (λ t. q t *ℤ p a t)

module _ (f : BorderFields) (ok : Lawful f) where
  -- the amount of a border is its rent
  pub rent_is : (q : ℕ → ℤ) (p : Prices) → money ((flowing f).net q) p ≡ rent f q p
  unfolding money rent
  rent_is q p =
      sum_same 32 (λ a. sum 4 (λ t. carried f a (q t) *ℤ p a t)) (λ a. cond (a == f.from) (paid p (λ t. neg_ℤ (q t)) a) (pos 0) +ℤ cond (a == f.to) (paid p q a) (pos 0)) (λ a _. by_ends a (a == f.from) (a == f.to) (one_end f ok a))
      ∙ sum_add 32 (λ a. cond (a == f.from) (paid p (λ t. neg_ℤ (q t)) a) (pos 0)) (λ a. cond (a == f.to) (paid p q a) (pos 0))
      ∙ ap₂ ◌+ℤ◌ (sum_pick 32 f.from (paid p (λ t. neg_ℤ (q t))) ok.first) (sum_pick 32 f.to (paid p q) ok.second)
      ∙ sym (sum_add 4 (λ t. neg_ℤ (q t) *ℤ p f.from t) (λ t. q t *ℤ p f.to t))
      ∙ sum_same 4 (λ t. neg_ℤ (q t) *ℤ p f.from t +ℤ q t *ℤ p f.to t) (λ t. q t *ℤ gap_at f p t) (λ t _. quarter_rent (q t) (p f.from t) (p f.to t))
    where
      by_ends : (a : ℕ) (x y : Bool) → (x ≡ true → y ≢ true) → sum 4 (λ t. cond x (neg_ℤ (q t)) (cond y (q t) (pos 0)) *ℤ p a t) ≡ cond x (paid p (λ t. neg_ℤ (q t)) a) (pos 0) +ℤ cond y (paid p q a) (pos 0)
      by_ends a true true n = absurd (n refl refl)
      by_ends a true false n = sym (+ℤ_idr (sum 4 (λ t. neg_ℤ (q t) *ℤ p a t)))
      by_ends a false true n = sym (+ℤ_idl (sum 4 (λ t. q t *ℤ p a t)))
      by_ends a false false n = sum_zero 4 (λ t. pos 0 *ℤ p a t) (λ t _. zero-*ℤ (p a t))

  -- a flow counts twice: out of one area and into another
  power_is : (x : ℤ) → sum 32 (λ a. pos (unsigned_abs (carried f a x))) ≡ pos (unsigned_abs x) +ℤ pos (unsigned_abs x)
  power_is x =
      sum_same 32 (λ a. pos (unsigned_abs (carried f a x))) (λ a. cond (a == f.from) (pos (unsigned_abs x)) (pos 0) +ℤ cond (a == f.to) (pos (unsigned_abs x)) (pos 0)) (λ a _. by_ends (a == f.from) (a == f.to) (one_end f ok a))
      ∙ sum_add 32 (λ a. cond (a == f.from) (pos (unsigned_abs x)) (pos 0)) (λ a. cond (a == f.to) (pos (unsigned_abs x)) (pos 0))
      ∙ ap₂ ◌+ℤ◌ (sum_pick 32 f.from (λ _. pos (unsigned_abs x)) ok.first) (sum_pick 32 f.to (λ _. pos (unsigned_abs x)) ok.second)
    where
      by_ends : (y z : Bool) → (y ≡ true → z ≢ true) → pos (unsigned_abs (cond y (neg_ℤ x) (cond z x (pos 0)))) ≡ cond y (pos (unsigned_abs x)) (pos 0) +ℤ cond z (pos (unsigned_abs x)) (pos 0)
      by_ends true true n = absurd (n refl refl)
      by_ends true false n = let e : unsigned_abs (neg_ℤ x) ≡ unsigned_abs x = omega (arith, ints) in omega (arith, ints)
      by_ends false true n = omega (arith, ints)
      by_ends false false n = refl

-- ---- an admitted flow
-- within the ATCs of a quarter
record Between (f : BorderFields) (t : ℕ) (x : ℤ) : Type 0 where
  lo : neg_ℤ (pos (back_at f t)) ≤ℤ x
  hi : x ≤ℤ pos (forward_at f t)

-- in a step: within its ATCs, and the same in its quarters
record Inside (f : BorderFields) (q : ℕ → ℤ) (k : Block) : Type 0 where
  lo : neg_ℤ (pos (least (back_at f) k)) ≤ℤ q k.0
  hi : q k.0 ≤ℤ pos (least (forward_at f) k)
  same : (d : ℕ → ℤ) → total (λ u. q u *ℤ d u) k ≡ q k.0 *ℤ total d k

module _ (f : BorderFields) where
  -- the two tests of an admitted flow
  abbrev Tested : (ℕ → ℤ) → Type 0
  Tested q = (steady f.step q ≡ true) × (every 4 (λ t. passes (forward_at f t) (back_at f t) (q t)) ≡ true)

  tested : (q : ℕ → ℤ) → (flowing f).admits q ≡ true → Tested q
  tested q h = and_parts (steady f.step q) (every 4 (λ t. passes (forward_at f t) (back_at f t) (q t))) h

  between : (q : ℕ → ℤ) → (flowing f).admits q ≡ true → (t : ℕ) → t < 4 → Between f t (q t)
  between q h t l =
      let both = and_parts (int_le (neg_ℤ (pos (back_at f t))) (q t)) (int_le (q t) (pos (forward_at f t))) (every_true 4 (λ t. passes (forward_at f t) (back_at f t) (q t)) (tested q h).1 t l) in
      record { lo = omega (arith, ints); hi = omega (arith, ints) }

  inside_step : (q : ℕ → ℤ) (k : Block) → On (λ t. Between f t (q t)) k → AllByRecursion (λ u. q u ≡ q k.0) k.1 → Inside f q k
  inside_step q k b s = record {
    lo = turn (least (back_at f) k) (q k.0) (le_least (back_at f) (neg_ℤ (q k.0)) k.0 k.1
        (all_map₂ (λ t. Between f t (q t)) (λ u. q u ≡ q k.0) (λ u. neg_ℤ (q k.0) ≤ℤ pos (back_at f u)) (λ u x e. let l = x.lo in omega (arith, ints)) (k.0 ∷ k.1) b (refl, s)));
    hi = le_least (forward_at f) (q k.0) k.0 k.1
        (all_map₂ (λ t. Between f t (q t)) (λ u. q u ≡ q k.0) (λ u. q k.0 ≤ℤ pos (forward_at f u)) (λ u x e. let h = x.hi in omega (arith, ints)) (k.0 ∷ k.1) b (refl, s));
    same = λ d. total_steady q d (q k.0) k.0 k.1 refl s;
  }
    where
      turn : (n : ℕ) (x : ℤ) → neg_ℤ x ≤ℤ pos n → neg_ℤ (pos n) ≤ℤ x
      turn n x h = omega (arith, ints)

  inside : (q : ℕ → ℤ) → (flowing f).admits q ≡ true → AllByRecursion (Inside f q) (blocks f.step)
  inside q h = all_map₂ (On (λ t. Between f t (q t))) (λ k. AllByRecursion (λ u. q u ≡ q k.0) k.1) (Inside f q) (inside_step q)
      (blocks f.step) (on_blocks (λ t. Between f t (q t)) (between q h) f.step) (steady_is f.step q (tested q h).0)

  rent_steps : (q : ℕ → ℤ) (p : Prices) → rent f q p ≡ sum_over (blocks f.step) (total (λ u. q u *ℤ gap_at f p u))
  unfolding rent
  rent_steps q p = sum_blocks (λ u. q u *ℤ gap_at f p u) f.step

  -- no admitted flow earns more than best
  pub rent_above : (p : Prices) (q : ℕ → ℤ) → (flowing f).admits q ≡ true → rent f q p ≤ℤ (flowing f).best p
  rent_above p q h = subst (λ x. x ≤ℤ (flowing f).best p) (sym (rent_steps q p))
      (sum_over_le (total (λ u. q u *ℤ gap_at f p u)) (λ k. stretch_best (stretch f p k)) (blocks f.step)
      (all_map (Inside f q) (λ k. total (λ u. q u *ℤ gap_at f p u) k ≤ℤ stretch_best (stretch f p k))
      (λ k i. subst (λ x. x ≤ℤ stretch_best (stretch f p k)) (sym (i.same (gap_at f p)))
      (step_above (q k.0) (pos (least (forward_at f) k)) (pos (least (back_at f) k)) (total (gap_at f p) k) i.lo i.hi))
      (blocks f.step) (inside q h)))

  -- a flow that keeps the price rule earns just that
  pub rent_kept : (p : Prices) (q : ℕ → ℤ) → (flowing f).admits q ≡ true → (flowing f).keeps q p ≡ true → rent f q p ≡ (flowing f).best p
  rent_kept p q h kept = rent_steps q p
      ∙ sum_over_same (total (λ u. q u *ℤ gap_at f p u)) (λ k. stretch_best (stretch f p k)) (blocks f.step)
      (all_map₂ (Inside f q) (λ k. stretch_keeps (stretch f p k) (q k.0) ≡ true) (λ k. total (λ u. q u *ℤ gap_at f p u) k ≡ stretch_best (stretch f p k))
      (λ k i y. i.same (gap_at f p)
      ∙ step_kept (q k.0) (pos (least (forward_at f) k)) (pos (least (back_at f) k)) (total (gap_at f p) k) i.lo i.hi (kept_facts (stretch f p k) (q k.0) y))
      (blocks f.step) (inside q h) (every_of_lem (blocks f.step) (λ k. stretch_keeps (stretch f p k) (q k.0)) kept))

  -- all forward or all back, step by step
  pushed : Prices → ℕ → ℤ
  pushed p = spread f.step (λ k. push (stretch f p k))

  pushed_late : (p : Prices) (t : ℕ) → 4 ≤ t → pushed p t ≡ pos 0
  unfolding pushed
  pushed_late p = spread_late f.step (λ k. push (stretch f p k))

  pushed_admitted : (p : Prices) → (flowing f).admits (pushed p) ≡ true
  unfolding pushed
  pushed_admitted p =
      let v : Block → ℤ = λ k. push (stretch f p k) in
      and_from (steady f.step (spread f.step v)) (every 4 (λ t. passes (forward_at f t) (back_at f t) (spread f.step v t)))
      (steady_from f.step (spread f.step v) (spread_same f.step v))
      (every_from 4 (λ t. passes (forward_at f t) (back_at f t) (spread f.step v t))
      (spread_each (λ x t. passes (forward_at f t) (back_at f t) x ≡ true) f.step v
      (all_any (λ k. On (λ t. passes (forward_at f t) (back_at f t) (v k) ≡ true) k)
      (λ k. all_map₂ (λ t. least (forward_at f) k ≤ forward_at f t) (λ t. least (back_at f) k ≤ back_at f t) (λ t. passes (forward_at f t) (back_at f t) (v k) ≡ true)
      (λ t x y. push_passes (stretch f p k) (forward_at f t) (back_at f t) x y)
      (k.0 ∷ k.1) (least_le (forward_at f) k.0 k.1) (least_le (back_at f) k.0 k.1))
      (blocks f.step))))

  pushed_keeps : (p : Prices) → (flowing f).keeps (pushed p) p ≡ true
  unfolding pushed
  pushed_keeps p =
      let v : Block → ℤ = λ k. push (stretch f p k) in
      of_every (blocks f.step) (λ k. stretch_keeps (stretch f p k) (spread f.step v k.0))
      (all_map (λ k. v k ≡ spread f.step v k.0) (λ k. stretch_keeps (stretch f p k) (spread f.step v k.0) ≡ true)
      (λ k e. subst (λ x. stretch_keeps (stretch f p k) x ≡ true) e (push_keeps (stretch f p k)))
      (blocks f.step) (spread_starts f.step v))

  idle_admitted_lem : (flowing f).admits no_power ≡ true
  idle_admitted_lem = and_from (steady f.step no_power) (every 4 (λ t. passes (forward_at f t) (back_at f t) (pos 0)))
      (steady_from f.step no_power (all_any (λ k. AllByRecursion (λ u. no_power u ≡ no_power k.0) k.1) (λ k. all_any (λ u. no_power u ≡ no_power k.0) (λ u. refl) k.1) (blocks f.step)))
      (every_from 4 (λ t. passes (forward_at f t) (back_at f t) (pos 0)) (λ t _. passes_from (forward_at f t) (back_at f t) (pos 0) (omega (arith, ints)) (omega (arith, ints))))

  idle_net_lem : (a : ℕ) → carried f a (pos 0) ≡ pos 0
  idle_net_lem a = by_ends (a == f.from) (a == f.to)
    where
      by_ends : (x y : Bool) → cond x (neg_ℤ (pos 0)) (cond y (pos 0) (pos 0)) ≡ pos 0
      by_ends true y = refl
      by_ends false true = refl
      by_ends false false = refl

-- ---- the duties
module _ (f : BorderFields) (ok : Lawful f) where
  pub small_flow : (q : ℕ → ℤ) → (flowing f).admits q ≡ true → (t : ℕ) → t < 4 → unsigned_abs (q t) ≤ most_quantity
  small_flow q h t l = let b = between f q h t l in size (q t) (forward_at f t) (back_at f t) b.lo b.hi (ok.few_forward t l) (ok.few_back t l)
    where
      size : (x : ℤ) (m n : ℕ) → neg_ℤ (pos n) ≤ℤ x → x ≤ℤ pos m → m ≤ most_quantity → n ≤ most_quantity → unsigned_abs x ≤ most_quantity
      size x m n lo hi h k = omega (arith, ints)

  pub small_gap : (p : Prices) → Capped p → (t : ℕ) → t < 4 → unsigned_abs (gap_at f p t) ≤ cap + cap
  small_gap p near t l = let a = near f.to t ok.second l in let b = near f.from t ok.first l in omega (arith, ints)

  pub small_rent : (p : Prices) → Capped p → (q : ℕ → ℤ) → (flowing f).admits q ≡ true → unsigned_abs (rent f q p) ≤ most_money
  unfolding rent
  small_rent p near q h = le_trans (sum_within 4 (most_quantity * (cap + cap)) (λ t. q t *ℤ gap_at f p t)
      (λ t l. abs_mul_le (q t) (gap_at f p t) most_quantity (cap + cap) (small_flow q h t l) (small_gap p near t l))) (lit≤ tt)

  -- worth and amount together
  surplus_is : (q : ℕ → ℤ) (p : Prices) → pos 0 +ℤ money ((flowing f).net q) p ≡ rent f q p
  surplus_is q p = +ℤ_idl (money ((flowing f).net q) p) ∙ rent_is f ok q p

  pushed_rent : (p : Prices) → rent f (pushed f p) p ≡ (flowing f).best p
  pushed_rent p = rent_kept f p (pushed f p) (pushed_admitted f p) (pushed_keeps f p)

  rent_nothing : (p : Prices) → rent f no_power p ≡ pos 0
  unfolding rent
  rent_nothing p = sum_zero 4 (λ t. pos 0 *ℤ gap_at f p t) (λ t _. zero-*ℤ (gap_at f p t))

  lawful_duties : SingleDuties (flowing f)
  lawful_duties = record {
    idle_admitted = idle_admitted_lem f;
    idle_net = λ a t. idle_net_lem f a;
    idle_worth = refl;
    above = λ p q h. subst (λ x. x ≤ℤ (flowing f).best p) (sym (surplus_is q p)) (rent_above f p q h);
    reached = λ p. record {
      at = pushed f p;
      late = pushed_late f p;
      admitted = pushed_admitted f p;
      gives = surplus_is (pushed f p) p ∙ pushed_rent p;
    };
    unharmed = λ p near q h kept. subst (λ x. pos 0 ≤ℤ x) (sym (surplus_is q p ∙ rent_kept f p q h kept)) (subst (λ x. x ≤ℤ (flowing f).best p) (rent_nothing p) (rent_above f p no_power (idle_admitted_lem f)));
    power = λ q h t l. let e = power_is f ok (q t) in let s = small_flow q h t l in omega (arith, ints);
    worth = λ q h. lit≤ tt;
    amount = λ p near q h. subst (λ x. unsigned_abs x ≤ most_money) (sym (rent_is f ok q p)) (small_rent p near q h);
    best = λ p near. let e = pushed_rent p in let s = small_rent p near (pushed f p) (pushed_admitted f p) in omega (arith, ints);
  }

-- what every lawful border owes
pub border_duties : (f : BorderFields) → border_placed f.from f.to ≡ true → border_fine f.quarters ≡ true → SingleDuties (flowing f)
border_duties f placed fine = lawful_duties f (lawful f placed fine)
