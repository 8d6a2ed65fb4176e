-- A border's steps at the prices of a page: areas and prices are in range, and gaps are small.
use Rattle.std.proofs.Common.{◌≡◌, ℕ, suc, ◌+◌, ◌*◌, ◌<◌, ◌≤◌, List, [], ◌∷◌, length, ℤ, pos, ◌+ℤ◌, ◌-ℤ◌, ◌*ℤ◌, neg_ℤ, nat_abs, sym, refl, ap, ◌∙◌, subst, ap₂, le_trans, mul-suc, arith, lit<, lit≤, w32, w64, SFits, to_z, of_z}
use Rattle.std.specs.List.{AllByRecursion}
use Rattle.std.specs.Int.{int_max}
use Rattle.std.proofs.lemmas.Int.{ints, clamps}
use Rattle.units.specs.Limit.{cap, most_quantity}
use Rattle.lot.specs.Page.{table_of, Within, Priced}
use Rattle.lot.specs.Laws.Ring.{abs_mul_le}
use Rattle.border.specs.declared.step.Step.TheVariants.{Two}
use Rattle.border.specs.declared.fields.BorderFields.{BorderFields}
use Rattle.border.specs.declared.lawful.Border.{Border}
use Rattle.border.specs.declared.stretch.Stretch.{Stretch}
use Rattle.border.specs.Stretch.{both, stretch_best}
use Rattle.border.specs.Flow.{Block, blocks, total_from, least, total, sum_over, forward_at, back_at, gap_at, stretch, flowing}
use Rattle.border.specs.Laws.Flows.{Lawful, lawful, least_le, small_gap}

pub lawful_fields : (x : Border) → Lawful x.fields
lawful_fields x = lawful x.fields x.placed x.fine

pub first_inside : (x : Border) {a : ℕ} → a ≡ x.fields.from → a < 32
first_inside x {a} e = let h = (lawful_fields x).first in omega arith

pub second_inside : (x : Border) {a : ℕ} → a ≡ x.fields.to → a < 32
second_inside x {a} e = let h = (lawful_fields x).second in omega arith

best_near : (m n : ℕ) (d : ℤ) → m ≤ most_quantity → n ≤ most_quantity → nat_abs d ≤ 1000000000 → Within 99999000000000 (int_max (pos m *ℤ d) (neg_ℤ (pos n *ℤ d)))
best_near m n d h k l = record { size = greater (pos m *ℤ d) (pos n *ℤ d) (abs_mul_le (pos m) d most_quantity 1000000000 h l) (abs_mul_le (pos n) d most_quantity 1000000000 k l) }
  where
    greater : (u v : ℤ) → nat_abs u ≤ 99999000000000 → nat_abs v ≤ 99999000000000 → nat_abs (int_max u (neg_ℤ v)) ≤ 99999000000000
    greater u v h k = omega (arith, ints, clamps)

-- a difference of prices as code computes it
module _ (x y u v : ℤ) (h : nat_abs u ≤ cap) (k : nat_abs v ≤ cap) (e : x ≡ u) (g : y ≡ v) where
  difference_fits : SFits w32 (to_z w32 (of_z w32 x) -ℤ to_z w32 (of_z w32 y))
  difference_fits = omega (arith, ints)

  difference_is : to_z w32 (of_z w32 (to_z w32 (of_z w32 x) -ℤ to_z w32 (of_z w32 y))) ≡ u -ℤ v
  difference_is = omega (arith, ints)

total_within : (g : ℕ → ℤ) (b t : ℕ) (us : List ℕ) → AllByRecursion (λ u. nat_abs (g u) ≤ b) (t ∷ us) → nat_abs (total_from g t us) ≤ b * suc (length us)
total_within g b t [] h = let a : nat_abs (g t) ≤ b = h.0 in omega (arith, mul-suc b 0)
total_within g b t (u ∷ us) h =
    let a : nat_abs (g t) ≤ b = h.0 in
    let r : nat_abs (total_from g u us) ≤ b * suc (length us) = total_within g b u us h.1 in
    let s : nat_abs (g t +ℤ total_from g u us) ≤ nat_abs (g t) + nat_abs (total_from g u us) = omega (arith, ints) in
    omega (arith, mul-suc b (suc (length us)))

all_near : (g : ℕ → ℤ) (b : ℕ) (us : List ℕ) → ((t : ℕ) → t < 4 → nat_abs (g t) ≤ b) → AllByRecursion (λ t. t < 4) us → AllByRecursion (λ u. nat_abs (g u) ≤ b) us
all_near g b [] h l = tt
all_near g b (u ∷ us) h l = (h u l.0, all_near g b us h l.1)

module _ (x : Border) (b : List ℕ) (priced : Priced b) where
  module _ {m n : ℕ} (em : m ≡ x.fields.from) (en : n ≡ x.fields.to) (t : ℕ) (l : t < 4) (first second : ℤ) (ef : first ≡ table_of b m t) (es : second ≡ table_of b n t) where
    is_first : first ≡ table_of b x.fields.from t
    is_first = ef ∙ ap (λ a. table_of b a t) em

    is_second : second ≡ table_of b x.fields.to t
    is_second = es ∙ ap (λ a. table_of b a t) en

    pub gap_fits : SFits w32 (to_z w32 (of_z w32 second) -ℤ to_z w32 (of_z w32 first))
    gap_fits = difference_fits second first (table_of b x.fields.to t) (table_of b x.fields.from t) (priced.capped x.fields.to t (lawful_fields x).second l) (priced.capped x.fields.from t (lawful_fields x).first l) is_second is_first

    pub quarter_is : ◌≡◌ {A = Stretch} (record { forward = forward_at x.fields t; back = back_at x.fields t; gap = to_z w32 (of_z w32 (to_z w32 (of_z w32 second) -ℤ to_z w32 (of_z w32 first))) }) (stretch x.fields (table_of b) (t, []))
    quarter_is = ap (λ (z : ℤ). record { forward = forward_at x.fields t; back = back_at x.fields t; gap = z })
        (difference_is second first (table_of b x.fields.to t) (table_of b x.fields.from t) (priced.capped x.fields.to t (lawful_fields x).second l) (priced.capped x.fields.from t (lawful_fields x).first l) is_second is_first)

  -- the gap of a step, of at most four quarters
  pub gap_near : (k : Block) → AllByRecursion (λ t. t < 4) (k.0 ∷ k.1) → length k.1 ≤ 3 → (s : Stretch) → s ≡ stretch x.fields (table_of b) k → Within 1000000000 s.gap
  gap_near k l few s e =
      let f : BorderFields = x.fields in
      let w : nat_abs (total (gap_at f (table_of b)) k) ≤ (cap + cap) * suc (length k.1) = total_within (gap_at f (table_of b)) (cap + cap) k.0 k.1 (all_near (gap_at f (table_of b)) (cap + cap) (k.0 ∷ k.1) (small_gap f (lawful_fields x) (table_of b) priced.capped) l) in
      subst (λ r. Within 1000000000 r.gap) (sym e) (record { size = omega arith })

  -- the gap of the last three quarters, joined
  pub later_near : (r s t : Stretch) → r ≡ both s t → s ≡ stretch x.fields (table_of b) (1, []) → t ≡ stretch x.fields (table_of b) (2, 3 ∷ []) → Within 1000000000 r.gap
  later_near r s t e f g = gap_near (1, 2 ∷ 3 ∷ []) (lit< tt, (lit< tt, (lit< tt, tt))) (lit≤ tt) r (e ∙ ap₂ both f g)

  -- the greatest rent of a step, as a call gives it
  pub record Rented (k : Block) (r : ℤ) : Type 0 where
    pub near : Within 99999000000000 r
    pub is : r ≡ stretch_best (stretch x.fields (table_of b) k)

  rented : (k : Block) → AllByRecursion (λ t. t < 4) (k.0 ∷ k.1) → length k.1 ≤ 3 → (s : Stretch) → s ≡ stretch x.fields (table_of b) k → (r : ℤ) → r ≡ stretch_best s → Rented k r
  rented k l few s e r h =
      let f : BorderFields = x.fields in
      let gap = gap_near k l few (stretch f (table_of b) k) refl in
      let same : r ≡ stretch_best (stretch f (table_of b) k) = h ∙ ap stretch_best e in
      record {
        near = subst (Within 99999000000000) (sym same) (best_near (least (forward_at f) k) (least (back_at f) k) (total (gap_at f (table_of b)) k)
            (le_trans (least_le (forward_at f) k.0 k.1).0 ((lawful_fields x).few_forward k.0 l.0))
            (le_trans (least_le (back_at f) k.0 k.1).0 ((lawful_fields x).few_back k.0 l.0)) gap.size);
        is = same;
      }

  pub rented_quarter : (t : ℕ) → t < 4 → {s : Stretch} {r : ℤ} → s ≡ stretch x.fields (table_of b) (t, []) → r ≡ stretch_best s → Rented (t, []) r
  rented_quarter t l {s} {r} e h = rented (t, []) (l, tt) (lit≤ tt) s e r h

  pub rented_half : (t u : ℕ) → t < 4 → u < 4 → {s : Stretch} {r : ℤ} → s ≡ stretch x.fields (table_of b) (t, u ∷ []) → r ≡ stretch_best s → Rented (t, u ∷ []) r
  rented_half t u l m {s} {r} e h = rented (t, u ∷ []) (l, (m, tt)) (lit≤ tt) s e r h

  pub two_fit : {k l : Block} {r s : ℤ} → Rented k r → Rented l s → SFits w64 (to_z w64 (of_z w64 r) +ℤ to_z w64 (of_z w64 s))
  two_fit {r = r} {s = s} h g = fit r s h.near.size g.near.size
    where
      fit : (u v : ℤ) → nat_abs u ≤ 99999000000000 → nat_abs v ≤ 99999000000000 → SFits w64 (to_z w64 (of_z w64 u) +ℤ to_z w64 (of_z w64 v))
      fit u v h k = omega (arith, ints)

  -- the rents of the steps, summed as code sums them
  pub rents_in_two : x.fields.step ≡ Two → {h i : ℤ} → Rented (0, 1 ∷ []) h → Rented (2, 3 ∷ []) i
      → to_z w64 (of_z w64 (to_z w64 (of_z w64 h) +ℤ to_z w64 (of_z w64 i))) ≡ (flowing x.fields).best (table_of b)
  rents_in_two two {h} {i} u v = last h i u.near.size v.near.size
      ∙ (λ n. u.is n +ℤ (v.is n +ℤ pos 0)) ∙ ap (λ s. sum_over (blocks s) (λ m. stretch_best (stretch x.fields (table_of b) m))) (sym two)
    where
      last : (h i : ℤ) → nat_abs h ≤ 99999000000000 → nat_abs i ≤ 99999000000000 → to_z w64 (of_z w64 (to_z w64 (of_z w64 h) +ℤ to_z w64 (of_z w64 i))) ≡ h +ℤ (i +ℤ pos 0)
      last h i u v = omega (arith, ints)
