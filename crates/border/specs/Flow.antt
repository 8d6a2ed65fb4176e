-- What a border means as a lot. Its four cells are a flow, which leaves the first area and enters the second: constant
-- within each step, and in each quarter at most the forward ATC and at least minus the back ATC.
use Rattle.std.specs.Prelude.{ℕ, min, Bool, true, cond, ◌&&◌, List, [], ◌∷◌, ℤ, pos, ◌+ℤ◌, ◌-ℤ◌, neg_ℤ, ◌==◌, int_le}
use Rattle.lot.specs.Sum.{every, same_z}
use Rattle.lot.specs.Meaning.{Prices}
use Rattle.lot.specs.Single.{Single}
use Rattle.border.specs.declared.step.Step.{Step}
use Rattle.border.specs.declared.step.Step.TheVariants.{One, Two, Four}
use Rattle.border.specs.declared.fields.BorderFields.{BorderFields}
use Rattle.border.specs.declared.stretch.Stretch.{Stretch}
use Rattle.border.specs.Fields.{border_quarter}
use Rattle.border.specs.Stretch.{stretch_best, stretch_keeps}

-- ---- the steps of the hour
-- one step: its first quarter, and its others
abbrev pub Block : Type 0
Block = ℕ × List ℕ

abbrev pub blocks : Step → List Block
blocks One = (0, []) ∷ (1, []) ∷ (2, []) ∷ (3, []) ∷ []
blocks Two = (0, 1 ∷ []) ∷ (2, 3 ∷ []) ∷ []
blocks Four = (0, 1 ∷ 2 ∷ 3 ∷ []) ∷ []

abbrev pub least_from : (ℕ → ℕ) → ℕ → List ℕ → ℕ
least_from f t [] = f t
least_from f t (u ∷ us) = min (f t) (least_from f u us)

abbrev pub total_from : (ℕ → ℤ) → ℕ → List ℕ → ℤ
total_from f t [] = f t
total_from f t (u ∷ us) = f t +ℤ total_from f u us

-- the smallest of f over the quarters of a step
abbrev pub least : (ℕ → ℕ) → Block → ℕ
least f k = least_from f k.0 k.1

-- the sum of f over the quarters of a step
abbrev pub total : (ℕ → ℤ) → Block → ℤ
total f k = total_from f k.0 k.1

-- the sum of f over a list, as over the steps
abbrev pub sum_over : {A : Type 0} → List A → (A → ℤ) → ℤ
sum_over [] f = pos 0
sum_over (x ∷ xs) f = f x +ℤ sum_over xs f

-- all of a list pass the test
abbrev pub every_of : {A : Type 0} → List A → (A → Bool) → Bool
every_of [] f = true
every_of (x ∷ xs) f = f x && every_of xs f

-- ---- the flow
-- within each step the flow is that of the step's first quarter
abbrev pub steady : Step → (ℕ → ℤ) → Bool
steady s q = every_of (blocks s) (λ k. every_of k.1 (λ u. same_z (q u) (q k.0)))

-- the ATCs of a quarter: the most that may flow forward, and back
abbrev pub forward_at : BorderFields → ℕ → ℕ
forward_at f t = (border_quarter f.quarters t).forward

abbrev pub back_at : BorderFields → ℕ → ℕ
back_at f t = (border_quarter f.quarters t).back

-- the ATCs of a quarter let a flow x pass: it is at most the one forward, and at least minus the one back
abbrev pub passes : ℕ → ℕ → ℤ → Bool
passes forward back x = int_le (neg_ℤ (pos back)) x && int_le x (pos forward)

-- what a flow x puts into an area: -x into the first, x into the second, nothing elsewhere
abbrev pub carried : BorderFields → ℕ → ℤ → ℤ
carried f a x = cond (a == f.from) (neg_ℤ x) (cond (a == f.to) x (pos 0))

-- ---- at prices
-- the second price minus the first, in a quarter
abbrev pub gap_at : BorderFields → Prices → ℕ → ℤ
gap_at f p t = p f.to t -ℤ p f.from t

-- a step at the prices: the smallest forward and back ATC of its quarters, and the sum of their gaps
abbrev pub stretch : BorderFields → Prices → Block → Stretch
stretch f p k = record { forward = least (forward_at f) k; back = least (back_at f) k; gap = total (gap_at f p) k }

-- the border as a lot of one row; it is worth nothing, and its amount is its rent
abbrev pub flowing : BorderFields → Single
flowing f = record {
  admits = λ q. steady f.step q && every 4 (λ t. passes (forward_at f t) (back_at f t) (q t));
  net = λ q a t. carried f a (q t);
  worth = λ q. pos 0;
  best = λ p. sum_over (blocks f.step) (λ k. stretch_best (stretch f p k));
  keeps = λ q p. every_of (blocks f.step) (λ k. stretch_keeps (stretch f p k) (q k.0));
}
