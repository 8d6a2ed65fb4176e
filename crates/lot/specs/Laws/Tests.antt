-- What tests of integers say.
use Rattle.std.specs.Prelude.{◌≡◌, ℕ, ◌<◌, Bool, true, false, T, ℤ, pos, negsuc, ◌≤ℤ◌, int_le, refl}
use Rattle.std.proofs.Common.{sym, ap, subst, arith}
use Rattle.std.specs.Int.Signed.{≤ℤ_refl}
use Rattle.std.proofs.lemmas.Int.{ints}
use Rattle.std.proofs.lemmas.Bool.{and_parts, and_from, eqb-true}
use Rattle.units.specs.Limit.{is_zero}
use Rattle.lot.specs.Sum.{same_z}
use Rattle.lot.specs.Single.{idle_row}
use Rattle.lot.specs.Laws.Sums.{every_true, every_from}

pub le_of_test : (a b : ℤ) → int_le a b ≡ true → a ≤ℤ b
le_of_test a b h = record { le = subst T (sym h) tt }

pub test_of_le : (a b : ℤ) → a ≤ℤ b → int_le a b ≡ true
test_of_le a b h = is_true (int_le a b) h.le
  where
    is_true : (t : Bool) → T t → t ≡ true
    is_true true h = refl
    is_true false h = absurd h

pub same_of_test : (a b : ℤ) → same_z a b ≡ true → a ≡ b
same_of_test a b h =
    let both = and_parts (int_le a b) (int_le b a) h in
    let x = le_of_test a b both.0 in
    let y = le_of_test b a both.1 in
    omega (arith, ints)

pub test_of_same : (a b : ℤ) → a ≡ b → same_z a b ≡ true
test_of_same a b e = subst (λ x. same_z a x ≡ true) e (and_from (int_le a a) (int_le a a) (test_of_le a a (≤ℤ_refl a)) (test_of_le a a (≤ℤ_refl a)))

pub zero_of_test : (z : ℤ) → is_zero z ≡ true → z ≡ pos 0
unfolding is_zero
zero_of_test (pos n) h = ap pos (eqb-true n 0 h)
zero_of_test (negsuc n) h = let z : ◌≡◌ {A = ℕ} 0 1 = cc in absurd (omega arith)

pub test_of_zero : (z : ℤ) → z ≡ pos 0 → is_zero z ≡ true
unfolding is_zero
test_of_zero z e = ap is_zero e

pub idle_cells : (q : ℕ → ℤ) → idle_row q ≡ true → (t : ℕ) → t < 4 → q t ≡ pos 0
idle_cells q h t l = zero_of_test (q t) (every_true 4 (λ t. is_zero (q t)) h t l)

pub cells_idle : (q : ℕ → ℤ) → ((t : ℕ) → t < 4 → q t ≡ pos 0) → idle_row q ≡ true
cells_idle q h = every_from 4 (λ t. is_zero (q t)) (λ t l. test_of_zero (q t) (h t l))
