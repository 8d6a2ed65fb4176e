-- The places of a lot's net, in order, as far as nothing is left over or missing.
use Rattle.std.proofs.Common.{◌≡◌, ℕ, ◌+◌, ◌*◌, ◌/◌, ◌%◌, ◌<◌, false, not, ℤ, pos, negsuc, zero, suc, w64, of_z, ne_eqb, Some, None, refl, ap, ap₂, ◌∙◌, arith}
use Rattle.units.specs.Limit.{is_zero}
use Rattle.lot.specs.Meaning.{Meaning, Cells, lot_net}
use Rattle.lot.specs.Laws.Tests.{test_of_zero}
use Rattle.page.proofs.Least.{least_is}
use Rattle.judge.specs.Judge.{balance_fault}

-- the net is zero at the first n places
pub record BalancedTo (m : Meaning) (c : Cells) (n : ℕ) : Type 0 where
  pub each : (j : ℕ) → j < n → lot_net m c (j / 4) (j % 4) ≡ pos 0

net_at : (m : Meaning) (c : Cells) (a t j : ℕ) → t < 4 → j ≡ 4 * a + t → lot_net m c (j / 4) (j % 4) ≡ lot_net m c a t
net_at m c a t j l e = ap₂ (lot_net m c) (omega arith) (omega arith)

passes_not : (m : Meaning) (c : Cells) (j : ℕ) → lot_net m c (j / 4) (j % 4) ≡ pos 0 → not (is_zero (lot_net m c (j / 4) (j % 4))) ≡ false
passes_not m c j z = ap not (test_of_zero (lot_net m c (j / 4) (j % 4)) z)

pub balanced_all : {m : Meaning} {c : Cells} → BalancedTo m c 128 → None ≡ balance_fault m c
unfolding balance_fault
balanced_all {m} {c} b = least_is 128 (λ j. not (is_zero (lot_net m c (j / 4) (j % 4)))) None (λ k _ l. passes_not m c k (b.each k l))

pub balanced_until : {m : Meaning} {c : Cells} {n : ℕ} (a t : ℕ) → t < 4 → a < 32 → n ≡ 4 * a + t → BalancedTo m c n → is_zero (lot_net m c a t) ≡ false → Some n ≡ balance_fault m c
unfolding balance_fault
balanced_until {m} {c} {n} a t l k e b z =
    least_is 128 (λ j. not (is_zero (lot_net m c (j / 4) (j % 4)))) (Some n) (omega arith, omega arith, ap (λ x. not (is_zero x)) (net_at m c a t n l e) ∙ ap not z, λ k _ l. passes_not m c k (b.each k l))

-- a number that the machine finds not zero
pub not_zero : (z r : ℤ) → r ≡ z → (of_z w64 r ≡ 0 → ⊥) → is_zero z ≡ false
unfolding is_zero
not_zero (pos zero) r e h = absurd (h (ap (of_z w64) e))
not_zero (pos (suc n)) r e h = ne_eqb (suc n) 0 (λ z. omega arith)
not_zero (negsuc n) r e h = refl
