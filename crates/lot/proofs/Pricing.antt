-- Prices that are all within the cap, and the test of them.
use Rattle.std.proofs.Common.{◌≡◌, ℕ, ◌≤◌, Bool, true, false, List, length, ℤ, pos, neg_ℤ, nat_abs, arith}
use lib.Signed.{le_z}
use Rattle.std.proofs.lemmas.Int.{ints}
use Rattle.std.proofs.lemmas.Bool.{and_from}
use Rattle.units.specs.Limit.{is_price, cap}
use Rattle.lot.specs.Sum.{every}
use Rattle.lot.specs.Page.{table_of, Priced}
use Rattle.lot.specs.Laws.Sums.{every_true, every_from}
use Rattle.lot.specs.Laws.Tests.{test_of_le}
use Rattle.lot.specs.Laws.Limits.{price_within}

pub price_passes : (z : ℤ) → nat_abs z ≤ cap → is_price z ≡ true
unfolding is_price
price_passes z h = and_from (le_z (neg_ℤ (pos cap)) z) (le_z z (pos cap)) (test_of_le (neg_ℤ (pos cap)) z (omega (arith, ints))) (test_of_le z (pos cap) (omega (arith, ints)))

-- the prices of an area pass
abbrev pub area_passes : List ℕ → ℕ → Bool
area_passes q a = every 4 (λ t. is_price (table_of q a t))

pub priced_from : (q : List ℕ) → length q ≡ 544 → every 32 (area_passes q) ≡ true → Priced q
priced_from q long h = record {
  long = long;
  capped = λ a t l k. price_within (table_of q a t) (every_true 4 (λ t. is_price (table_of q a t)) (every_true 32 (area_passes q) h a l) t k);
}

pub priced_passes : (q : List ℕ) → Priced q → every 32 (area_passes q) ≡ true
priced_passes q p = every_from 32 (area_passes q) (λ a l. every_from 4 (λ t. is_price (table_of q a t)) (λ t k. price_passes (table_of q a t) (p.capped a t l k)))

-- none where the prices are not within the cap
pub unpriced : (q : List ℕ) → (Priced q → ⊥) → (false ≡ true → Priced q) × (Priced q → false ≡ true)
unpriced q not = (λ h. cc, λ p. absurd (not p))
