-- Numbers of 32 and 64 bits: a product or a sum that is known to be small fits.
use Rattle.std.proofs.Common.{◌≡◌, ℕ, ◌^◌, ◌<◌, ◌≤◌, Bool, true, false, eqb, List, ℤ, ◌*ℤ◌, nat_abs, sym, refl, ap, ◌∙◌, subst, ap₂, arith, lit<, w32, w64, SFits, to_z, of_z}
use Rattle.std.proofs.lemmas.Int.{ints, to_z-of_z}
use Rattle.std.proofs.lemmas.Bool.{eqb-true, eq-eqb}
use Rattle.lot.specs.Sum.{sum, same_z}
use Rattle.lot.specs.Laws.Tests.{same_of_test, test_of_same}
use Rattle.lot.specs.Page.{at, four, Within, AllWithin}
use Rattle.lot.specs.Laws.Ring.{abs_mul_le}
use Rattle.lot.specs.Laws.Sums.{each_four, sum_within}

-- a call's product, whose factors were passed through their bits
pub passed_product : {r x y : ℤ} → SFits w32 x → SFits w32 y → r ≡ to_z w32 (of_z w32 x) *ℤ to_z w32 (of_z w32 y) → r ≡ x *ℤ y
passed_product {r} {x} {y} f g e = e ∙ ap₂ ◌*ℤ◌ (to_z-of_z w32 x f) (to_z-of_z w32 y g)

pub within_more : {n m : ℕ} {z : ℤ} → Within n z → n ≤ m → Within m z
within_more {n} {m} {z} h l = let k : nat_abs z ≤ n = h.size in record { size = omega arith }

pub within_fits32 : {n : ℕ} {z : ℤ} → Within n z → n < 2 ^ 31 → SFits w32 z
within_fits32 {n} {z} h l = let k : nat_abs z ≤ n = h.size in omega (arith, ints)

pub within_fits64 : {n : ℕ} {z : ℤ} → Within n z → n < 2 ^ 63 → SFits w64 z
within_fits64 {n} {z} h l = let k : nat_abs z ≤ n = h.size in omega (arith, ints)

pub back64 : {n : ℕ} {z : ℤ} → Within n z → n < 2 ^ 63 → to_z w64 (of_z w64 z) ≡ z
back64 h l = to_z-of_z w64 _ (within_fits64 h l)

pub each_within : {n : ℕ} {xs : List ℤ} → AllWithin n xs → (t : ℕ) → t < 4 → nat_abs (at xs t) ≤ n
each_within {n} {xs} h = each_four (λ t. nat_abs (at xs t) ≤ n) h.is0.size h.is1.size h.is2.size h.is3.size

pub all_within : {n : ℕ} (f : ℕ → ℤ) → ((t : ℕ) → t < 4 → nat_abs (f t) ≤ n) → AllWithin n (four f)
all_within f h = record { is0 = record { size = h 0 (lit< tt) }; is1 = record { size = h 1 (lit< tt) }; is2 = record { size = h 2 (lit< tt) }; is3 = record { size = h 3 (lit< tt) } }

-- the sum of four products
pub dot_within : {xs ys : List ℤ} → AllWithin 99999 xs → AllWithin 19999998 ys → Within 7999919200008 (sum 4 (λ t. at xs t *ℤ at ys t))
dot_within {xs} {ys} q p = record { size = sum_within 4 1999979800002 (λ t. at xs t *ℤ at ys t) (λ t l. abs_mul_le (at xs t) (at ys t) 99999 19999998 (each_within q t l) (each_within p t l)) }

-- one of four small numbers
pub fits_at : {n : ℕ} {xs : List ℤ} → AllWithin n xs → (t : ℕ) → t < 4 → n < 2 ^ 31 → SFits w32 (at xs t)
fits_at {n} {xs} h t l k = within_fits32 {n = n} (record { size = each_within h t l }) k

pub passed_at : {n m : ℕ} {xs : List ℤ} → AllWithin n xs → (t : ℕ) → t < 4 → n ≤ m → m < 2 ^ 31 → Within m (to_z w32 (of_z w32 (at xs t)))
passed_at {n} {m} {xs} h t l k b =
    let one : Within m (at xs t) = within_more {n = n} (record { size = each_within h t l }) k in
    subst (Within m) (sym (to_z-of_z w32 (at xs t) (within_fits32 one b))) one

-- two tests that hold together are one
pub same_tests : (a b : Bool) → (a ≡ true → b ≡ true) → (b ≡ true → a ≡ true) → a ≡ b
same_tests true b h k = sym (h refl)
same_tests false true h k = k refl
same_tests false false h k = refl

-- `==` compares the bits
pub eq_tests : {x y : ℤ} → SFits w64 x → SFits w64 y → eqb (of_z w64 x) (of_z w64 y) ≡ same_z x y
eq_tests {x} {y} f g = same_tests (eqb (of_z w64 x) (of_z w64 y)) (same_z x y)
    (λ h. test_of_same x y (sym (to_z-of_z w64 x f) ∙ ap (to_z w64) (eqb-true (of_z w64 x) (of_z w64 y) h) ∙ to_z-of_z w64 y g))
    (λ h. eq-eqb (of_z w64 x) (of_z w64 y) (ap (of_z w64) (same_of_test x y h)))
