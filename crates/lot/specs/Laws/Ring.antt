-- Laws of the integers: the ring, its order, and sizes of products.
use Rattle.std.specs.Prelude.{◌≡◌, ℕ, zero, suc, ◌+◌, ◌*◌, ◌<◌, ◌≤◌, ℤ, pos, negsuc, ◌+ℤ◌, ◌-ℤ◌, ◌*ℤ◌, neg_ℤ, ◌≤ℤ◌, ◌<ℤ◌, unsigned_abs, refl}
use Rattle.std.proofs.Common.{arith, mul-le-mul_left, mul-le-mul, sym, ap, ◌∙◌, subst}
use Rattle.std.proofs.Math.Nat.{le_of_mul-le-mul_left}
use Rattle.std.proofs.Math.IntN.{*ℤ_comm}
use borrow.Author.Differences.{up, down, ints, product_is, sum_is_lem, neg_is, le_out}

pub add_mul : (a b c : ℤ) → (a +ℤ b) *ℤ c ≡ a *ℤ c +ℤ b *ℤ c
add_mul a b c =
    let e1 : (up (a +ℤ b) + down a + down b) * up c ≡ (down (a +ℤ b) + up a + up b) * up c = ap (λ (n : ℕ). n * up c) (sum_is_lem a b) in
    let e2 : (up (a +ℤ b) + down a + down b) * down c ≡ (down (a +ℤ b) + up a + up b) * down c = ap (λ (n : ℕ). n * down c) (sum_is_lem a b) in
    omega (arith, ints)

pub mul_add : (a b c : ℤ) → a *ℤ (b +ℤ c) ≡ a *ℤ b +ℤ a *ℤ c
mul_add a b c = *ℤ_comm a (b +ℤ c) ∙ add_mul b c a ∙ ap (λ (x : ℤ). x +ℤ c *ℤ a) (*ℤ_comm b a) ∙ ap (λ (x : ℤ). a *ℤ b +ℤ x) (*ℤ_comm c a)

pub neg_mul : (a b : ℤ) → neg_ℤ a *ℤ b ≡ neg_ℤ (a *ℤ b)
neg_mul a b =
    let e1 : up (neg_ℤ a) * up b ≡ down a * up b = ap (λ (n : ℕ). n * up b) (neg_is a).0 in
    let e2 : up (neg_ℤ a) * down b ≡ down a * down b = ap (λ (n : ℕ). n * down b) (neg_is a).0 in
    let e3 : down (neg_ℤ a) * up b ≡ up a * up b = ap (λ (n : ℕ). n * up b) (neg_is a).1 in
    let e4 : down (neg_ℤ a) * down b ≡ up a * down b = ap (λ (n : ℕ). n * down b) (neg_is a).1 in
    omega (arith, ints)

pub mul_neg : (a b : ℤ) → a *ℤ neg_ℤ b ≡ neg_ℤ (a *ℤ b)
mul_neg a b = *ℤ_comm a (neg_ℤ b) ∙ neg_mul b a ∙ ap neg_ℤ (*ℤ_comm b a)

pub mul_sub : (a b c : ℤ) → a *ℤ (b -ℤ c) ≡ a *ℤ b -ℤ a *ℤ c
mul_sub a b c = mul_add a b (neg_ℤ c) ∙ ap (λ (x : ℤ). a *ℤ b +ℤ x) (mul_neg a c)

pub mul_assoc : (a b c : ℤ) → (a *ℤ b) *ℤ c ≡ a *ℤ (b *ℤ c)
mul_assoc a b c =
    let p = product_is a b in
    let q = product_is b c in
    let e1 : up (a *ℤ b) * up c ≡ (up a * up b + down a * down b) * up c = ap (λ (n : ℕ). n * up c) p.0 in
    let e2 : up (a *ℤ b) * down c ≡ (up a * up b + down a * down b) * down c = ap (λ (n : ℕ). n * down c) p.0 in
    let e3 : down (a *ℤ b) * up c ≡ (up a * down b + down a * up b) * up c = ap (λ (n : ℕ). n * up c) p.1 in
    let e4 : down (a *ℤ b) * down c ≡ (up a * down b + down a * up b) * down c = ap (λ (n : ℕ). n * down c) p.1 in
    let f1 : up a * up (b *ℤ c) ≡ up a * (up b * up c + down b * down c) = ap (λ (n : ℕ). up a * n) q.0 in
    let f2 : down a * up (b *ℤ c) ≡ down a * (up b * up c + down b * down c) = ap (λ (n : ℕ). down a * n) q.0 in
    let f3 : up a * down (b *ℤ c) ≡ up a * (up b * down c + down b * up c) = ap (λ (n : ℕ). up a * n) q.1 in
    let f4 : down a * down (b *ℤ c) ≡ down a * (up b * down c + down b * up c) = ap (λ (n : ℕ). down a * n) q.1 in
    omega (arith, ints)

-- ---- order
pub mul_le_mul_nonneg : (k a b : ℤ) → pos 0 ≤ℤ k → a ≤ℤ b → (k *ℤ a) ≤ℤ (k *ℤ b)
mul_le_mul_nonneg (pos n) a b h l =
    let m : n * (up a + down b) ≤ n * (up b + down a) = mul-le-mul_left n (le_out a b l) in
    omega (arith, ints)
mul_le_mul_nonneg (negsuc n) a b h l = absurd (omega (arith, ints))

pub le_of_mul_le_mul_pos : (k a b : ℤ) → pos 0 <ℤ k → (k *ℤ a) ≤ℤ (k *ℤ b) → a ≤ℤ b
le_of_mul_le_mul_pos (pos n) a b h l =
    let m : n * (up a + down b) ≤ n * (up b + down a) = omega (arith, ints) in
    let p : 0 < n = omega (arith, ints) in
    let r : up a + down b ≤ up b + down a = le_of_mul-le-mul_left m p in
    omega (arith, ints)
le_of_mul_le_mul_pos (negsuc n) a b h l = absurd (omega (arith, ints))

pub eq_of_mul_eq_mul_pos : (k a b : ℤ) → pos 0 <ℤ k → k *ℤ a ≡ k *ℤ b → a ≡ b
eq_of_mul_eq_mul_pos k a b h e =
    let l : (k *ℤ a) ≤ℤ (k *ℤ b) = omega (arith, ints) in
    let g : (k *ℤ b) ≤ℤ (k *ℤ a) = omega (arith, ints) in
    omega (arith, ints, le_of_mul_le_mul_pos k a b h l, le_of_mul_le_mul_pos k b a h g)

-- ---- size
abs_neg : (n : ℕ) → unsigned_abs (neg_ℤ (pos n)) ≡ n
abs_neg zero = refl
abs_neg (suc n) = refl

pub abs_mul : (a b : ℤ) → unsigned_abs (a *ℤ b) ≡ unsigned_abs a * unsigned_abs b
abs_mul (pos a) (pos b) = refl
abs_mul (pos a) (negsuc b) = abs_neg (a * suc b)
abs_mul (negsuc a) (pos b) = abs_neg (suc a * b)
abs_mul (negsuc a) (negsuc b) = refl

pub abs_mul_le : (a b : ℤ) (m n : ℕ) → unsigned_abs a ≤ m → unsigned_abs b ≤ n → unsigned_abs (a *ℤ b) ≤ m * n
abs_mul_le a b m n h k = subst (λ (x : ℕ). x ≤ m * n) (sym (abs_mul a b)) (mul-le-mul h k)
