-- Finite sums of integers, counts, tests of all, and two rows set one after the other.
use Rattle.std.specs.Prelude.{ℕ, zero, suc, ◌+◌, ◌-◌, Bool, true, cond, ◌&&◌, ℤ, pos, ◌+ℤ◌, int_le, nat_lt}

-- f 0 + .. + f (n - 1)
unfoldable pub sum : ℕ → (ℕ → ℤ) → ℤ
sum zero f = pos 0
sum (suc n) f = sum n f +ℤ f n

-- how many of the numbers below n pass the test
unfoldable pub count : ℕ → (ℕ → Bool) → ℕ
count zero p = 0
count (suc n) p = count n p + cond (p n) 1 0

-- all numbers below n pass the test
unfoldable pub every : ℕ → (ℕ → Bool) → Bool
every zero f = true
every (suc n) f = every n f && f n

-- f below n, and then g
unfoldable pub beside : {A : Type 0} → ℕ → (ℕ → A) → (ℕ → A) → ℕ → A
beside n f g k = cond (nat_lt k n) (f k) (g (k - n))

-- two integers are equal
abbrev pub same_z : ℤ → ℤ → Bool
same_z a b = int_le a b && int_le b a
