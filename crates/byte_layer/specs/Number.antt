-- Numbers as octets, the most significant first. An octet is a number below 256.
use Rattle.std.specs.Prelude.{ℕ, zero, suc, ◌+◌, ◌-◌, ◌*◌, ◌/◌, ◌%◌, ◌^◌, ◌<◌, cond, List, [], ◌∷◌, ◌++◌, length, take, drop, ℤ, pos, negsuc, nat_lt, slice_index}

-- the unsigned number in the k octets of t that begin at the place `at`
unfoldable pub number : ℕ → List ℕ → ℕ → ℕ
number zero t at = 0
number (suc k) t at = slice_index t at * 256 ^ k + number k t (at + 1)

-- the low k octets of n
unfoldable pub octets : ℕ → ℕ → List ℕ
octets zero n = []
octets (suc k) n = (n / 256 ^ k % 256) ∷ octets k n

-- two's complement in k octets: the unsigned number that stands for z, and back
unfoldable pub twos : ℕ → ℤ → ℕ
twos k (pos n) = n
twos k (negsuc n) = 256 ^ k - suc n

unfoldable pub signed : ℕ → ℕ → ℤ
signed k n = cond (nat_lt n (256 ^ k / 2)) (pos n) (negsuc (256 ^ k - suc n))

-- a signed number in the k octets of t that begin at the place `at`, and the octets of one
abbrev pub signed_number : ℕ → List ℕ → ℕ → ℤ
signed_number k t at = signed k (number k t at)

abbrev pub signed_octets : ℕ → ℤ → List ℕ
signed_octets k z = octets k (twos k z)

-- the numbers of two's complement in k octets
abbrev pub Holds : ℕ → ℤ → Type 0
Holds k (pos n) = n < 256 ^ k / 2
Holds k (negsuc n) = n < 256 ^ k / 2

-- t with the octets bs from the place `at` on, and all else as it was
abbrev pub placed : List ℕ → ℕ → List ℕ → List ℕ
placed t at bs = take at t ++ (bs ++ drop (at + length bs) t)

-- every element is an octet
abbrev pub Octets : List ℕ → Type 0
Octets t = (i : ℕ) → slice_index t i < 256
