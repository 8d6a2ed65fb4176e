-- The bytes that a machine's word is made of, the highest first, are the octets of its number.
use Rattle.std.proofs.Common.{◌≡◌, ℕ, zero, suc, ◌+◌, ◌-◌, ◌*◌, ◌/◌, ◌%◌, ◌^◌, ◌<◌, ◌≤◌, List, [], ◌∷◌, get_or, ℤ, sym, refl, ap, ◌∙◌, subst, add_assoc, mul-one, arith, SFits, to_z, of_z}
use Rattle.std.specs.Int.{byte_at, byte_worth, bytes_high_first, sum_through}
use Rattle.byte_layer.specs.Number.{number, octets, twos, signed, Octets}
use Rattle.byte_layer.proofs.Numbers.{Word, word_signed, word_twos, holds_word, number_below, signed_back, twos_back}
use Rattle.byte_layer.proofs.Parts.{twos_below}
use native.Mathlib.Nat.{div-one}
use Rattle.std.proofs.lemmas.Int.{to_z-of_z}
use mir.Syntax.{Width}

low : (i n : ℕ) → byte_at i n ≡ n / 256 ^ i % 256
low zero n = ap (λ (x : ℕ). x % 256) (sym (div-one n))
low (suc i) n = refl

pub to_be : (k n : ℕ) → bytes_high_first k n ≡ octets k n
unfolding octets
to_be zero n = refl
to_be (suc k) n = ap (λ (x : ℕ). x ∷ bytes_high_first k n) (low k n) ∙ ap (λ (xs : List ℕ). (n / 256 ^ k % 256) ∷ xs) (to_be k n)

-- an octet by itself
pub one_octet : (n : ℕ) → n < 256 → n ∷ [] ≡ octets 1 n
unfolding octets
one_octet n h = ap (λ (x : ℕ). x ∷ []) (omega arith)

worth : (i b : ℕ) → byte_worth i b ≡ b * 256 ^ i
worth zero b = sym (mul-one b)
worth (suc i) b = refl

-- the octets up to place j, and the number in those behind it
split : (k j : ℕ) (t : List ℕ) → j ≤ k → number (suc k) t 0 ≡ sum_through (λ i. byte_worth (k - i) (get_or t i 0)) j + number (k - j) t (j + 1)
unfolding number
split k zero t h =
    let whole : k ≡ k - 0 = omega arith in
    ap (λ (x : ℕ). x + number k t 1) (sym (worth k (get_or t 0 0))) ∙ ap (λ (x : ℕ). byte_worth x (get_or t 0 0) + number x t 1) whole
split k (suc j) t h =
    let m = k - suc j in
    let before = sum_through (λ i. byte_worth (k - i) (get_or t i 0)) j in
    let longer : k - j ≡ suc m = omega arith in
    let next : j + 1 ≡ suc j = omega arith in
    let first : number (k - j) t (j + 1) ≡ get_or t (suc j) 0 * 256 ^ m + number m t (suc j + 1) = ap (λ (x : ℕ). number x t (j + 1)) longer ∙ ap (λ (n : ℕ). number (suc m) t n) next in
    split k j t (omega arith)
    ∙ ap (λ (x : ℕ). before + x) (first ∙ ap (λ (x : ℕ). x + number m t (suc j + 1)) (sym (worth m (get_or t (suc j) 0))))
    ∙ sym (add_assoc before (byte_worth m (get_or t (suc j) 0)) (number m t (suc j + 1)))

pub from_be : (k : ℕ) (t : List ℕ) → sum_through (λ i. byte_worth (k - i) (get_or t i 0)) k ≡ number (suc k) t 0
unfolding number
from_be k t =
    let none : k - k ≡ 0 = omega arith in
    sym (split k k t (omega arith) ∙ ap (λ (x : ℕ). sum_through (λ i. byte_worth (k - i) (get_or t i 0)) k + number x t (k + 1)) none ∙ omega arith)

-- a signed word that is made of octets, and its octets
pub signed_from : (w : Width) (k : ℕ) (t : List ℕ) (n : ℕ) (z : ℤ) → Word w k → SFits w z → Octets t → n ≡ number k t 0 → z ≡ to_z w n → let r = to_z w (of_z w z) in (r ≡ signed k (number k t 0)) × (twos k r ≡ number k t 0)
signed_from w k t n z e f o p q =
    let r : to_z w (of_z w z) ≡ signed k (number k t 0) = to_z-of_z w z f ∙ q ∙ word_signed w k n e ∙ ap (signed k) p in
    (r, ap (twos k) r ∙ twos_back k (number k t 0) (number_below k t 0 o))

pub signed_small : (w : Width) (k : ℕ) (z : ℤ) → Word w k → SFits w z → of_z w (to_z w (of_z w z)) < 256 ^ k
signed_small w k z e f = subst (λ (n : ℕ). n < 256 ^ k) (sym (ap (of_z w) (to_z-of_z w z f) ∙ word_twos w k z e)) (twos_below k z (holds_word w k z e f))

-- the bytes are those of the value as it was handed over
pub signed_to : (w : Width) (k : ℕ) (z : ℤ) (xs : List ℕ) → Word w k → SFits w z → xs ≡ octets k (of_z w (to_z w (of_z w z))) → (xs ≡ octets k (twos k z)) × ((twos k z < 256 ^ k) × (signed k (twos k z) ≡ z))
signed_to w k z xs e f p =
    let h = holds_word w k z e f in
    (p ∙ ap (λ (y : ℤ). octets k (of_z w y)) (to_z-of_z w z f) ∙ ap (octets k) (word_twos w k z e), (twos_below k z h, signed_back k z h))
