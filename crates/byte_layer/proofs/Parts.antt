-- Fields that stand one behind the other in a text.
use Rattle.std.proofs.Common.{◌≡◌, ℕ, ◌+◌, ◌^◌, ◌<◌, ◌≤◌, List, [], ◌∷◌, ◌++◌, length, get_or, take, drop, ℤ, pos, negsuc, sym, refl, ap, ◌∙◌, mod-eq_of_lt, arith, take-append-drop}
use Rattle.std.proofs.lemmas.List.{drop-drop, drop-take, take-take}
use Rattle.byte_layer.specs.Number.{number, octets, signed, twos, signed_number, signed_octets, Holds, Octets}
use Rattle.byte_layer.proofs.Numbers.{number_written, number_below, octets_read, signed_back, twos_back, pow_256_pos}

-- a number among other bytes is read again
pub field_back : (k n : ℕ) (xs ys : List ℕ) (at : ℕ) → length xs ≡ at → n < 256 ^ k → number k (xs ++ (octets k n ++ ys)) at ≡ n
field_back k n xs ys at e l = number_written k n xs ys at e ∙ mod-eq_of_lt l

pub twos_below : (k : ℕ) (z : ℤ) → Holds k z → twos k z < 256 ^ k
unfolding twos
twos_below k (pos n) h = omega (arith, pow_256_pos k)
twos_below k (negsuc n) h = omega (arith, pow_256_pos k)

pub signed_field_back : (k : ℕ) (z : ℤ) (xs ys : List ℕ) (at : ℕ) → length xs ≡ at → Holds k z → signed_number k (xs ++ (signed_octets k z ++ ys)) at ≡ z
signed_field_back k z xs ys at e h = ap (signed k) (field_back k (twos k z) xs ys at e (twos_below k z h)) ∙ signed_back k z h

-- and the bytes of a number that was read are those that stood there
pub signed_octets_read : (k : ℕ) (t : List ℕ) (at : ℕ) → Octets t → at + k ≤ length t → signed_octets k (signed_number k t at) ≡ take k (drop at t)
signed_octets_read k t at o h = ap (octets k) (twos_back k (number k t at) (number_below k t at o)) ∙ octets_read k t at o h

pub take_both : (m n : ℕ) (t : List ℕ) → take (m + n) t ≡ take m t ++ take n (drop m t)
take_both m n t =
    sym (take-append-drop m (take (m + n) t))
    ∙ ap (λ x. x ++ drop m (take (m + n) t)) (take-take m (m + n) t (omega arith))
    ∙ ap (λ x. take m t ++ x) (drop-take m n t)

pub take_next : (m n : ℕ) (t : List ℕ) (at : ℕ) → take (m + n) (drop at t) ≡ take m (drop at t) ++ take n (drop (at + m) t)
take_next m n t at = take_both m n (drop at t) ∙ ap (λ x. take m (drop at t) ++ take n x) (drop-drop m at t)

-- a head of h bytes and four parts of k bytes each
pub take_five : (h k : ℕ) (t : List ℕ) → take (h + (k + (k + (k + k)))) t ≡ take h t ++ (take k (drop h t) ++ (take k (drop (h + k) t) ++ (take k (drop (h + k + k) t) ++ take k (drop (h + k + k + k) t))))
take_five h k t =
    take_both h (k + (k + (k + k))) t
    ∙ ap (λ x. take h t ++ x) (take_both k (k + (k + k)) (drop h t)
    ∙ ap (λ x. take k (drop h t) ++ x) (ap (take (k + (k + k))) (drop-drop k h t) ∙ take_both k (k + k) (drop (h + k) t)
    ∙ ap (λ x. take k (drop (h + k) t) ++ x) (ap (take (k + k)) (drop-drop k (h + k) t) ∙ take_both k k (drop (h + k + k) t)
    ∙ ap (λ x. take k (drop (h + k + k) t) ++ take k x) (drop-drop k (h + k + k) t))))

-- the first bytes of a text, one by one
pub head_two : (t : List ℕ) → 2 ≤ length t → get_or t 0 0 ∷ get_or t 1 0 ∷ [] ≡ take 2 t
head_two [] h = absurd (omega arith)
head_two (x ∷ []) h = absurd (omega arith)
head_two (x ∷ y ∷ t) h = refl

pub head_three : (t : List ℕ) → 3 ≤ length t → get_or t 0 0 ∷ get_or t 1 0 ∷ get_or t 2 0 ∷ [] ≡ take 3 t
head_three [] h = absurd (omega arith)
head_three (x ∷ t) h = ap (λ xs. x ∷ xs) (head_two t (omega arith))
