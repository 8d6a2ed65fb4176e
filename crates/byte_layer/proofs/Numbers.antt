-- Reading and writing numbers undo each other, at every width.
use Rattle.std.proofs.Common.{◌≡◌, ℕ, zero, suc, ◌+◌, ◌-◌, ◌*◌, ◌/◌, ◌%◌, ◌^◌, ◌<◌, ◌≤◌, Bool, true, false, cond, ltb, List, [], ◌∷◌, ◌++◌, length, get_or, take, drop, ℤ, pos, negsuc, sym, refl, ap, ◌∙◌, subst, ⊎_elim, append_assoc, append-nil, le-add_right, mul-le-mul_right, mod-eq_of_lt, mul_assoc, pow-suc, arith, lit<, length-append, take-append-drop, drop-cons, SFits, to_z, of_z, le-ltb, lt-ltb}
use native.Mathlib.Nat.{pow-succ', mod-one, mul-add-div_right, div-eq_of_lt}
use lib.Arith.{mod-mul}
use mir.Val.{sel, bits, hbits}
use mir.Syntax.{Width}
use borrow.Rule.Slice.PartMut.{put_mid, Post-is}
use Rattle.std.proofs.lemmas.Bool.Decides.{leb_tells}
use Rattle.std.proofs.lemmas.List.{get_or-append_right, length-take-le, drop-drop}
use Rattle.byte_layer.specs.Number.{number, octets, twos, signed, signed_number, signed_octets, Holds, placed, Octets}

pub pow_256_pos : (k : ℕ) → 0 < 256 ^ k
pow_256_pos zero = lit< tt
pow_256_pos (suc k) = omega (arith, pow-suc 256 k, pow_256_pos k)

at_seam : (xs zs : List ℕ) (at : ℕ) → length xs ≡ at → get_or (xs ++ zs) at 0 ≡ get_or zs 0 0
at_seam xs zs at e = get_or-append_right xs zs at at 0 e (omega arith) ∙ ap (λ (m : ℕ). get_or zs m 0) (omega arith)

-- octets that stand at a place are the number that they were made of
pub number_written : (k n : ℕ) (xs ys : List ℕ) (at : ℕ) → length xs ≡ at → number k (xs ++ (octets k n ++ ys)) at ≡ n % 256 ^ k
unfolding number octets
number_written zero n xs ys at e = sym (mod-one n)
number_written (suc k) n xs ys at e =
    let d = n / 256 ^ k % 256 in
    let zs = octets k n ++ ys in
    let split : xs ++ (d ∷ zs) ≡ (xs ++ d ∷ []) ++ zs = sym (append_assoc xs (d ∷ []) zs) in
    let here : get_or (xs ++ (d ∷ zs)) at 0 ≡ d = at_seam xs (d ∷ zs) at e in
    let rest : number k (xs ++ (d ∷ zs)) (at + 1) ≡ n % 256 ^ k = ap (λ x. number k x (at + 1)) split ∙ number_written k n (xs ++ d ∷ []) ys (at + 1) (omega (arith, length-append xs (d ∷ []))) in
    let whole : n % 256 ^ suc k ≡ d * 256 ^ k + n % 256 ^ k = ap (λ (x : ℕ). n % x) (pow-succ' 256 k) ∙ mod-mul n {m = 256} {c = 256 ^ k} (lit< tt) (pow_256_pos k) in
    ap (λ (x : ℕ). x * 256 ^ k + number k (xs ++ (d ∷ zs)) (at + 1)) here ∙ ap (λ (x : ℕ). d * 256 ^ k + x) rest ∙ sym whole

-- what stands above k octets does not show in them
octets_low : (k c m : ℕ) → octets k (c * 256 ^ k + m) ≡ octets k m
unfolding octets
octets_low zero c m = refl
octets_low (suc k) c m =
    let up : c * 256 ^ suc k ≡ c * 256 * 256 ^ k = ap (λ (x : ℕ). c * x) (pow-succ' 256 k) ∙ sym (mul_assoc c 256 (256 ^ k)) in
    let head : (c * 256 ^ suc k + m) / 256 ^ k % 256 ≡ m / 256 ^ k % 256 = ap (λ (x : ℕ). (x + m) / 256 ^ k % 256) up ∙ ap (λ (x : ℕ). x % 256) (mul-add-div_right (pow_256_pos k) (c * 256) m) ∙ low c (m / 256 ^ k) in
    let tail : octets k (c * 256 ^ suc k + m) ≡ octets k m = ap (λ (x : ℕ). octets k (x + m)) up ∙ octets_low k (c * 256) m in
    ap (λ (x : ℕ). x ∷ octets k (c * 256 ^ suc k + m)) head ∙ ap (λ (xs : List ℕ). (m / 256 ^ k % 256) ∷ xs) tail
  where
    low : (a b : ℕ) → (a * 256 + b) % 256 ≡ b % 256
    low a b = omega arith

pub number_below : (k : ℕ) (t : List ℕ) (at : ℕ) → Octets t → number k t at < 256 ^ k
unfolding number
number_below zero t at o = lit< tt
number_below (suc k) t at o =
    let a = o at in
    let b = number_below k t (at + 1) o in
    let c : get_or t at 0 * 256 ^ k ≤ 255 * 256 ^ k = mul-le-mul_right (256 ^ k) (omega arith) in
    omega (arith, pow-suc 256 k, pow-succ' 256 k)

-- the octets of a number that was read are those that stood there
pub octets_read : (k : ℕ) (t : List ℕ) (at : ℕ) → Octets t → at + k ≤ length t → octets k (number k t at) ≡ take k (drop at t)
unfolding number octets
octets_read zero t at o h = refl
octets_read (suc k) t at o h =
    let b = get_or t at 0 in
    let m = number k t (at + 1) in
    let small : m < 256 ^ k = number_below k t (at + 1) o in
    let q : (b * 256 ^ k + m) / 256 ^ k ≡ b + m / 256 ^ k = mul-add-div_right (pow_256_pos k) b m in
    let z : m / 256 ^ k ≡ 0 = div-eq_of_lt small in
    let head : (b * 256 ^ k + m) / 256 ^ k % 256 ≡ b = ap (λ (x : ℕ). x % 256) q ∙ ap (λ (x : ℕ). (b + x) % 256) z ∙ same b (o at) in
    let tail : octets k (b * 256 ^ k + m) ≡ take k (drop (at + 1) t) = octets_low k b m ∙ octets_read k t (at + 1) o (omega arith) in
    let cut : drop at t ≡ b ∷ drop (at + 1) t = drop-cons t at 0 (omega arith) ∙ ap (λ (n : ℕ). b ∷ drop n t) (one_more at) in
    ap (λ (x : ℕ). x ∷ octets k (b * 256 ^ k + m)) head ∙ ap (λ (xs : List ℕ). b ∷ xs) tail ∙ sym (ap (take (suc k)) cut)
  where
    one_more : (n : ℕ) → suc n ≡ n + 1
    one_more n = omega arith

    same : (b : ℕ) → b < 256 → (b + 0) % 256 ≡ b
    same b h = omega arith

pub length_octets : (k n : ℕ) → length (octets k n) ≡ k
unfolding octets
length_octets zero n = refl
length_octets (suc k) n = ap suc (length_octets k n)

-- a number that was read, written again where it stood, changes nothing
pub stood : (k : ℕ) (t : List ℕ) (at n : ℕ) → Octets t → at + k ≤ length t → n ≡ number k t at → placed t at (octets k n) ≡ t
stood k t at n o h e =
    ap (λ (x : ℕ). placed t at (octets k x)) e
    ∙ ap (λ (m : ℕ). take at t ++ (octets k (number k t at) ++ drop (at + m) t)) (length_octets k (number k t at))
    ∙ ap (λ (xs : List ℕ). take at t ++ (xs ++ drop (at + k) t)) (octets_read k t at o h)
    ∙ ap (λ (xs : List ℕ). take at t ++ (take k (drop at t) ++ xs)) (sym (drop-drop k at t))
    ∙ ap (λ (xs : List ℕ). take at t ++ xs) (take-append-drop k (drop at t))
    ∙ take-append-drop at t

-- the octets that stand at a place, taken out, are the same number
pub read_there : (k : ℕ) (t bs : List ℕ) (at : ℕ) → Octets t → at + k ≤ length t → bs ≡ take k (drop at t) → number k bs 0 ≡ number k t at
read_there k t bs at o h e =
    let n = number k t at in
    let same : bs ≡ [] ++ (octets k n ++ []) = e ∙ sym (octets_read k t at o h) ∙ sym (append-nil (octets k n)) in
    ap (λ x. number k x 0) same ∙ number_written k n [] [] 0 refl ∙ mod-eq_of_lt (number_below k t at o)

-- a number that was written is read again
pub reads : (k : ℕ) (t u : List ℕ) (at n : ℕ) → at + k ≤ length t → n < 256 ^ k → u ≡ placed t at (octets k n) → number k u at ≡ n
reads k t u at n h l e = ap (λ x. number k x at) e ∙ number_written k n (take at t) (drop (at + length (octets k n)) t) at (length-take-le at t (omega arith)) ∙ mod-eq_of_lt l

pub signed_back : (k : ℕ) (z : ℤ) → Holds k z → signed k (twos k z) ≡ z
unfolding signed twos
signed_back k (pos n) h = rw (lt-ltb n (256 ^ k / 2) h)
signed_back k (negsuc n) h = rw (le-ltb (256 ^ k - suc n) (256 ^ k / 2) (omega arith)) (ap negsuc (turned (256 ^ k) n h))
  where
    turned : (p n : ℕ) → n < p / 2 → p - suc (p - suc n) ≡ n
    turned p n h = omega arith

pub twos_back : (k n : ℕ) → n < 256 ^ k → twos k (signed k n) ≡ n
unfolding signed twos
twos_back k n h = ⊎_elim (λ p. rw (le-ltb n (256 ^ k / 2) p.1) (omega arith)) (λ p. rw (lt-ltb n (256 ^ k / 2) p.1)) (leb_tells (256 ^ k / 2) n)

-- the machine's word w of k octets
pub record Word (w : Width) (k : ℕ) : Type 0 where
  pub half : 2 ^ hbits w ≡ 256 ^ k / 2
  pub whole : 2 ^ bits w ≡ 256 ^ k

pub word_signed : (w : Width) (k n : ℕ) → Word w k → to_z w n ≡ signed k n
unfolding signed
word_signed w k n e = ap (λ (h : ℕ). sel (ltb n h) (pos n) (negsuc (2 ^ bits w - suc n))) e.half ∙ ap (λ (p : ℕ). sel (ltb n (256 ^ k / 2)) (pos n) (negsuc (p - suc n))) e.whole ∙ sel_cond (ltb n (256 ^ k / 2)) (pos n) (negsuc (256 ^ k - suc n))
  where
    sel_cond : (b : Bool) (x y : ℤ) → sel b x y ≡ cond b x y
    sel_cond true x y = refl
    sel_cond false x y = refl

pub word_twos : (w : Width) (k : ℕ) (z : ℤ) → Word w k → of_z w z ≡ twos k z
unfolding twos
word_twos w k (pos n) e = refl
word_twos w k (negsuc n) e = ap (λ (p : ℕ). p - suc n) e.whole

-- a signed number that was read, by the unsigned one
pub signed_read : (w : Width) (k : ℕ) (t : List ℕ) (at n : ℕ) (z : ℤ) → Word w k → Octets t → at + k ≤ length t → n ≡ number k t at → z ≡ to_z w n
    → (z ≡ signed_number k t at) × (placed t at (signed_octets k z) ≡ t)
signed_read w k t at n z e o h p q =
    let r : z ≡ signed k n = q ∙ word_signed w k n e in
    let l : n < 256 ^ k = subst (λ (x : ℕ). x < 256 ^ k) (sym p) (number_below k t at o) in
    (r ∙ ap (signed k) p, stood k t at (twos k z) o h (ap (twos k) r ∙ twos_back k n l ∙ p))

-- a signed number that was written, by the unsigned one
pub signed_written : (w : Width) (k : ℕ) (t u : List ℕ) (at n : ℕ) (z : ℤ) → Word w k → Holds k z → n ≡ of_z w z → u ≡ placed t at (octets k n) → number k u at ≡ n
    → (u ≡ placed t at (signed_octets k z)) × (signed_number k u at ≡ z)
signed_written w k t u at n z e h p q r =
    let m : n ≡ twos k z = p ∙ word_twos w k z e in
    (q ∙ ap (λ (x : ℕ). placed t at (octets k x)) m, ap (signed k) (r ∙ m) ∙ signed_back k z h)

pub holds_word : (w : Width) (k : ℕ) (z : ℤ) → Word w k → SFits w z → Holds k z
holds_word w k (pos n) e f = subst (λ (x : ℕ). n < x) e.half f.sfits
holds_word w k (negsuc n) e f = subst (λ (x : ℕ). n < x) e.half f.sfits

-- a part that was copied over
pub put_placed : (a k : ℕ) (xs ys zs : List ℕ) → ys ≡ zs → length zs ≡ k → put_mid a (a + k - a) xs ys ≡ placed xs a zs
put_placed a k xs ys zs e l =
    (λ i. take a xs ++ (e i ++ Post-is a (a + k) xs (le-add_right a k) i)) ∙ ap (λ (n : ℕ). take a xs ++ (zs ++ drop (a + n) xs)) (sym l)
