-- A page of the right shape, and its prices.
use Rattle.std.proofs.Common.{◌≡◌, ℕ, zero, suc, ◌+◌, ◌-◌, ◌*◌, ◌/◌, ◌%◌, ◌<◌, ◌≤◌, Bool, true, false, not, cond, ◌&&◌, eqb, ltb, eqb-true, eq-eqb, lt-ltb, ⊎_elim, ne_eqb, le-leb, min, slice_index, List, length, length-drop, Ok, Err, Result, IsOk, MatchResult, ◌↔◌, Some, None, Option, sym, refl, ap, ap₂, ◌∙◌, arith}
use Rattle.std.proofs.lemmas.Bool.{lt-leb}
use Rattle.std.proofs.lemmas.Bool.Decides.{leb_tells}
use Rattle.std.specs.Option.{option_map, option_or}
use Rattle.units.specs.Limit.{is_price}
use Rattle.units.proofs.Judged.{no_some}
use Rattle.lot.specs.Meaning.{Capped}
use Rattle.lot.specs.Page.{table_of, Priced}
use Rattle.lot.specs.Laws.Limits.{price_within}
use Rattle.lot.proofs.Pricing.{price_passes}
use Rattle.page.specs.declared.fault.PageFault.{PageFault}
use Rattle.page.specs.declared.fault.PageFault.TheVariants.{Shape, Price}
use Rattle.page.specs.Shape.{page_length, place_of, sign_of, wrong_at, least, length_fault, shape_fault, price_fault, price_part, page_fault, Shaped}
use Rattle.page.proofs.Least.{least_is, least_none}

pub mapped_none : {A B : Type 0} (f : A → B) (x : Option A) → option_map f x ≡ None → x ≡ None
mapped_none f None e = refl
mapped_none f (Some a) e = no_some (f a) (sym e)

not_false : (b : Bool) → not b ≡ false → b ≡ true
not_false true e = refl
not_false false e = sym e

pub capped_when : (q : List ℕ) → price_fault q ≡ None → Capped (table_of q)
capped_when q e a t l k =
    let off = least_none 128 (λ j. not (is_price (table_of q (j / 4) (j % 4)))) e (4 * a + t) (omega arith) in
    let here : table_of q ((4 * a + t) / 4) ((4 * a + t) % 4) ≡ table_of q a t = ap₂ (table_of q) (omega arith) (omega arith) in
    price_within (table_of q a t) (ap is_price (sym here) ∙ not_false (is_price (table_of q ((4 * a + t) / 4) ((4 * a + t) % 4))) off)

pub priced_when : (q : List ℕ) → length q ≡ 544 → price_fault q ≡ None → Priced q
priced_when q long e = record { long = long; capped = capped_when q e }

-- what a page has wrong, where its shape is right
pub prices_left : (k : ℕ) (t : List ℕ) → shape_fault k t ≡ None → page_fault k t ≡ option_map Price (price_fault (price_part k t))
prices_left k t e = ap (λ x. option_or (option_map Shape x) (option_map Price (price_fault (price_part k t)))) e

-- ---- the shape
pub first_none : {A : Type 0} (x y : Option A) → option_or x y ≡ None → (x ≡ None) × (y ≡ None)
first_none None y e = (refl, e)
first_none (Some a) y e = no_some a (sym e)

cond_none : {A : Type 0} (b : Bool) (x : A) → cond b None (Some x) ≡ None → b ≡ true
cond_none true x e = refl
cond_none false x e = no_some x (sym e)

right_of : (a b : Bool) → (a && b) ≡ false → a ≡ true → b ≡ false
right_of true b e h = e
right_of false b e h = let z : ◌≡◌ {A = ℕ} 0 1 = cc in absurd (omega arith)

pub long_when : (k : ℕ) (t : List ℕ) → shape_fault k t ≡ None → length t ≡ page_length k
long_when k t e =
    let both = first_none (option_map place_of (least (33 + k) (wrong_at k t))) (length_fault k t) e in
    eqb-true (length t) (page_length k) (cond_none (eqb (length t) (page_length k)) (min (length t) (page_length k)) both.1)

right_byte : (k : ℕ) (t : List ℕ) (i : ℕ) → wrong_at k t i ≡ false → place_of i < length t → slice_index t (place_of i) ≡ sign_of k i
right_byte k t i h l =
    let off = right_of (ltb (place_of i) (length t)) (not (eqb (slice_index t (place_of i)) (sign_of k i))) h (lt-ltb (place_of i) (length t) l) in
    eqb-true (slice_index t (place_of i)) (sign_of k i) (not_false (eqb (slice_index t (place_of i)) (sign_of k i)) off)

sign_row : (k n : ℕ) → n < k → sign_of k (n + 1) ≡ 0x51
sign_row k n l = rw (ne_eqb (n + 1) 0 (λ e. omega arith), le-leb (n + 1) k (omega arith)) refl

sign_area : (k n : ℕ) → k ≤ n → sign_of k (n + 1) ≡ 0x43
sign_area k n l = rw (ne_eqb (n + 1) 0 (λ e. omega arith), lt-leb (n + 1) k (omega arith)) refl

pub shaped_when : (k : ℕ) (t : List ℕ) → shape_fault k t ≡ None → Shaped k t
shaped_when k t e =
    let both = first_none (option_map place_of (least (33 + k) (wrong_at k t))) (length_fault k t) e in
    let long = long_when k t e in
    let none = mapped_none place_of (least (33 + k) (wrong_at k t)) both.0 in
    let at : (i : ℕ) → i < 33 + k → slice_index t (place_of i) ≡ sign_of k i = λ i l. right_byte k t i (least_none (33 + k) (wrong_at k t) none i l) (omega arith) in
    record {
      long = long;
      opens = at 0 (omega arith);
      rows = λ i l. ap (slice_index t) (omega arith) ∙ at (i + 1) (omega arith) ∙ sign_row k i l;
      areas = λ a l. ap (slice_index t) (omega arith) ∙ at ((k + a) + 1) (omega arith) ∙ sign_area k (k + a) (omega arith);
    }

-- ---- and the other way
least_from : (n : ℕ) (test : ℕ → Bool) → ((k : ℕ) → k < n → test k ≡ false) → least n test ≡ None
least_from n test h = sym (least_is n test None (λ k _ l. h k l))

and_off : (a : Bool) (b : Bool) → b ≡ false → (a && b) ≡ false
and_off true b e = e
and_off false b e = refl

byte_right : (k : ℕ) (t : List ℕ) (i : ℕ) → slice_index t (place_of i) ≡ sign_of k i → wrong_at k t i ≡ false
byte_right k t i e = and_off (ltb (place_of i) (length t)) (not (eqb (slice_index t (place_of i)) (sign_of k i))) (rw (eq-eqb (slice_index t (place_of i)) (sign_of k i) e) refl)

byte_at : (k : ℕ) (t : List ℕ) → Shaped k t → (i : ℕ) → i < 33 + k → slice_index t (place_of i) ≡ sign_of k i
byte_at k t s zero l = ap (slice_index t) (omega arith) ∙ s.opens
byte_at k t s (suc n) l =
    let e : n + 1 ≡ suc n = omega arith in
    ⊎_elim
    (λ u. let z = u.1 in ap (slice_index t) (omega arith) ∙ s.rows n (omega arith) ∙ sym (sign_row k n (omega arith)) ∙ ap (sign_of k) e)
    (λ u. let z = u.1 in ap (slice_index t) (omega arith) ∙ s.areas (n - k) (omega arith) ∙ sym (sign_area k n (omega arith)) ∙ ap (sign_of k) e)
    (leb_tells (n + 1) k)

pub shape_none : (k : ℕ) (t : List ℕ) → Shaped k t → shape_fault k t ≡ None
shape_none k t s = rw (least_from (33 + k) (wrong_at k t) (λ i l. byte_right k t i (byte_at k t s i l)), eq-eqb (length t) (page_length k) s.long) refl

pub price_none : (q : List ℕ) → Priced q → price_fault q ≡ None
price_none q p = least_from 128 (λ j. not (is_price (table_of q (j / 4) (j % 4)))) (λ j l. rw (price_passes (table_of q (j / 4) (j % 4)) (p.capped (j / 4) (j % 4) (omega arith) (omega arith))) refl)

-- a page has nothing wrong just where it has the shape, and its prices are within the cap
pub nothing_wrong : (k : ℕ) (t : List ℕ) → Shaped k t → Priced (price_part k t) → page_fault k t ≡ None
nothing_wrong k t s p = prices_left k t (shape_none k t s) ∙ ap (option_map Price) (price_none (price_part k t) p)

pub something : {A : Type 0} {P : Type 0} (x : Option A) (a : A) → x ≡ Some a → x ≡ None → P
something x a e f = no_some a (sym f ∙ e)

pub accepted : (k : ℕ) (t : List ℕ) → page_fault k t ≡ None → Shaped k t × Priced (price_part k t)
accepted k t e =
    let both = first_none (option_map Shape (shape_fault k t)) (option_map Price (price_fault (price_part k t))) e in
    let right = mapped_none Shape (shape_fault k t) both.0 in
    let long = long_when k t right in
    (shaped_when k t right, priced_when (price_part k t) (simp length-drop (omega arith)) (mapped_none Price (price_fault (price_part k t)) both.1))

-- what comes of a page that has nothing wrong, and of one that has
pub is_lawful : (k : ℕ) (t : List ℕ) → page_fault k t ≡ None → true ≡ true ↔ (Shaped k t × Priced (price_part k t))
is_lawful k t h = (λ _. accepted k t h, λ _. refl)

pub not_lawful : (k : ℕ) (t : List ℕ) (e : PageFault) → page_fault k t ≡ Some e → false ≡ true ↔ (Shaped k t × Priced (price_part k t))
not_lawful k t e h = (λ n. let z : ◌≡◌ {A = ℕ} 0 1 = cc in absurd (omega arith), λ p. something (page_fault k t) e h (nothing_wrong k t p.0 p.1))

pub lawful_of : {X : Type 0} (k : ℕ) (t : List ℕ) (r : Result X PageFault) → MatchResult r (λ _. page_fault k t ≡ None) (λ e. page_fault k t ≡ Some e) → IsOk r ↔ (Shaped k t × Priced (price_part k t))
lawful_of k t (Ok x) h = is_lawful k t h
lawful_of k t (Err e) h = not_lawful k t e h
