-- Tests of all of four, or of all of a range, as chains of iterators give them.
use Rattle.std.proofs.Common.{◌≡◌, ℕ, zero, suc, ◌+◌, ◌<◌, ◌≤◌, Bool, true, false, ◌&&◌, ◌||◌, List, [], ◌∷◌, length, slice_index_or, Some, sym, refl, ap, ◌∙◌, subst, ⊎_elim, arith, lit<}
use Rattle.std.proofs.lemmas.Bool.{cases_lt}
use denote.Param.Members.{Mut}
use Rattle.std.specs.Array.{list_steps, index_steps, MapsFrom, IsMapOf, IsFromFnResultFrom, IsFromFnResult}
use Rattle.std.specs.Fn.{Called}
use Rattle.std.specs.Iterator.{Yields, CallableAtEachTurn}
use Rattle.std.specs.List.{list_all, list_any, range_with_len, zip, FoldsTo}
use Rattle.lot.specs.Sum.{every}
use Rattle.lot.specs.Laws.Sums.{every_four, every_same}

-- the list of four values
abbrev pub quad : {A : Type 0} → (ℕ → A) → List A
quad f = f 0 ∷ f 1 ∷ f 2 ∷ f 3 ∷ []

pub quad_of : {A : Type 0} (xs : List A) (d : A) → length xs ≡ 4 → xs ≡ quad (λ t. slice_index_or xs t d)
quad_of [] d h = absurd (omega arith)
quad_of (a ∷ []) d h = absurd (omega arith)
quad_of (a ∷ b ∷ []) d h = absurd (omega arith)
quad_of (a ∷ b ∷ c ∷ []) d h = absurd (omega arith)
quad_of (a ∷ b ∷ c ∷ e ∷ []) d h = refl
quad_of (a ∷ b ∷ c ∷ e ∷ f ∷ fs) d h = absurd (omega arith)

and_true : (a : Bool) → (a && true) ≡ a
and_true true = refl
and_true false = refl

and_assoc : (a b c : Bool) → ((a && b) && c) ≡ (a && (b && c))
and_assoc true b c = refl
and_assoc false b c = refl

turned_and : (a b c e : Bool) → (a && (b && (c && (e && true)))) ≡ (((true && a) && b) && c) && e
turned_and true true true true = refl
turned_and true true true false = refl
turned_and true true false e = refl
turned_and true false c e = refl
turned_and false b c e = refl

-- a test of all of four
pub all_quad : {A : Type 0} (test : A → Bool) (f : ℕ → A) → list_all test (quad f) ≡ every 4 (λ t. test (f t))
all_quad test f = turned_and (test (f 0)) (test (f 1)) (test (f 2)) (test (f 3)) ∙ sym (every_four (λ t. test (f t)))

-- and of all of a range
every_first : (n : ℕ) (F : ℕ → Bool) → every (suc n) F ≡ (F 0 && every n (λ k. F (suc k)))
unfolding every
every_first zero F = sym (and_true (F 0))
every_first (suc n) F = ap (λ v. v && F (suc n)) (every_first n F) ∙ and_assoc (F 0) (every n (λ k. F (suc k))) (F (suc n))

all_range_from : (n a : ℕ) (F : ℕ → Bool) → list_all F (range_with_len a n) ≡ every n (λ k. F (a + k))
unfolding every
all_range_from zero a F = refl
all_range_from (suc n) a F =
    ap (λ v. F a && v) (all_range_from n (a + 1) F ∙ every_same n (λ k. F (a + 1 + k)) (λ k. F (a + suc k)) (λ k l. ap F (omega arith)))
    ∙ ap (λ x. F x && every n (λ k. F (a + suc k))) (omega arith)
    ∙ sym (every_first n (λ k. F (a + k)))

pub all_range : (n : ℕ) (F : ℕ → Bool) → list_all F (range_with_len 0 n) ≡ every n F
all_range n F = all_range_from n 0 F ∙ every_same n (λ k. F (0 + k)) F (λ k l. ap F (omega arith))

-- what `map` asks of a closure that each call leaves as it was: that it may be called at each element
module _ {A P : Type 0} (R : P → A → P → Type 0) (Q : P → A → Type 0) (p : P) (same : (x : A) (q : P) → R p x q → q ≡ p) where
  serves : (xs s t : List A) (q : P) (x : A) (u : List A) → ((k : ℕ) → k < length s → (d : A) → Q p (slice_index_or s k d)) → Yields list_steps s xs t → FoldsTo R p xs q → t ≡ x ∷ u → Q q x
  serves [] s t q x u each y f e =
      let i : s ≡ x ∷ u = y ∙ e in
      let l : length s ≡ suc (length u) = ap length i in
      subst (λ r. Q r x) f (subst (Q p) (ap (λ zs. slice_index_or zs 0 x) i) (each 0 (omega arith) x))
  serves (z ∷ zs) s t q x u each y f e =
      let i : s ≡ z ∷ y.0 = y.1 in
      let l : length s ≡ suc (length y.0) = ap length i in
      serves zs y.0 t q x u (λ k m d. subst (Q p) (ap (λ ws. slice_index_or ws (suc k) d) i) (each (suc k) (omega arith) d)) y.2
      (subst (λ r. FoldsTo R r zs q) (same z f.0 f.1) f.2) e

  pub serves_list : (s : List A) → ((k : ℕ) → k < length s → (d : A) → Q p (slice_index_or s k d)) → CallableAtEachTurn list_steps R Q s p
  serves_list s each = record { at = λ xs t q x u y f e. serves xs s t q x u each y f e }

pub same_at : {A : Type 0} (xs : List A) (k : ℕ) (d e : A) → k < length xs → slice_index_or xs k d ≡ slice_index_or xs k e
same_at [] k d e h = absurd (omega arith)
same_at (x ∷ xs) zero d e h = refl
same_at (x ∷ xs) (suc k) d e h = same_at xs k d e (omega arith)

-- what `map` gives of four elements, where each call leaves the closure as it was
module _ {F A B : Type 0} (g : Mut F (A × Unit {0}) B) (f : F) (xs : List A) (ys : List B) (d : A) (h : ℕ → B) where
  maps_from : (e : B) (n i : ℕ) → ((k : ℕ) → i ≤ k → k < i + n → (y : B) (q : F) → Called g f (slice_index_or xs k d, tt) y q → (q ≡ f) × (y ≡ h k)) → MapsFrom g f xs ys i n
      → (k : ℕ) → i ≤ k → k < i + n → slice_index_or ys k e ≡ h k
  maps_from e zero i step m k l u = absurd (omega arith)
  maps_from e (suc n) i step m k l u =
      let one = step i (omega arith) (omega arith) m.2 m.0 (subst (λ z. Called g f (z, tt) m.2 m.0) (sym (m.3.1 d)) m.5) in
      ⊎_elim
      (λ (b : i < k). maps_from e n (i + 1) (λ j v w. step j (omega arith) (omega arith)) (subst (λ r. MapsFrom g r xs ys (i + 1) n) one.0 m.6) k (omega arith) (omega arith))
      (λ (b : k ≤ i). let s : i ≡ k = omega arith in subst (λ j. slice_index_or ys j e ≡ h j) s (m.4.1 e ∙ one.1))
      (cases_lt i k)

  pub maps_quad : ((k : ℕ) → k < 4 → (y : B) (q : F) → Called g f (slice_index_or xs k d, tt) y q → (q ≡ f) × (y ≡ h k)) → IsMapOf g f xs ys 4 → ys ≡ quad h
  maps_quad step m =
      let at : (k : ℕ) → k < 4 → slice_index_or ys k (h 0) ≡ h k = λ k l. maps_from (h 0) 4 0 (λ j v w. step j (omega arith)) m.each k (omega arith) (omega arith) in
      let a = at 0 (lit< tt) in
      let b = at 1 (lit< tt) in
      let c = at 2 (lit< tt) in
      let e = at 3 (lit< tt) in
      quad_of ys (h 0) m.long ∙ (λ i. a i ∷ b i ∷ c i ∷ e i ∷ [])

-- what `from_fn` asks of such a closure, and what it gives
module _ {P : Type 0} (R : P → ℕ → P → Type 0) (Q : P → ℕ → Type 0) (p : P) (same : (x : ℕ) (q : P) → R p x q → q ≡ p) (n : ℕ) (each : (k : ℕ) → k < n → Q p k) where
  serves_from : (xs : List ℕ) (s t : ℕ) (q : P) (x u : ℕ) → Yields (index_steps n) s xs t → FoldsTo R p xs q → index_steps n t (Some x) u → Q q x
  serves_from [] s t q x u y f e = subst (λ r. Q r x) f (subst (Q p) (sym e.1) (each t e.0))
  serves_from (z ∷ zs) s t q x u y f e = serves_from zs y.0 t q x u y.2 (subst (λ r. FoldsTo R r zs q) (same z f.0 f.1) f.2) e

  pub serves_below : CallableAtEachTurn (index_steps n) R Q 0 p
  serves_below = record { at = λ xs t q x u y f e. serves_from xs 0 t q x u y f e }

module _ {F B : Type 0} (g : Mut F (ℕ × Unit {0}) B) (f : F) (ys : List B) (h : ℕ → B) where
  from_below : (e : B) (n i : ℕ) → ((k : ℕ) → i ≤ k → k < i + n → (y : B) (q : F) → Called g f (k, tt) y q → (q ≡ f) × (y ≡ h k)) → IsFromFnResultFrom g f ys i n
      → (k : ℕ) → i ≤ k → k < i + n → slice_index_or ys k e ≡ h k
  from_below e zero i step m k l u = absurd (omega arith)
  from_below e (suc n) i step m k l u =
      let one = step i (omega arith) (omega arith) m.1 m.0 m.3 in
      ⊎_elim
      (λ (b : i < k). from_below e n (i + 1) (λ j v w. step j (omega arith) (omega arith)) (subst (λ r. IsFromFnResultFrom g r ys (i + 1) n) one.0 m.4) k (omega arith) (omega arith))
      (λ (b : k ≤ i). let s : i ≡ k = omega arith in subst (λ j. slice_index_or ys j e ≡ h j) s (m.2.1 e ∙ one.1))
      (cases_lt i k)

  pub from_quad : ((k : ℕ) → k < 4 → (y : B) (q : F) → Called g f (k, tt) y q → (q ≡ f) × (y ≡ h k)) → IsFromFnResult g f ys 4 → ys ≡ quad h
  from_quad step m =
      let at : (k : ℕ) → k < 4 → slice_index_or ys k (h 0) ≡ h k = λ k l. from_below (h 0) 4 0 (λ j v w. step j (omega arith)) m.each k (omega arith) (omega arith) in
      let a = at 0 (lit< tt) in
      let b = at 1 (lit< tt) in
      let c = at 2 (lit< tt) in
      let e = at 3 (lit< tt) in
      quad_of ys (h 0) m.long ∙ (λ i. a i ∷ b i ∷ c i ∷ e i ∷ [])

-- ---- lists of four, by index
module _ {A : Type 0} (test : A → Bool) (xs : List A) (d : A) (four : length xs ≡ 4) where
  pub all_of : list_all test xs ≡ every 4 (λ t. test (slice_index_or xs t d))
  all_of = ap (list_all test) (quad_of xs d four) ∙ all_quad test (λ t. slice_index_or xs t d)

  pub all_of_then : (z : Bool) → (list_all test xs && z)
      ≡ (test (slice_index_or xs 0 d) && (test (slice_index_or xs 1 d) && (test (slice_index_or xs 2 d) && (test (slice_index_or xs 3 d) && z))))
  all_of_then z = ap (λ ys. list_all test ys && z) (quad_of xs d four) ∙ then (test (slice_index_or xs 0 d)) (test (slice_index_or xs 1 d)) (test (slice_index_or xs 2 d)) (test (slice_index_or xs 3 d)) z
    where
      then : (a b c e z : Bool) → ((a && (b && (c && (e && true)))) && z) ≡ (a && (b && (c && (e && z))))
      then true true true true z = refl
      then true true true false z = refl
      then true true false e z = refl
      then true false c e z = refl
      then false b c e z = refl

  pub any_of : list_any test xs ≡ (test (slice_index_or xs 0 d) || (test (slice_index_or xs 1 d) || (test (slice_index_or xs 2 d) || test (slice_index_or xs 3 d))))
  any_of = ap (list_any test) (quad_of xs d four) ∙ either (test (slice_index_or xs 0 d)) (test (slice_index_or xs 1 d)) (test (slice_index_or xs 2 d)) (test (slice_index_or xs 3 d))
    where
      either : (a b c e : Bool) → (a || (b || (c || (e || false)))) ≡ (a || (b || (c || e)))
      either true b c e = refl
      either false true c e = refl
      either false false true e = refl
      either false false false true = refl
      either false false false false = refl

pub all_of_zip : {A B : Type 0} (test : A × B → Bool) (xs : List A) (ys : List B) (d : A) (e : B) → length xs ≡ 4 → length ys ≡ 4
    → list_all test (zip xs ys) ≡ every 4 (λ t. test (slice_index_or xs t d, slice_index_or ys t e))
all_of_zip test xs ys d e h k = (λ i. list_all test (zip (quad_of xs d h i) (quad_of ys e k i))) ∙ all_quad test (λ t. (slice_index_or xs t d, slice_index_or ys t e))

pub all_in_turn : {A : Type 0} (test : A → Bool) (xs : List A) (d : A) → length xs ≡ 4
    → list_all test xs ≡ (test (slice_index_or xs 0 d) && (test (slice_index_or xs 1 d) && (test (slice_index_or xs 2 d) && test (slice_index_or xs 3 d))))
all_in_turn test xs d four = ap (list_all test) (quad_of xs d four) ∙ turns (test (slice_index_or xs 0 d)) (test (slice_index_or xs 1 d)) (test (slice_index_or xs 2 d)) (test (slice_index_or xs 3 d))
  where
    turns : (a b c e : Bool) → (a && (b && (c && (e && true)))) ≡ (a && (b && (c && e)))
    turns true true true true = refl
    turns true true true false = refl
    turns true true false e = refl
    turns true false c e = refl
    turns false b c e = refl
