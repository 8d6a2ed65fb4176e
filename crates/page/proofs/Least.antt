-- The least number that passes a test, as a search over a range finds it.
use Rattle.std.proofs.Common.{◌≡◌, ℕ, zero, suc, ◌+◌, ◌<◌, ◌≤◌, Bool, true, false, cond, Some, None, Option, MatchOption, find, sym, refl, ap, ◌∙◌, ⊎_elim, arith}
use Rattle.std.proofs.lemmas.Bool.Decides.{leb_tells}
use Rattle.std.specs.List.{range_with_len}
use Rattle.units.proofs.Judged.{no_some}
use Rattle.page.specs.Shape.{least}

-- from a on, n numbers
abbrev pub IsLeast : ℕ → ℕ → (ℕ → Bool) → Option ℕ → Type 0
IsLeast a n test r = MatchOption r ((k : ℕ) → a ≤ k → k < a + n → test k ≡ false) (λ i. (a ≤ i) × (i < a + n) × (test i ≡ true) × ((k : ℕ) → a ≤ k → k < i → test k ≡ false))

found : (a n : ℕ) (test : ℕ → Bool) (r : Option ℕ) → IsLeast a n test r → r ≡ find test (range_with_len a n)
found a zero test None h = refl
found a zero test (Some i) h = let x = h.0 in let y = h.1 in absurd (omega arith)
found a (suc n) test None h =
    rw (h a (omega arith) (omega arith)) (found (a + 1) n test None (λ k l m. h k (omega arith) (omega arith)))
found a (suc n) test (Some i) h =
    let x = h.0 in
    let y = h.1 in
    ⊎_elim
    (λ l. let e : i ≡ a = (let z = l.1 in omega arith) in rw (ap test (sym e) ∙ h.2) (ap Some e))
    (λ l. let z = l.1 in rw (h.3 a (omega arith) (omega arith)) (found (a + 1) n test (Some i) (omega arith, omega arith, h.2, λ k u v. h.3 k (omega arith) v)))
    (leb_tells i a)

-- what a search over a range tells of its result
pub least_is : (n : ℕ) (test : ℕ → Bool) (r : Option ℕ) → MatchOption r ((k : ℕ) → 0 ≤ k → k < n → test k ≡ false) (λ i. (0 ≤ i) × (i < n) × (test i ≡ true) × ((k : ℕ) → 0 ≤ k → k < i → test k ≡ false)) → r ≡ least n test
least_is n test None h = found 0 n test None (λ k l m. h k l (omega arith))
least_is n test (Some i) h = let below = h.1 in found 0 n test (Some i) (h.0, omega arith, h.2, h.3)

-- and what is found lies below
pub least_below : (n : ℕ) (test : ℕ → Bool) (r : Option ℕ) (i : ℕ) → MatchOption r ((k : ℕ) → 0 ≤ k → k < n → test k ≡ false) (λ i. (0 ≤ i) × (i < n) × (test i ≡ true) × ((k : ℕ) → 0 ≤ k → k < i → test k ≡ false)) → r ≡ Some i → i < n
least_below n test None i h e = no_some i e
least_below n test (Some j) i h e = let below = h.1 in let same : j ≡ i = cc in omega arith

none_from : (a n : ℕ) (test : ℕ → Bool) → find test (range_with_len a n) ≡ None → (k : ℕ) → a ≤ k → k < a + n → test k ≡ false
none_from a zero test e k l m = absurd (omega arith)
none_from a (suc n) test e k l m = by (test a) refl e (λ f u v. none_from (a + 1) n test f k u v)
  where
    by : (b : Bool) → test a ≡ b → cond b (Some a) (find test (range_with_len (a + 1) n)) ≡ None → (find test (range_with_len (a + 1) n) ≡ None → a + 1 ≤ k → k < (a + 1) + n → test k ≡ false) → test k ≡ false
    by true h f ih = no_some a (sym f)
    by false h f ih =
        ⊎_elim
        (λ u. let z = u.1 in ap test (omega arith) ∙ h)
        (λ u. let z = u.1 in ih f (omega arith) (omega arith))
        (leb_tells k a)

-- where none is found, the test passes nowhere
pub least_none : (n : ℕ) (test : ℕ → Bool) → least n test ≡ None → (k : ℕ) → k < n → test k ≡ false
least_none n test e k l = none_from 0 n test e k (omega arith) (omega arith)
