-- What the code of a bid computes, in the words of its definition.
use Rattle.std.proofs.Common.{◌≡◌, ℕ, ◌<◌, ◌≤◌, Bool, true, List, ℤ, ◌*ℤ◌, nat_abs, sym, refl, subst, ⊎_elim, arith}
use Rattle.std.proofs.lemmas.Bool.{cases_lt}
use Rattle.lot.specs.Sum.{every, same_z}
use Rattle.lot.specs.Page.{table_of, Ready}
use Rattle.lot.specs.Single.{single}
use Rattle.lot.specs.Laws.Limits.{area_inside}
use Rattle.lot.specs.Laws.Sums.{every_true, every_from}
use Rattle.lot.specs.Laws.Tests.{same_of_test, test_of_same}
use Rattle.lot.proofs.Machine.{same_tests}
use Rattle.lot.proofs.Alone.{alone_admits}
use Rattle.bid.specs.declared.lawful.Bid.{Bid}
use Rattle.bid.specs.Laws.Bids.{fine_quarters, bid_cells}
use Rattle.bid.specs.declared.fields.BidFields.{BidFields}
use Rattle.bid.specs.Bidding.{most, bid_trade, in_ratio, bidding}

-- the pairs of a cell with those before it decide all sixteen
module _ (f : BidFields) (q : ℕ → ℤ) where
  abbrev pub pair : ℕ → ℕ → Bool
  pair t u = same_z (q t *ℤ most f u) (q u *ℤ most f t)

  pair_self : (t : ℕ) → pair t t ≡ true
  pair_self t = test_of_same (q t *ℤ most f t) (q t *ℤ most f t) refl

  pair_turned : (t u : ℕ) → pair t u ≡ true → pair u t ≡ true
  pair_turned t u h = test_of_same (q u *ℤ most f t) (q t *ℤ most f u) (sym (same_of_test (q t *ℤ most f u) (q u *ℤ most f t) h))

  pub pairs_before : every 4 (λ t. every t (pair t)) ≡ in_ratio f q
  pairs_before = same_tests (every 4 (λ t. every t (pair t))) (in_ratio f q) all each
    where
      all : every 4 (λ t. every t (pair t)) ≡ true → in_ratio f q ≡ true
      all h =
          let low : (t u : ℕ) → t < 4 → u < t → pair t u ≡ true = λ t u l k. every_true t (pair t) (every_true 4 (λ t. every t (pair t)) h t l) u k in
          every_from 4 (λ t. every 4 (λ u. pair t u)) (λ t l. every_from 4 (pair t) (λ u k.
          ⊎_elim
          (λ (b : u < t). low t u l b)
          (λ (b : t ≤ u). ⊎_elim
          (λ (m : t < u). pair_turned u t (low u t k m))
          (λ (m : u ≤ t). let e : t ≡ u = omega arith in subst (λ n. pair t n ≡ true) e (pair_self t))
          (cases_lt t u))
          (cases_lt u t)))

      each : in_ratio f q ≡ true → every 4 (λ t. every t (pair t)) ≡ true
      each h = every_from 4 (λ t. every t (pair t)) (λ t l. every_from t (pair t) (λ u k. every_true 4 (pair t) (every_true 4 (λ t. every 4 (λ u. pair t u)) h t l) u (omega arith)))

-- ---- the questions
module _ (b : Bid) where
  pub inside : (bid_trade b.fields).area < 32
  inside = area_inside b.fields.area b.placed

  pub priced : (t : ℕ) → t < 4 → nat_abs ((bid_trade b.fields).limit t) ≤ 9999999
  priced t l = (fine_quarters b.fields.quarters b.fine t l).priced

  pub cells_small : (k : List ℕ) → Ready (single (bidding b.fields)) k → (t : ℕ) → t < 4 → nat_abs (table_of k 0 t) ≤ 99999
  cells_small k r = bid_cells b.fields b.placed b.fine (table_of k 0) (alone_admits (bidding b.fields) k r)
