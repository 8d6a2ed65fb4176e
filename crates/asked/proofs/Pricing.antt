-- What follows where a test of the caller passes, or does not.
use Rattle.std.proofs.Common.{◌≡◌, ℕ, ◌≤◌, Bool, true, false, List, length, nat_eq, Some, None, Ok, Err, Option, IsSome, IfSome, MatchResult, sym, refl, ap, arith}
use Rattle.std.specs.Option.{ok_or}
use Rattle.std.proofs.lemmas.Bool.{and_parts, and_from, leb-true, eqb-true, eq-eqb}
use Rattle.lot.specs.Sum.{every}
use Rattle.lot.specs.Meaning.{Meaning}
use Rattle.lot.specs.Duties.{Duties, most_lot_rows}
use Rattle.lot.specs.Page.{Priced}
use Rattle.lot.specs.declared.views.CappedPrices.{CappedPrices}
use Rattle.lot.specs.Laws.Joins.{ceiling}
use Rattle.lot.proofs.Machine.{same_tests}
use Rattle.lot.proofs.Pricing.{area_passes, priced_from, priced_passes}
use Rattle.asked.specs.declared.unasked.Unasked.{Unasked}
use Rattle.asked.specs.declared.unasked.Unasked.TheVariants.{OtherPrices}
use Rattle.asked.specs.Asked.{may_price, passes, priced as is_priced, Ceiling}

pub priced : (q : List ℕ) → may_price q ≡ true → Priced q
priced q h = let both = and_parts (nat_eq (length q) 544) (every 32 (area_passes q)) h in priced_from q (eqb-true (length q) 544 both.0) both.1

-- a test that says whether prices are within the cap
pub price_test : (b : Bool) (q : List ℕ) → (b ≡ true → Priced q) × (Priced q → b ≡ true) → b ≡ may_price q
price_test b q h = same_tests b (may_price q)
    (λ e. let p = h.0 e in and_from (nat_eq (length q) 544) (every 32 (area_passes q)) (eq-eqb (length q) 544 p.long) (priced_passes q p))
    (λ e. h.1 (priced q e))

-- the prices as those within the cap, or why they are not
pub priced_or : (q : List ℕ) (x : Option CappedPrices) → (IsSome x → Priced q) × (Priced q → IsSome x) → IfSome x (λ p. p.bytes.now ≡ q)
    → MatchResult (ok_or x OtherPrices) (λ p. (is_priced q ≡ Ok tt) × (p.bytes.now ≡ q)) (λ e. is_priced q ≡ Err e)
priced_or q (Some p) h s = (ap (λ b. passes b OtherPrices) (sym (price_test true q h)), s)
priced_or q None h s = ap (λ b. passes b OtherPrices) (sym (price_test false q h))

-- a test that passed
pub test_passed : (b : Bool) (e : Unasked) → passes b e ≡ Ok tt → b ≡ true
test_passed true e h = refl
test_passed false e h = let z : ◌≡◌ {A = ℕ} 0 1 = cc in absurd (omega arith)

pub ceils : (m : Meaning) → (m.rows ≤ most_lot_rows → Duties m) → Ceiling m
ceils m d = record { bounds = λ ask p quoted c f. let few = leb-true m.rows most_lot_rows ask in ceiling m (d few) few c f p quoted }
