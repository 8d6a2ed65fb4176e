-- What the tests of areas, quantities and prices say.
use Rattle.std.specs.Prelude.{◌≡◌, ℕ, ◌<◌, ◌≤◌, true, ℤ, pos, neg_ℤ, int_le, unsigned_abs}
use Rattle.std.proofs.Common.{arith}
use Rattle.std.proofs.lemmas.Int.{ints}
use Rattle.std.proofs.lemmas.Bool.{and_parts, leb-true}
use Rattle.units.specs.Limit.{is_area, is_quantity, is_price, last_area, most_quantity, cap}

pub area_inside : (a : ℕ) → is_area a ≡ true → a < 32
unfolding is_area
area_inside a h = let l = leb-true a last_area h in omega arith

pub quantity_few : (n : ℕ) → is_quantity n ≡ true → n ≤ most_quantity
unfolding is_quantity
quantity_few n h = leb-true n most_quantity h

pub price_within : (z : ℤ) → is_price z ≡ true → unsigned_abs z ≤ cap
unfolding is_price
price_within z h =
    let both = and_parts (int_le (neg_ℤ (pos cap)) z) (int_le z (pos cap)) h in
    let low = both.0 in
    let high = both.1 in
    omega (arith, ints)
