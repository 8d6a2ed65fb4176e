-- What fields that were taken tell.
use Rattle.std.proofs.Common.{◌≡◌, ℕ, zero, suc, ◌<◌, Bool, true, false, ℤ, pos, negsuc, neg_ℤ, Some, None, Ok, Err, sym, refl, ap, arith, leb-true}
use lib.Signed.{le_z}
use Rattle.std.proofs.lemmas.Bool.{and_parts}
use Rattle.byte_layer.specs.Number.{Holds}
use Rattle.byte_layer.specs.Fault.{fault}
use Rattle.units.specs.declared.side.Side.{Side}
use Rattle.units.specs.declared.side.Side.TheVariants.{Upward, Downward}
use Rattle.units.specs.Side.{side_of, side_byte}
use Rattle.units.specs.Limit.{is_quantity, is_price, most_quantity, cap}
use Rattle.units.specs.Field.{judged}

pub no_err : {X Y : Type 0} {P : Type 0} (e : Y) (x : X) → Err e ≡ Ok x → P
no_err e x p = let z : ◌≡◌ {A = ℕ} 0 1 = cc in absurd (omega arith)

pub no_some : {X P : Type 0} (x : X) → None ≡ Some x → P
no_some x p = let z : ◌≡◌ {A = ℕ} 0 1 = cc in absurd (omega arith)

-- fields that were judged lawful keep the rules, and are those that were handed in
pub record Taken {X : Type 0} (areas others : Bool) (x y : X) : Type 0 where
  pub placed : areas ≡ true
  pub fine : others ≡ true
  pub same : x ≡ y

pub judged_ok : {X : Type 0} (row : ℕ) (areas others : Bool) (x y : X) → judged row areas others x ≡ Ok y → Taken areas others x y
judged_ok row true true x y e = record { placed = refl; fine = refl; same = let z : x ≡ y = cc in z }
judged_ok row true false x y e = no_err (fault 24 row) y e
judged_ok row false others x y e = no_err (fault 23 row) y e

pub side_back : (s : Side) → side_of (side_byte s) ≡ Some s
side_back Upward = refl
side_back Downward = refl

pub side_forth : (b : ℕ) (s : Side) → side_of b ≡ Some s → side_byte s ≡ b
side_forth zero s e = let p : Upward ≡ s = cc in sym (ap side_byte p)
side_forth (suc zero) s e = let p : Downward ≡ s = cc in sym (ap side_byte p)
side_forth (suc (suc n)) s e = no_some s e

pub quantity_small : (n : ℕ) → is_quantity n ≡ true → n < 4294967296
unfolding is_quantity
quantity_small n e = let h = leb-true n most_quantity e in omega arith

pub price_holds : (z : ℤ) → is_price z ≡ true → Holds 4 z
unfolding is_price
price_holds (pos n) e = let h = leb-true n cap (and_parts (le_z (neg_ℤ (pos cap)) (pos n)) (le_z (pos n) (pos cap)) e).1 in omega arith
price_holds (negsuc n) e = let h = leb-true n 9999998 (and_parts (le_z (neg_ℤ (pos cap)) (negsuc n)) (le_z (negsuc n) (pos cap)) e).0 in omega arith
