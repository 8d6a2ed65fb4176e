-- What a stretch earns, as numbers of 64 bits hold it.
use Rattle.std.proofs.Common.{◌≡◌, ℕ, ◌*◌, ◌≤◌, ℤ, pos, ◌-ℤ◌, ◌*ℤ◌, neg_ℤ, nat_abs, sym, ap, ◌∙◌, subst, ap₂, arith, w32, w64, Fits, SFits, to_z, of_z}
use Rattle.std.specs.Int.{int_max}
use Rattle.std.proofs.lemmas.Int.{ints, clamps, to_z-of_z}
use Rattle.lot.specs.Laws.Ring.{abs_mul_le}
use Rattle.border.specs.declared.stretch.Stretch.{Stretch}
use Rattle.border.specs.Stretch.{stretch_best}

-- the largest product of an unsigned and a signed number of 32 bits
abbrev largest : ℕ
largest = 4294967295 * 2147483648

rent_within : (n : ℕ) (d : ℤ) → Fits w32 n → SFits w32 d → nat_abs (pos n *ℤ d) ≤ largest
rent_within n d f g = abs_mul_le (pos n) d 4294967295 2147483648 (omega (arith, ints)) (omega (arith, ints))

back : (y : ℤ) → nat_abs y ≤ largest → to_z w64 (of_z w64 y) ≡ y
back y h = omega (arith, ints)

module _ (n : ℕ) (d : ℤ) (f : Fits w32 n) (g : SFits w32 d) where
  -- a call's rent
  passed : (y : ℤ) → y ≡ pos n *ℤ to_z w32 (of_z w32 d) → y ≡ pos n *ℤ d
  passed y e = e ∙ ap (λ z. pos n *ℤ z) (to_z-of_z w32 d g)

  passed_within : (y : ℤ) → y ≡ pos n *ℤ to_z w32 (of_z w32 d) → nat_abs y ≤ largest
  passed_within y e = subst (λ z. nat_abs z ≤ largest) (sym (passed y e)) (rent_within n d f g)

  pub minus_fits : (y : ℤ) → y ≡ pos n *ℤ to_z w32 (of_z w32 d) → SFits w64 (pos 0 -ℤ to_z w64 (of_z w64 y))
  minus_fits y e = small y (passed_within y e)
    where
      small : (y : ℤ) → nat_abs y ≤ largest → SFits w64 (pos 0 -ℤ to_z w64 (of_z w64 y))
      small y h = omega (arith, ints)

greater : (x y z : ℤ) → nat_abs x ≤ largest → nat_abs y ≤ largest → z ≡ int_max (to_z w64 (of_z w64 x)) (to_z w64 (of_z w64 (pos 0 -ℤ to_z w64 (of_z w64 y)))) → to_z w64 (of_z w64 z) ≡ int_max x (neg_ℤ y)
greater x y z h k e =
    let n : nat_abs (neg_ℤ y) ≤ largest = omega (arith, ints) in
    let m : pos 0 -ℤ to_z w64 (of_z w64 y) ≡ neg_ℤ y = omega (arith, ints) in
    let f : z ≡ int_max x (neg_ℤ y) = e ∙ ap₂ int_max (back x h) (ap (λ w. to_z w64 (of_z w64 w)) m ∙ back (neg_ℤ y) n) in
    ap (λ w. to_z w64 (of_z w64 w)) f ∙ back (int_max x (neg_ℤ y)) (both x (neg_ℤ y) h n)
  where
    both : (x y : ℤ) → nat_abs x ≤ largest → nat_abs y ≤ largest → nat_abs (int_max x y) ≤ largest
    both x y h k = omega (arith, ints, clamps)

pub best_is : (s : Stretch) → Fits w32 s.forward → Fits w32 s.back → SFits w32 s.gap → (x y z : ℤ)
    → x ≡ pos s.forward *ℤ to_z w32 (of_z w32 s.gap) → y ≡ pos s.back *ℤ to_z w32 (of_z w32 s.gap)
    → z ≡ int_max (to_z w64 (of_z w64 x)) (to_z w64 (of_z w64 (pos 0 -ℤ to_z w64 (of_z w64 y)))) → to_z w64 (of_z w64 z) ≡ stretch_best s
best_is s f b g x y z ex ey ez =
    greater x y z (passed_within s.forward s.gap f g x ex) (passed_within s.back s.gap b g y ey) ez
    ∙ ap₂ (λ u v. int_max u (neg_ℤ v)) (passed s.forward s.gap f g x ex) (passed s.back s.gap b g y ey)

-- minus an unsigned number of 32 bits, through the bits of 64
pub minus_is : (n : ℕ) (z : ℤ) → Fits w32 n → z ≡ pos n → to_z w64 (of_z w64 (pos 0 -ℤ to_z w64 (of_z w64 z))) ≡ neg_ℤ (pos n)
minus_is n z h e = omega (arith, ints)
