-- Questions to a lot of a single row, from what its four cells tell.
use Rattle.std.proofs.Common.{◌≡◌, ℕ, ◌^◌, ◌<◌, ◌≤◌, min, Bool, true, false, not, cond, List, length, ℤ, pos, negsuc, nat_abs, Some, None, sym, refl, ap, ◌∙◌, subst, arith, w32, w64, to_z, of_z}
use lib.Signed.{le_z, lt_z}
use Rattle.std.specs.Bool.{then_some}
use Rattle.std.specs.Int.{int_max}
use Rattle.std.proofs.lemmas.Int.{ints, clamps}
use Rattle.std.proofs.lemmas.Bool.{le-ltb, le-leb}
use Rattle.lot.specs.Meaning.{cell_rows, lot_net}
use Rattle.lot.specs.Page.{table_of, four, at, Within, AllWithin, Sized, Ready}
use Rattle.lot.specs.Single.{Single, single}
use Rattle.lot.specs.Laws.Sums.{sum_one}
use Rattle.lot.specs.Laws.Singles.{single_cells, single_admits}
use Rattle.lot.proofs.Machine.{all_within}
use Rattle.lot.proofs.Terms.{row_at}

-- the row that is named where a test does not pass
pub unless : (v : Bool) → then_some {T = ℕ} (not v) 0 ≡ cond v None (Some 0)
unless true = refl
unless false = refl

module _ (s : Single) where
  pub alone_cells : ◌≡◌ {A = ℕ} 1 (min (cell_rows (single s)) 4097)
  alone_cells = ap (λ k. min k 4097) (sym (single_cells s))

  module _ (b : List ℕ) where
    pub alone_long : Sized (single s) b → 17 ≤ length b
    alone_long z = let e = single_cells s in let l = z.long in omega arith

    pub alone_admits : Ready (single s) b → s.admits (table_of b 0) ≡ true
    alone_admits r = single_admits s (table_of b) r.admitted

    pub alone_net : (a t : ℕ) (r : ℤ) → r ≡ s.net (table_of b 0) a t → r ≡ lot_net (single s) (table_of b) a t
    alone_net a t r e = e ∙ sym (sum_one (λ _. s.net (table_of b 0) a t))

    -- cells that are small
    pub alone_within : {n : ℕ} {q : List ℤ} → q ≡ four (table_of b 0) → ((t : ℕ) → t < 4 → nat_abs (table_of b 0 t) ≤ n) → AllWithin n q
    alone_within {n} e h = subst (AllWithin n) (sym e) (all_within (table_of b 0) h)

    -- the four cells as an array
    module _ (q : List ℤ) (eq : q ≡ four (table_of b 0)) where
      pub row_is : at q ≡ table_of b 0
      row_is = ap at eq ∙ row_at b 0

      pub tells : (r : Bool) → r ≡ s.admits (at q) → then_some {T = ℕ} (not r) 0 ≡ (single s).refused (table_of b)
      tells r e = unless r ∙ ap (λ x. cond x None (Some 0)) (e ∙ ap s.admits row_is)

-- ---- what calls return
pub best_of_lem : {r d w : ℤ} → Within 7999919200008 d → r ≡ int_max (to_z w64 (of_z w64 d)) (pos 0) → d ≡ w → to_z w64 (of_z w64 r) ≡ int_max (pos 0) w
best_of_lem {r} {d} {w} h e g = let l : nat_abs d ≤ 7999919200008 = h.size in let x : int_max (to_z w64 (of_z w64 d)) (pos 0) ≡ int_max (pos 0) d = omega (arith, ints, clamps) in ap (λ y. to_z w64 (of_z w64 y)) (e ∙ x) ∙ back d l ∙ ap (int_max (pos 0)) g
  where
    back : (d : ℤ) → nat_abs d ≤ 7999919200008 → to_z w64 (of_z w64 (int_max (pos 0) d)) ≡ int_max (pos 0) d
    back d l = let k : nat_abs (int_max (pos 0) d) ≤ 7999919200008 = omega (arith, ints, clamps) in omega (arith, ints)

below_zero : (z : ℤ) → lt_z z (pos 0) ≡ not (le_z (pos 0) z)
below_zero (pos n) = le-ltb n 0 (omega arith) ∙ ap not (sym (le-leb 0 n (omega arith)))
below_zero (negsuc n) = refl

-- the row that is named where a sum is negative
pub broken_below : {x y : ℤ} → x ≡ y → then_some {T = ℕ} (lt_z x (pos 0)) 0 ≡ cond (le_z (pos 0) y) None (Some 0)
broken_below {x} {y} e = ap (λ z. then_some {T = ℕ} (lt_z z (pos 0)) 0) e ∙ ap (λ b. then_some {T = ℕ} b 0) (below_zero y) ∙ unless (le_z (pos 0) y)

-- a cell that was passed through its bits
pub cell_small : {n : ℕ} {z y : ℤ} → nat_abs y ≤ n → z ≡ y → n < 2 ^ 31 → Within n (to_z w32 (of_z w32 z))
cell_small {n} {z} {y} h e l = let k : nat_abs z ≤ n = subst (λ x. nat_abs x ≤ n) (sym e) h in record { size = omega (arith, ints) }
