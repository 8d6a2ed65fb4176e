-- Cells set beside one another, and tables.
use Rattle.std.specs.Prelude.{◌≡◌, ℕ, ◌+◌, ◌-◌, ◌<◌, ◌≤◌, ℤ, pos, nat_lt, refl}
use Rattle.std.proofs.Common.{sym, ap, ◌∙◌, ⊎_elim, arith}
use Rattle.std.proofs.Math.Path.{fun_ext}
use Rattle.std.proofs.lemmas.Bool.{cases_lt, cond_both}
use Rattle.lot.specs.Sum.{beside}
use Rattle.lot.specs.Meaning.{Cells, Table, no_cells}
use Rattle.lot.specs.Parts.{front, shift}
use Rattle.lot.specs.Laws.Sums.{beside_below, beside_above, beside_past}

pub front_none : (n : ℕ) → front n no_cells ≡ no_cells
unfolding front beside
front_none n = let row : ℕ → ℤ = λ t. pos 0 in fun_ext (λ k. cond_both (nat_lt k n) row row (λ x. x ≡ row) (λ _. refl) (λ _. refl))

pub front_beside : (n : ℕ) (c d : Cells) → ((k t : ℕ) → n ≤ k → c k t ≡ pos 0) → front n (beside n c d) ≡ c
unfolding front
front_beside n c d trim = fun_ext (λ k. ⊎_elim
    (λ l. beside_below n (beside n c d) no_cells k l ∙ beside_below n c d k l)
    (λ g. beside_above n (beside n c d) no_cells k g ∙ fun_ext (λ t. sym (trim k t g)))
    (cases_lt k n))

pub shift_none : (n : ℕ) → shift n no_cells ≡ no_cells
unfolding shift
shift_none n = refl

pub shift_beside : (n : ℕ) (c d : Cells) → shift n (beside n c d) ≡ d
unfolding shift
shift_beside n c d = fun_ext (λ k. beside_past n c d k)

-- ---- tables
pub table_none : (k : ℕ) → Table k no_cells
table_none k = record { past = λ i t h. refl; late = λ i t h. refl }

pub table_beside : (k l : ℕ) (c d : Cells) → ((i t : ℕ) → 4 ≤ t → c i t ≡ pos 0) → Table l d → Table (k + l) (beside k c d)
table_beside k l c d early ok = record {
  past = λ i t h. ap (λ x. x t) (beside_above k c d i (omega arith)) ∙ ok.past (i - k) t (omega arith);
  late = λ i t h. ⊎_elim
      (λ (b : i < k). ap (λ x. x t) (beside_below k c d i b) ∙ early i t h)
      (λ (b : k ≤ i). ap (λ x. x t) (beside_above k c d i b) ∙ ok.late (i - k) t h)
      (cases_lt i k);
}

pub table_front : (k l : ℕ) (c : Cells) → Table l c → Table k (front k c)
unfolding front
table_front k l c ok = record {
  past = λ i t h. ap (λ x. x t) (beside_above k c no_cells i h);
  late = λ i t h. ⊎_elim
      (λ (b : i < k). ap (λ x. x t) (beside_below k c no_cells i b) ∙ ok.late i t h)
      (λ (b : k ≤ i). ap (λ x. x t) (beside_above k c no_cells i b))
      (cases_lt i k);
}

pub table_shift : (k l n : ℕ) (c : Cells) → n ≡ k + l → Table n c → Table l (shift k c)
unfolding shift
table_shift k l n c e ok = record { past = λ i t h. ok.past (k + i) t (omega arith); late = λ i t h. ok.late (k + i) t h }
