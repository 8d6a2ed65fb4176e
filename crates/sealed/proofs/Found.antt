-- What a check found of a text.
use Rattle.std.proofs.Common.{◌≡◌, ℕ, ◌+◌, true, List, [], ◌∷◌, length, Ok, Err, Result, sym, refl, ap, ◌∙◌, zero-add, arith}
use Rattle.byte_layer.specs.declared.fault.Told.{Told}
use Rattle.units.proofs.Judged.{no_err}
use Rattle.book.specs.declared.check.Checked.{Checked}
use Rattle.book.specs.declared.row.Row.{Row}
use Rattle.book.specs.declared.stand.Stand.{Stand}
use Rattle.book.specs.Rows.{row_read}
use Rattle.book.specs.Stands.{begin}
use Rattle.book.specs.Reading.{step_of, ends, read_rows, decoded, checked, rows_of, rows_in}
use Rattle.book.proofs.Steps.{reads_count}
use Rattle.sealed.specs.Book.{passes, found_in}

-- the rows that a check counts are those that are read
pub kept_rows : (t : List ℕ) (k : Checked) → checked t ≡ Ok k → k.rows ≡ length (rows_in t)
unfolding checked rows_in decoded
kept_rows t k e = kept (read_rows (length t) begin t) refl e
  where
    kept : (x : Result (List Row × Stand) Told) → read_rows (length t) begin t ≡ x → ends x ≡ Ok k → k.rows ≡ length (rows_of x)
    kept (Ok q) h f = let z : ◌≡◌ {A = Checked} (record { length = q.1.at + 1; rows = q.1.rows }) k = cc in sym (ap (λ (w : Checked). w.rows) z) ∙ reads_count (length t) begin t q.0 q.1 h ∙ zero-add (length q.0)
    kept (Err x) h f = no_err x k f

-- a seal alone is the book of no rows
pub seal_checks : checked (0x53 ∷ []) ≡ Ok (record { length = 1; rows = 0 })
unfolding checked decoded read_rows step_of row_read
seal_checks = refl

same : (a b c d : ℕ) → a ≡ b → c ≡ d → ◌≡◌ {A = Checked} (record { length = a; rows = c }) (record { length = b; rows = d })
same a b c d e f = cc

-- what the type of a sealed book says, as one equation
pub passed_is : (x : Result Checked Told) (k : Checked) → passes x ≡ true → found_in x ≡ (k.length, k.rows) → x ≡ Ok k
passed_is (Ok j) k p e = ap Ok (same j.length k.length j.rows k.rows (ap (λ (w : ℕ × ℕ). w.0) e) (ap (λ (w : ℕ × ℕ). w.1) e))
passed_is (Err e) k p f = let z : ◌≡◌ {A = ℕ} 0 1 = cc in absurd (omega arith)
