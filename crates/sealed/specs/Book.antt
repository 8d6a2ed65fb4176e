-- The text of a sealed book.
use Rattle.std.specs.Prelude.{ℕ, Bool, true, false, List, [], ◌∷◌, Ok, Err, Result}
use Rattle.byte_layer.specs.declared.fault.Told.{Told}
use Rattle.book.specs.declared.check.Checked.{Checked}
use Rattle.book.specs.Reading.{checked}

-- a check that a text passed, and the length and rows that it found
abbrev pub passes : Result Checked Told → Bool
passes (Ok k) = true
passes (Err e) = false

abbrev pub found_in : Result Checked Told → ℕ × ℕ
found_in (Ok k) = (k.length, k.rows)
found_in (Err e) = (0, 0)

-- a text that fails its check makes the book of no rows, a seal alone
abbrev pub sealed_or : Result Checked Told → List ℕ → List ℕ
sealed_or (Ok k) t = t
sealed_or (Err e) t = 0x53 ∷ []

abbrev pub book_text : List ℕ → List ℕ
book_text t = sealed_or (checked t) t
