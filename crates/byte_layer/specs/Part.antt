-- Parts of one kind and size, one behind the other, as the quarters of a row stand.
use Rattle.std.specs.Prelude.{ℕ, ◌+◌, List, [], ◌∷◌}

-- the four that stand in t from the place `at` on, of k bytes each
abbrev pub four_at : {P : Type 0} → (List ℕ → ℕ → P) → ℕ → List ℕ → ℕ → List P
four_at stands k t at = stands t at ∷ stands t (at + k) ∷ stands t (at + k + k) ∷ stands t (at + k + k + k) ∷ []
