-- Cells and prices as a page's bytes hold them, and what the questions to a lot ask for.
use Rattle.std.specs.Prelude.{◌≡◌, ℕ, ◌+◌, ◌*◌, ◌≤◌, cond, List, [], ◌∷◌, length, ℤ, pos, nat_lt, slice_index_or, unsigned_abs}
use Rattle.byte_layer.specs.Number.{signed_number}
use Rattle.lot.specs.Meaning.{Meaning, Admitted, Capped, cell_rows}
use Rattle.lot.specs.Duties.{most_lot_rows}

-- row i of 17 bytes: a command byte, then four signed numbers of 4 bytes, one a quarter
unfoldable pub table_of : List ℕ → ℕ → ℕ → ℤ
table_of b i t = cond (nat_lt t 4) (signed_number 4 b (17 * i + 1 + 4 * t)) (pos 0)

-- four numbers, one a quarter, as an array holds them
abbrev pub four : (ℕ → ℤ) → List ℤ
four f = f 0 ∷ f 1 ∷ f 2 ∷ f 3 ∷ []

abbrev pub at : List ℤ → ℕ → ℤ
at xs t = slice_index_or xs t (pos 0)

-- z is at most n in size
pub record Within (n : ℕ) (z : ℤ) : Type 0 where
  pub size : unsigned_abs z ≤ n

-- each of four numbers is at most n in size
pub record AllWithin (n : ℕ) (xs : List ℤ) : Type 0 where
  pub is0 : Within n (at xs 0)
  pub is1 : Within n (at xs 1)
  pub is2 : Within n (at xs 2)
  pub is3 : Within n (at xs 3)

-- the bytes are cells for the lot, which has few rows enough to be questioned
pub record Sized (m : Meaning) (b : List ℕ) : Type 0 where
  pub few : m.rows ≤ most_lot_rows
  pub long : length b ≡ 17 * cell_rows m

-- and the lot admits the cells
pub record Ready (m : Meaning) (b : List ℕ) : Type 0 where
  pub sized : Sized m b
  pub admitted : Admitted m (table_of b)

-- the bytes are prices of the 32 areas, within the cap
pub record Priced (b : List ℕ) : Type 0 where
  pub long : length b ≡ 544
  pub capped : Capped (table_of b)
