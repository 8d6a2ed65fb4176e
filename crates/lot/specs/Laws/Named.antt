-- The first row that one of two lots names, and the row that a group names.
use Rattle.std.specs.Prelude.{◌≡◌, ℕ, ◌+◌, ◌<◌, Bool, true, false, cond, Some, None, Option, refl}
use Rattle.std.proofs.Common.{ap₂, arith}
use Rattle.lot.specs.Sum.{count, beside}
use Rattle.lot.specs.Meaning.{Meaning, Cells, Prices, Table, Quoted, cell_rows}
use Rattle.lot.specs.Parts.{front, shift, first_named, group_named}
use Rattle.lot.specs.Laws.Sums.{count_beside}
use Rattle.lot.specs.Laws.Tables.{table_front, table_shift}

pub none_named : (n r : ℕ) → ◌≡◌ {A = Option ℕ} None (Some r) → r < n
none_named n r h = let z : ◌≡◌ {A = ℕ} 0 1 = cc in absurd (omega arith)

pub named_left : (n : ℕ) (x y : Option ℕ) → first_named n x y ≡ None → x ≡ None
named_left n None y h = refl
named_left n (Some r) y h = h

pub named_right : (n : ℕ) (x y : Option ℕ) → first_named n x y ≡ None → y ≡ None
named_right n None None h = refl
named_right n None (Some s) h = cc
named_right n (Some r) None h = refl
named_right n (Some r) (Some s) h = cc

pub named_none : (n : ℕ) (x y : Option ℕ) → x ≡ None → y ≡ None → first_named n x y ≡ None
named_none n x y h k = ap₂ (first_named n) h k

pub named_below : (n l : ℕ) (x y : Option ℕ) → ((r : ℕ) → x ≡ Some r → r < n) → ((r : ℕ) → y ≡ Some r → r < l) → (r : ℕ) → first_named n x y ≡ Some r → r < n + l
named_below n l None None low high r h = let z : ◌≡◌ {A = ℕ} 0 1 = cc in absurd (omega arith)
named_below n l None (Some s) low high r h = let e : n + s ≡ r = cc in omega (arith, high s refl)
named_below n l (Some q) y low high r h = let e : q ≡ r = cc in omega (arith, low q refl)

pub named_zero : (b : Bool) (r : ℕ) → ◌≡◌ {A = Option ℕ} (cond b None (Some 0)) (Some r) → r < 1
named_zero true r h = let z : ◌≡◌ {A = ℕ} 0 1 = cc in absurd (omega arith)
named_zero false r h = let z : 0 ≡ r = cc in omega arith

-- the cells of each of two lots that are joined
module _ (m n : Meaning) (c : Cells) (ok : Table (count (m.rows + n.rows) (beside m.rows m.holds n.holds)) c) where
  pub fits_first : Table (cell_rows m) (front (cell_rows m) c)
  fits_first = table_front (cell_rows m) (count (m.rows + n.rows) (beside m.rows m.holds n.holds)) c ok

  pub fits_second : Table (cell_rows n) (shift (cell_rows m) c)
  fits_second = table_shift (cell_rows m) (cell_rows n) (count (m.rows + n.rows) (beside m.rows m.holds n.holds)) c (count_beside m.rows n.rows m.holds n.holds) ok

  pub join_refused_row : (r : ℕ) → first_named m.rows (m.refused (front (cell_rows m) c)) (n.refused (shift (cell_rows m) c)) ≡ Some r → r < m.rows + n.rows
  join_refused_row = named_below m.rows n.rows _ _ (m.refused_row _ fits_first) (n.refused_row _ fits_second)

  pub join_broken_row : first_named m.rows (m.refused (front (cell_rows m) c)) (n.refused (shift (cell_rows m) c)) ≡ None → (p : Prices) → Quoted p →
      (r : ℕ) → first_named m.rows (m.broken (front (cell_rows m) c) p) (n.broken (shift (cell_rows m) c) p) ≡ Some r → r < m.rows + n.rows
  join_broken_row adm p q = named_below m.rows n.rows _ _
      (m.broken_row _ fits_first (named_left m.rows _ (n.refused (shift (cell_rows m) c)) adm) p q)
      (n.broken_row _ fits_second (named_right m.rows (m.refused (front (cell_rows m) c)) _ adm) p q)

-- a group names a row of its members, or its own
group_named_below : (n : ℕ) (o : Option ℕ) (b : Bool) → 0 < n → ((r : ℕ) → o ≡ Some r → r < n) → (r : ℕ) → group_named o b ≡ Some r → r < n
group_named_below n None true h low r e = let z : ◌≡◌ {A = ℕ} 0 1 = cc in absurd (omega arith)
group_named_below n None false h low r e = let z : 0 ≡ r = cc in omega arith
group_named_below n (Some q) b h low r e = let z : q ≡ r = cc in omega (arith, low q refl)

pub group_named_none : (o : Option ℕ) (b : Bool) → group_named o b ≡ None → o ≡ None
group_named_none None b e = refl
group_named_none (Some r) b e = e

pub group_named_own : (o : Option ℕ) (b : Bool) → group_named o b ≡ None → b ≡ true
group_named_own None true e = refl
group_named_own None false e = let z : ◌≡◌ {A = ℕ} 0 1 = cc in absurd (omega arith)
group_named_own (Some r) b e = let z : ◌≡◌ {A = ℕ} 0 1 = cc in absurd (omega arith)

-- a lot that begins with a row has rows
pub some_rows : (n : ℕ) → 0 < 1 + n
some_rows n = omega arith

pub group_refused_row : (m : Meaning) → 0 < m.rows → (b : Bool) (c : Cells) → Table (cell_rows m) c → (r : ℕ) → group_named (m.refused c) b ≡ Some r → r < m.rows
group_refused_row m some b c ok = group_named_below m.rows (m.refused c) b some (m.refused_row c ok)
