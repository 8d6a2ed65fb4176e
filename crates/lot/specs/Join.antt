-- Two lots as one, and a list of lots as one: the first's rows and cells come before the second's, both must admit,
-- both price rules must be kept, nets and bests add, and the first's row is named before the second's.
use Rattle.std.specs.Prelude.{◌≡◌, ℕ, ◌+◌, false, List, [], ◌∷◌, pos, ◌+ℤ◌, None}
use Rattle.lot.specs.Sum.{beside}
use Rattle.lot.specs.Meaning.{Meaning, cell_rows}
use Rattle.lot.specs.Parts.{front, shift, first_named}
use Rattle.lot.specs.Laws.Named.{none_named, join_refused_row, join_broken_row}

abbrev pub join : Meaning → Meaning → Meaning
join m n = record {
  rows = m.rows + n.rows;
  holds = beside m.rows m.holds n.holds;
  refused = λ c. first_named m.rows (m.refused (front (cell_rows m) c)) (n.refused (shift (cell_rows m) c));
  net = λ c. beside m.rows (m.net (front (cell_rows m) c)) (n.net (shift (cell_rows m) c));
  worth = λ c. beside m.rows (m.worth (front (cell_rows m) c)) (n.worth (shift (cell_rows m) c));
  best = λ p. m.best p +ℤ n.best p;
  broken = λ c p. first_named m.rows (m.broken (front (cell_rows m) c) p) (n.broken (shift (cell_rows m) c) p);
  refused_row = λ c ok. join_refused_row m n c ok;
  broken_row = λ c ok adm p q. join_broken_row m n c ok adm p q;
}

-- the lot of r rows without cells, which moves nothing
abbrev pub blank : ℕ → Meaning
blank n = record {
  rows = n;
  holds = λ r. false;
  refused = λ c. None;
  net = λ c r a t. pos 0;
  worth = λ c r. pos 0;
  best = λ p. pos 0;
  broken = λ c p. None;
  refused_row = λ c ok. none_named n;
  broken_row = λ c ok adm p q. none_named n;
}

-- the lot of no rows
abbrev pub nothing : Meaning
nothing = blank 0

-- the lots of a list, joined in order
unfoldable pub together : {A : Type 0} → (A → Meaning) → List A → Meaning
together f [] = nothing
together f (x ∷ xs) = join (f x) (together f xs)

-- T is m, and then n
pub record Parted (T m n : Meaning) : Type 0 where
  pub is : T ≡ join m n
