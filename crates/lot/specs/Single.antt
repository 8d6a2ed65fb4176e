-- A lot of a single row, which holds cells: what it means over its four cells, by quarter. And lots of which at most
-- one may be taken.
use Rattle.std.specs.Prelude.{ℕ, Bool, true, cond, not, List, [], ◌∷◌, length, ℤ, pos, Some, None, nat_le}
use Rattle.std.specs.Int.{int_max}
use Rattle.units.specs.Limit.{is_zero}
use Rattle.lot.specs.Sum.{count, every}
use Rattle.lot.specs.Meaning.{Meaning, Cells, Prices}
use Rattle.lot.specs.Join.{join, blank, together}
use Rattle.lot.specs.Parts.{group_named}
use Rattle.lot.specs.Laws.Named.{named_zero, some_rows, group_refused_row, group_named_none}

pub record Single : Type 0 where
  pub admits : (ℕ → ℤ) → Bool
  -- by area and quarter
  pub net : (ℕ → ℤ) → ℕ → ℕ → ℤ
  pub worth : (ℕ → ℤ) → ℤ
  pub best : Prices → ℤ
  -- the price rule is kept
  pub keeps : (ℕ → ℤ) → Prices → Bool

abbrev pub single : Single → Meaning
single s = record {
  rows = 1;
  holds = λ r. true;
  refused = λ c. cond (s.admits (c 0)) None (Some 0);
  net = λ c r. s.net (c 0);
  worth = λ c r. s.worth (c 0);
  best = s.best;
  broken = λ c p. cond (s.keeps (c 0) p) None (Some 0);
  refused_row = λ c ok. named_zero (s.admits (c 0));
  broken_row = λ c ok adm p q. named_zero (s.keeps (c 0) p);
}

-- all four cells are zero
abbrev pub idle_row : (ℕ → ℤ) → Bool
idle_row q = every 4 (λ t. is_zero (q t))

-- of the first n cell rows at most one is not all zero
abbrev pub at_most_one : ℕ → Cells → Bool
at_most_one n c = nat_le (count n (λ k. not (idle_row (c k)))) 1

abbrev pub largest : List Single → Prices → ℤ
largest [] p = pos 0
largest (s ∷ ss) p = int_max (s.best p) (largest ss p)

-- a row without cells, and the members in the rows after it
abbrev pub headed : List Single → Meaning
headed ss = join (blank 1) (together single ss)

-- an exclusive group: a row without cells, and the members in the rows after it, each admitted by itself, at most one
-- not all zero. The members are tried in order, and then the group's own rule, at its row. Its price rule is each
-- member's, and its best is the largest of theirs.
abbrev pub exclusive : List Single → Meaning
exclusive ss = record {
  rows = (headed ss).rows;
  holds = (headed ss).holds;
  refused = λ c. group_named ((headed ss).refused c) (at_most_one (length ss) c);
  net = (headed ss).net;
  worth = (headed ss).worth;
  best = largest ss;
  broken = (headed ss).broken;
  refused_row = λ c ok. group_refused_row (headed ss) (some_rows (together single ss).rows) (at_most_one (length ss) c) c ok;
  broken_row = λ c ok adm. (headed ss).broken_row c ok (group_named_none ((headed ss).refused c) (at_most_one (length ss) c) adm);
}
