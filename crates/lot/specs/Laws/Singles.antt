-- What a single row owes, and that the lot of that row then keeps the five duties.
use Rattle.std.specs.Prelude.{◌≡◌, ℕ, ◌<◌, ◌≤◌, Bool, true, false, cond, ℤ, pos, ◌+ℤ◌, ◌≤ℤ◌, Some, None, Option, unsigned_abs}
use Rattle.std.proofs.Math.Path.{refl, subst}
use Rattle.std.proofs.Common.{sym, ap, ◌∙◌, arith}
use Rattle.std.proofs.lemmas.Int.{ints}
use Rattle.lot.specs.Sum.{sum, count, beside}
use Rattle.lot.specs.Meaning.{Cells, Prices, Table, Admitted, Capped, cell_rows, no_cells, money, surplus}
use Rattle.lot.specs.Duties.{most_power, most_money, Idle, Greatest, Unharmed, Limited, Duties}
use Rattle.lot.specs.Single.{Single, single}
use Rattle.lot.specs.Laws.Sums.{sum_one, beside_below}
use Rattle.lot.specs.Laws.Tables.{table_none, table_beside}
use Rattle.lot.specs.Laws.Joins.{settled_always}

-- no power in any quarter
abbrev pub no_power : ℕ → ℤ
no_power t = pos 0

-- four cells that reach the best surplus
pub record SingleReach (s : Single) (p : Prices) : Type 0 where
  pub at : ℕ → ℤ
  pub late : (t : ℕ) → 4 ≤ t → at t ≡ pos 0
  pub admitted : s.admits at ≡ true
  pub gives : s.worth at +ℤ money (s.net at) p ≡ s.best p

pub record SingleDuties (s : Single) : Type 0 where
  pub idle_admitted : s.admits no_power ≡ true
  pub idle_net : (a t : ℕ) → s.net no_power a t ≡ pos 0
  pub idle_worth : s.worth no_power ≡ pos 0
  pub above : (p : Prices) (q : ℕ → ℤ) → s.admits q ≡ true → (s.worth q +ℤ money (s.net q) p) ≤ℤ s.best p
  pub reached : (p : Prices) → SingleReach s p
  pub unharmed : (p : Prices) → Capped p → (q : ℕ → ℤ) → s.admits q ≡ true → s.keeps q p ≡ true → pos 0 ≤ℤ (s.worth q +ℤ money (s.net q) p)
  pub power : (q : ℕ → ℤ) → s.admits q ≡ true → (t : ℕ) → t < 4 → sum 32 (λ a. pos (unsigned_abs (s.net q a t))) ≤ℤ pos most_power
  pub worth : (q : ℕ → ℤ) → s.admits q ≡ true → unsigned_abs (s.worth q) ≤ most_money
  pub amount : (p : Prices) → Capped p → (q : ℕ → ℤ) → s.admits q ≡ true → unsigned_abs (money (s.net q) p) ≤ most_money
  pub best : (p : Prices) → Capped p → s.best p ≤ℤ pos most_money

pub named_when : (b : Bool) → ◌≡◌ {A = Option ℕ} (cond b None (Some 0)) None → b ≡ true
named_when true h = refl
named_when false h = let z : ◌≡◌ {A = ℕ} 0 1 = cc in absurd (omega arith)

pub named_not : (b : Bool) → b ≡ true → ◌≡◌ {A = Option ℕ} (cond b None (Some 0)) None
named_not b h = ap (λ x. cond x None (Some 0)) h

module _ (s : Single) where
  pub single_cells : cell_rows (single s) ≡ 1
  unfolding count
  single_cells = refl

  pub single_admits : (c : Cells) → Admitted (single s) c → s.admits (c 0) ≡ true
  single_admits c h = named_when (s.admits (c 0)) h

  pub single_surplus : (c : Cells) (p : Prices) → surplus (single s) c p ≡ s.worth (c 0) +ℤ money (s.net (c 0)) p
  single_surplus c p = sum_one (λ r. s.worth (c 0) +ℤ money (s.net (c 0)) p)

  -- four cells as the cells of the lot
  pub alone : (ℕ → ℤ) → Cells
  alone q = beside 1 (λ _. q) no_cells

  pub alone_first : (q : ℕ → ℤ) → alone q 0 ≡ q
  unfolding alone
  alone_first q = beside_below 1 (λ _. q) no_cells 0 (omega arith)

  pub alone_table : (q : ℕ → ℤ) → ((t : ℕ) → 4 ≤ t → q t ≡ pos 0) → Table (cell_rows (single s)) (alone q)
  unfolding alone
  alone_table q late = subst (λ k. Table k (beside 1 (λ _. q) no_cells)) (sym single_cells) (table_beside 1 0 (λ _. q) no_cells (λ i t h. late t h) (table_none 0))

  module _ (d : SingleDuties s) where
    pub single_idle : Idle (single s)
    single_idle = record {
      admits = named_not (s.admits no_power) d.idle_admitted;
      nets = λ r h a t _ _. d.idle_net a t;
      worths = λ r h. d.idle_worth;
    }

    pub single_greatest : Greatest (single s)
    single_greatest = record {
      above = λ p quoted c fits ok. subst (λ x. x ≤ℤ s.best p) (sym (single_surplus c p)) (d.above p (c 0) (single_admits c ok));
      reached = λ p quoted.
          let u = d.reached p in
          let first = alone_first u.at in
          record {
            at = alone u.at;
            fitting = alone_table u.at u.late;
            admitted = named_not (s.admits (alone u.at 0)) (ap s.admits first ∙ u.admitted);
            gives = single_surplus (alone u.at) p ∙ ap (λ q. s.worth q +ℤ money (s.net q) p) first ∙ u.gives;
          };
    }

    pub single_unharmed : Unharmed (single s)
    single_unharmed c p fits ok quoted cap kept r h = d.unharmed p cap (c 0) (single_admits c ok) (named_when (s.keeps (c 0) p) kept)

    pub single_limited : Limited (single s)
    single_limited = record {
      each = λ c p fits ok quoted cap r h. let yes = single_admits c ok in record { power = d.power (c 0) yes; worth = d.worth (c 0) yes; amount = d.amount p cap (c 0) yes };
      best = λ p quoted cap. let x = d.best p cap in omega (arith, ints);
    }

    pub single_duties : Duties (single s)
    single_duties = record {
      idle = λ _. single_idle;
      greatest = λ _. single_greatest;
      settled = λ _. settled_always (single s);
      unharmed = λ _. single_unharmed;
      limited = λ _. single_limited;
    }
