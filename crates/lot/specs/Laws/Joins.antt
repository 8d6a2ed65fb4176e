-- Two lots as one keep the duties, and the best surplus at any prices is a ceiling on welfare.
use Rattle.std.specs.Prelude.{◌≡◌, ℕ, ◌+◌, ◌<◌, ◌≤◌, false, List, [], ◌∷◌, ℤ, pos, ◌+ℤ◌, ◌*ℤ◌, ◌≤ℤ◌, unsigned_abs, refl}
use Rattle.std.proofs.Common.{sym, ap, ap₂, ◌∙◌, subst, subst₂, arith}
use Rattle.std.proofs.Math.IntN.{zero-*ℤ}
use Rattle.std.proofs.lemmas.Int.{ints}
use Rattle.lot.specs.Sum.{sum, beside}
use Rattle.lot.specs.Meaning.{Meaning, Cells, Prices, Table, Admitted, Quoted, Feasible, cell_rows, no_cells, money, amount, surplus, welfare, lot_net}
use Rattle.lot.specs.Duties.{most_lot_rows, most_power, most_money, Idle, Greatest, Settled, Unharmed, Bounded, Limited, Duties}
use Rattle.lot.specs.Parts.{front, shift}
use Rattle.lot.specs.Join.{join, blank, together}
use Rattle.lot.specs.Laws.Tables.{front_none, front_beside, shift_none, shift_beside, table_none, table_beside}
use Rattle.lot.specs.Laws.Named.{named_left, named_right, named_none, fits_first, fits_second}
use Rattle.lot.specs.Laws.Sums.{sum_same, sum_zero, sum_add, sum_swap, sum_times, sum_beside, count_none, each_beside, beside_below, beside_past, count_beside}

-- ---- money
pub money_same : (x y : ℕ → ℕ → ℤ) (p : Prices) → ((a t : ℕ) → a < 32 → t < 4 → x a t ≡ y a t) → money x p ≡ money y p
unfolding money
money_same x y p h = sum_same 32 (λ a. sum 4 (λ t. x a t *ℤ p a t)) (λ a. sum 4 (λ t. y a t *ℤ p a t)) (λ a l.
    sum_same 4 (λ t. x a t *ℤ p a t) (λ t. y a t *ℤ p a t) (λ t k. ap (λ z. z *ℤ p a t) (h a t l k)))

pub money_zero : (x : ℕ → ℕ → ℤ) (p : Prices) → ((a t : ℕ) → a < 32 → t < 4 → x a t ≡ pos 0) → money x p ≡ pos 0
unfolding money
money_zero x p h = sum_zero 32 (λ a. sum 4 (λ t. x a t *ℤ p a t)) (λ a l.
    sum_zero 4 (λ t. x a t *ℤ p a t) (λ t k. ap (λ z. z *ℤ p a t) (h a t l k) ∙ zero-*ℤ (p a t)))

-- the third duty holds of every meaning
pub settled_always : (m : Meaning) → Settled m
unfolding money
settled_always m c p _ _ _ =
    let R = m.rows in
    sum_swap R 32 (λ r a. sum 4 (λ t. m.net c r a t *ℤ p a t))
    ∙ sum_same 32 (λ a. sum R (λ r. sum 4 (λ t. m.net c r a t *ℤ p a t))) (λ a. sum 4 (λ t. lot_net m c a t *ℤ p a t)) (λ a _.
    sum_swap R 4 (λ r t. m.net c r a t *ℤ p a t)
    ∙ sum_same 4 (λ t. sum R (λ r. m.net c r a t *ℤ p a t)) (λ t. lot_net m c a t *ℤ p a t) (λ t _. sum_times R (λ r. m.net c r a t) (p a t)))

-- rows that move the same power and are worth the same have the same limits
pub bounded_like : (m n : Meaning) (c d : Cells) (p : Prices) (r s : ℕ) → n.worth d s ≡ m.worth c r → n.net d s ≡ m.net c r → Bounded m c p r → Bounded n d p s
bounded_like m n c d p r s we ne b = record {
  power = λ t h. subst (λ x. sum 32 (λ a. pos (unsigned_abs (x a t))) ≤ℤ pos most_power) (sym ne) (b.power t h);
  worth = subst (λ w. unsigned_abs w ≤ most_money) (sym we) b.worth;
  amount = subst (λ x. unsigned_abs (money x p) ≤ most_money) (sym ne) b.amount;
}

-- ---- the lot that two lots are
module _ (m n : Meaning) where
  pub cell_rows_join : cell_rows (join m n) ≡ cell_rows m + cell_rows n
  cell_rows_join = count_beside m.rows n.rows m.holds n.holds

  pub net_low : (c : Cells) (r : ℕ) → r < m.rows → (join m n).net c r ≡ m.net (front (cell_rows m) c) r
  net_low c r h = beside_below m.rows (m.net (front (cell_rows m) c)) (n.net (shift (cell_rows m) c)) r h

  pub net_high : (c : Cells) (r : ℕ) → (join m n).net c (m.rows + r) ≡ n.net (shift (cell_rows m) c) r
  net_high c r = beside_past m.rows (m.net (front (cell_rows m) c)) (n.net (shift (cell_rows m) c)) r

  pub worth_low : (c : Cells) (r : ℕ) → r < m.rows → (join m n).worth c r ≡ m.worth (front (cell_rows m) c) r
  worth_low c r h = beside_below m.rows (m.worth (front (cell_rows m) c)) (n.worth (shift (cell_rows m) c)) r h

  pub worth_high : (c : Cells) (r : ℕ) → (join m n).worth c (m.rows + r) ≡ n.worth (shift (cell_rows m) c) r
  worth_high c r = beside_past m.rows (m.worth (front (cell_rows m) c)) (n.worth (shift (cell_rows m) c)) r

  pub surplus_join : (c : Cells) (p : Prices) → surplus (join m n) c p ≡ surplus m (front (cell_rows m) c) p +ℤ surplus n (shift (cell_rows m) c) p
  surplus_join c p = sum_beside m.rows n.rows _ _ _
      (λ r h. ap₂ (λ w x. w +ℤ money x p) (worth_low c r h) (net_low c r h))
      (λ r _. ap₂ (λ w x. w +ℤ money x p) (worth_high c r) (net_high c r))

  pub welfare_join : (c : Cells) → welfare (join m n) c ≡ welfare m (front (cell_rows m) c) +ℤ welfare n (shift (cell_rows m) c)
  welfare_join c = sum_beside m.rows n.rows _ _ _ (worth_low c) (λ r _. worth_high c r)

  pub net_join : (c : Cells) (a t : ℕ) → lot_net (join m n) c a t ≡ lot_net m (front (cell_rows m) c) a t +ℤ lot_net n (shift (cell_rows m) c) a t
  net_join c a t = sum_beside m.rows n.rows _ _ _
      (λ r h. ap (λ x. x a t) (net_low c r h))
      (λ r _. ap (λ x. x a t) (net_high c r))

  pub admits_low : (c : Cells) → Admitted (join m n) c → Admitted m (front (cell_rows m) c)
  admits_low c h = named_left m.rows _ (n.refused (shift (cell_rows m) c)) h

  pub admits_high : (c : Cells) → Admitted (join m n) c → Admitted n (shift (cell_rows m) c)
  admits_high c h = named_right m.rows (m.refused (front (cell_rows m) c)) _ h

  idle_join : Idle m → Idle n → Idle (join m n)
  idle_join i j = record {
    admits = named_none m.rows _ _ (ap m.refused (front_none (cell_rows m)) ∙ i.admits) (ap n.refused (shift_none (cell_rows m)) ∙ j.admits);
    nets = each_beside (λ r. (a t : ℕ) → a < 32 → t < 4 → (join m n).net no_cells r a t ≡ pos 0) m.rows n.rows
        (λ r h a t ha ht. ap (λ x. x a t) (net_low no_cells r h) ∙ ap (λ d. m.net d r a t) (front_none (cell_rows m)) ∙ i.nets r h a t ha ht)
        (λ r h a t ha ht. ap (λ x. x a t) (net_high no_cells r) ∙ ap (λ d. n.net d r a t) (shift_none (cell_rows m)) ∙ j.nets r h a t ha ht);
    worths = each_beside (λ r. (join m n).worth no_cells r ≡ pos 0) m.rows n.rows
        (λ r h. worth_low no_cells r h ∙ ap (λ d. m.worth d r) (front_none (cell_rows m)) ∙ i.worths r h)
        (λ r h. worth_high no_cells r ∙ ap (λ d. n.worth d r) (shift_none (cell_rows m)) ∙ j.worths r h);
  }

  greatest_join : Greatest m → Greatest n → Greatest (join m n)
  greatest_join b d = record {
    above = λ p quoted c fits ok.
        let e = surplus_join c p in
        let low : surplus m (front (cell_rows m) c) p ≤ℤ m.best p = b.above p quoted (front (cell_rows m) c) (fits_first m n c fits) (admits_low c ok) in
        let high : surplus n (shift (cell_rows m) c) p ≤ℤ n.best p = d.above p quoted (shift (cell_rows m) c) (fits_second m n c fits) (admits_high c ok) in
        omega (arith, ints);
    reached = λ p quoted.
        let u = b.reached p quoted in
        let v = d.reached p quoted in
        let k = cell_rows m in
        let c : Cells = beside k u.at v.at in
        let ef : front k c ≡ u.at = front_beside k u.at v.at u.fitting.past in
        let es : shift k c ≡ v.at = shift_beside k u.at v.at in
        record {
          at = c;
          fitting = subst (λ size. Table size c) (sym cell_rows_join) (table_beside k (cell_rows n) u.at v.at u.fitting.late v.fitting);
          admitted = named_none m.rows _ _ (ap m.refused ef ∙ u.admitted) (ap n.refused es ∙ v.admitted);
          gives = surplus_join c p ∙ ap₂ ◌+ℤ◌ (ap (λ x. surplus m x p) ef ∙ u.gives) (ap (λ x. surplus n x p) es ∙ v.gives);
        };
  }

  unharmed_join : Unharmed m → Unharmed n → Unharmed (join m n)
  unharmed_join u v c p fits ok quoted cap kept = each_beside (λ r. pos 0 ≤ℤ ((join m n).worth c r +ℤ amount (join m n) c p r)) m.rows n.rows
      (λ r h. subst₂ (λ w x. pos 0 ≤ℤ (w +ℤ money x p)) (sym (worth_low c r h)) (sym (net_low c r h))
      (u (front (cell_rows m) c) p (fits_first m n c fits) (admits_low c ok) quoted cap (named_left m.rows _ (n.broken (shift (cell_rows m) c) p) kept) r h))
      (λ r h. subst₂ (λ w x. pos 0 ≤ℤ (w +ℤ money x p)) (sym (worth_high c r)) (sym (net_high c r))
      (v (shift (cell_rows m) c) p (fits_second m n c fits) (admits_high c ok) quoted cap (named_right m.rows (m.broken (front (cell_rows m) c) p) _ kept) r h))

  limited_join : Limited m → Limited n → Limited (join m n)
  limited_join u v = record {
    each = λ c p fits ok quoted cap. each_beside (λ r. Bounded (join m n) c p r) m.rows n.rows
        (λ r h. bounded_like m (join m n) (front (cell_rows m) c) c p r r (worth_low c r h) (net_low c r h) (u.each (front (cell_rows m) c) p (fits_first m n c fits) (admits_low c ok) quoted cap r h))
        (λ r h. bounded_like n (join m n) (shift (cell_rows m) c) c p r (m.rows + r) (worth_high c r) (net_high c r) (v.each (shift (cell_rows m) c) p (fits_second m n c fits) (admits_high c ok) quoted cap r h));
    best = λ p quoted cap. let x = u.best p quoted cap in let y = v.best p quoted cap in omega (arith, ints);
  }

  -- the five laws of two lots as one
  module _ (few : m.rows + n.rows ≤ most_lot_rows) where
    pub join_idle : (m.rows ≤ most_lot_rows → Idle m) → (n.rows ≤ most_lot_rows → Idle n) → Idle (join m n)
    join_idle d e = idle_join (d (omega arith)) (e (omega arith))

    pub join_greatest : (m.rows ≤ most_lot_rows → Greatest m) → (n.rows ≤ most_lot_rows → Greatest n) → Greatest (join m n)
    join_greatest d e = greatest_join (d (omega arith)) (e (omega arith))

    pub join_unharmed : (m.rows ≤ most_lot_rows → Unharmed m) → (n.rows ≤ most_lot_rows → Unharmed n) → Unharmed (join m n)
    join_unharmed d e = unharmed_join (d (omega arith)) (e (omega arith))

    pub join_limited : (m.rows ≤ most_lot_rows → Limited m) → (n.rows ≤ most_lot_rows → Limited n) → Limited (join m n)
    join_limited d e = limited_join (d (omega arith)) (e (omega arith))

  pub join_duties : Duties m → Duties n → Duties (join m n)
  join_duties d e = record {
    idle = λ few. join_idle few d.idle e.idle;
    greatest = λ few. join_greatest few d.greatest e.greatest;
    settled = λ few. settled_always (join m n);
    unharmed = λ few. join_unharmed few d.unharmed e.unharmed;
    limited = λ few. join_limited few d.limited e.limited;
  }

-- the market theorem: at any prices the best surplus is a ceiling on the welfare of every feasible clearing
pub ceiling : (m : Meaning) → Duties m → m.rows ≤ most_lot_rows → (c : Cells) → Feasible m c → (p : Prices) → Quoted p → welfare m c ≤ℤ m.best p
ceiling m d few c f p quoted =
    let split : surplus m c p ≡ welfare m c +ℤ sum m.rows (λ r. amount m c p r) = sum_add m.rows (λ r. m.worth c r) (λ r. amount m c p r) in
    let none : sum m.rows (λ r. amount m c p r) ≡ pos 0 = d.settled few c p f.fitting f.admitted quoted ∙ money_zero (lot_net m c) p f.balanced in
    let top : surplus m c p ≤ℤ m.best p = (d.greatest few).above p quoted c f.fitting f.admitted in
    omega (arith, ints)

-- all-zero cells have no surplus
pub idle_surplus : (m : Meaning) → Idle m → (p : Prices) → surplus m no_cells p ≡ pos 0
idle_surplus m i p = sum_zero m.rows (λ r. m.worth no_cells r +ℤ amount m no_cells p r) (λ r h.
    let w : m.worth no_cells r ≡ pos 0 = i.worths r h in
    let x : amount m no_cells p r ≡ pos 0 = money_zero (m.net no_cells r) p (i.nets r h) in
    omega (arith, ints))

-- ---- rows without cells
pub blank_surplus : (n : ℕ) (c : Cells) (p : Prices) → surplus (blank n) c p ≡ pos 0
blank_surplus n c p = sum_zero n (λ r. pos 0 +ℤ money (λ a t. pos 0) p) (λ r h. let z = money_zero (λ a t. pos 0) p (λ a t _ _. refl) in omega (arith, ints))

pub blank_duties : (n : ℕ) → Duties (blank n)
blank_duties n = record {
  idle = λ _. record { admits = refl; nets = λ r h a t _ _. refl; worths = λ r h. refl };
  greatest = λ _. record {
    above = λ p quoted c fits ok. let e = blank_surplus n c p in omega (arith, ints);
    reached = λ p quoted. record { at = no_cells; fitting = table_none (cell_rows (blank n)); admitted = refl; gives = blank_surplus n no_cells p };
  };
  settled = λ _. settled_always (blank n);
  unharmed = λ _ c p fits ok quoted cap kept r h. let z = money_zero (λ a t. pos 0) p (λ a t _ _. refl) in omega (arith, ints);
  limited = λ _. record {
    each = λ c p fits ok quoted cap r h. record {
      power = λ t l. let z = sum_zero 32 (λ a. pos 0) (λ a _. refl) in omega (arith, ints);
      worth = omega arith;
      amount = let z = money_zero (λ a t. pos 0) p (λ a t _ _. refl) in omega (arith, ints);
    };
    best = λ p quoted cap. omega (arith, ints);
  };
}

pub blank_cells : (n : ℕ) → cell_rows (blank n) ≡ 0
blank_cells n = count_none n (λ r. false) (λ r h. refl)

-- ---- a list of lots
module _ {A : Type 0} (f : A → Meaning) (d : (x : A) → Duties (f x)) where
  pub together_duties : (xs : List A) → Duties (together f xs)
  unfolding together
  together_duties [] = blank_duties 0
  together_duties (x ∷ xs) = join_duties (f x) (together f xs) (d x) (together_duties xs)
