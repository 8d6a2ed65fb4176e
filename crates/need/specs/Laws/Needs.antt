-- A lawful need keeps the duties of a lot: its best is the greatest surplus over all its admitted cells.
use Rattle.std.specs.Prelude.{◌≡◌, ℕ, ◌*◌, ◌<◌, ◌≤◌, Bool, true, false, cond, ◌&&◌, List, ℤ, pos, ◌+ℤ◌, ◌*ℤ◌, ◌≤ℤ◌, int_le, nat_lt, unsigned_abs}
use Rattle.std.proofs.Math.Path.{refl, sym}
use Rattle.std.proofs.Common.{ap, ◌∙◌, subst, arith, lit≤}
use Rattle.std.proofs.Math.IntN.{zero-*ℤ, *ℤ-zero}
use Rattle.std.specs.Int.Signed.{≤ℤ_refl}
use Rattle.std.specs.Int.{int_max}
use Rattle.std.proofs.lemmas.Int.{ints, clamps}
use Rattle.std.proofs.lemmas.Bool.{and_parts, and_from, cond_below, cond-false, le-ltb}
use Rattle.units.specs.declared.side.Side.{Side}
use Rattle.units.specs.declared.side.Side.TheVariants.{Upward, Downward}
use Rattle.units.specs.Limit.{is_area, is_quantity, is_price, most_quantity, cap}
use Rattle.lot.specs.Sum.{sum}
use Rattle.lot.specs.Meaning.{Prices, Capped, money}
use Rattle.lot.specs.Duties.{most_money}
use Rattle.lot.specs.Trade.{trade_net, trade_worth, quarter_worth, quarter_amount, gain}
use Rattle.lot.specs.Laws.Ring.{mul_le_mul_nonneg, abs_mul_le}
use Rattle.lot.specs.Laws.Sums.{sum_same, sum_zero, sum_le, sum_within, every_true, every_from, each_four}
use Rattle.lot.specs.Laws.Tests.{le_of_test, test_of_le}
use Rattle.lot.specs.Laws.Singles.{SingleReach, SingleDuties, no_power}
use Rattle.lot.specs.Laws.Trades.{idle_net_lem, idle_worth_lem, quarter_surplus, part_earns, trade_surplus, trade_power, trade_amount, trade_worth_lem, gain_within}
use Rattle.lot.specs.Laws.Limits.{area_inside, quantity_few, price_within}
use Rattle.need.specs.declared.elasticity.Elasticity.{Elasticity}
use Rattle.need.specs.declared.elasticity.Elasticity.TheVariants.{Elastic, Inelastic}
use Rattle.need.specs.declared.fields.NeedQuarter.{NeedQuarter}
use Rattle.need.specs.declared.fields.NeedFields.{NeedFields}
use Rattle.need.specs.Fields.{need_quarter, need_quarter_fine, need_offers, need_fine}
use Rattle.need.specs.Needing.{wanted, limit_of, need_trade, needing}

-- ---- what the rules of a need's fields say
pub record FineQuarter (q : NeedQuarter) : Type 0 where
  pub few : q.maximum ≤ most_quantity
  pub priced : unsigned_abs q.price ≤ cap

fine_quarter : (e : Elasticity) (q : NeedQuarter) → need_quarter_fine e q ≡ true → FineQuarter q
unfolding need_quarter_fine
fine_quarter e q h =
    let a = and_parts (is_quantity q.maximum) _ h in
    let b = and_parts (is_price q.price) _ a.1 in
    record { few = quantity_few q.maximum a.0; priced = price_within q.price b.0 }

pub fine_quarters : (e : Elasticity) (qs : List NeedQuarter) → need_fine e qs ≡ true → (t : ℕ) → t < 4 → FineQuarter (need_quarter qs t)
unfolding need_fine
fine_quarters e qs h =
    let a = and_parts (need_quarter_fine e (need_quarter qs 0)) _ h in
    let b = and_parts (need_quarter_fine e (need_quarter qs 1)) _ a.1 in
    let c = and_parts (need_quarter_fine e (need_quarter qs 2)) _ b.1 in
    let d = and_parts (need_quarter_fine e (need_quarter qs 3)) (need_offers qs) c.1 in
    each_four (λ t. FineQuarter (need_quarter qs t)) (fine_quarter e _ a.0) (fine_quarter e _ b.0) (fine_quarter e _ c.0) (fine_quarter e _ d.0)

limit_within : (e : Elasticity) (s : Side) (z : ℤ) → unsigned_abs z ≤ cap → unsigned_abs (limit_of e s z) ≤ cap
limit_within Elastic s z h = h
limit_within Inelastic Upward z h = lit≤ tt
limit_within Inelastic Downward z h = lit≤ tt

-- ---- all where a unit gains, nothing elsewhere
pick : ℤ → ℤ → ℤ
pick m k = cond (int_le (pos 0) k) m (pos 0)

module _ (m k : ℤ) (h : pos 0 ≤ℤ m) where
  pick_above : pos 0 ≤ℤ pick m k
  unfolding pick
  pick_above = by_test (int_le (pos 0) k)
    where
      by_test : (t : Bool) → pos 0 ≤ℤ cond t m (pos 0)
      by_test true = h
      by_test false = ≤ℤ_refl (pos 0)

  pick_below : pick m k ≤ℤ m
  unfolding pick
  pick_below = by_test (int_le (pos 0) k)
    where
      by_test : (t : Bool) → cond t m (pos 0) ≤ℤ m
      by_test true = ≤ℤ_refl m
      by_test false = h

  pick_earns : pick m k *ℤ k ≡ int_max (pos 0) (m *ℤ k)
  unfolding pick
  pick_earns = by_test (int_le (pos 0) k) refl
    where
      below : int_le (pos 0) k ≡ false → k ≤ℤ pos 0
      below e = omega (arith, ints)

      by_test : (t : Bool) → int_le (pos 0) k ≡ t → cond t m (pos 0) *ℤ k ≡ int_max (pos 0) (m *ℤ k)
      by_test true e =
          let n : pos 0 ≤ℤ k = le_of_test (pos 0) k e in
          let a : (m *ℤ pos 0) ≤ℤ (m *ℤ k) = mul_le_mul_nonneg m (pos 0) k h n in
          let z : m *ℤ pos 0 ≡ pos 0 = *ℤ-zero m in
          omega (arith, ints, clamps)
      by_test false e =
          let n : k ≤ℤ pos 0 = below e in
          let a : (m *ℤ k) ≤ℤ (m *ℤ pos 0) = mul_le_mul_nonneg m k (pos 0) h n in
          let z : m *ℤ pos 0 ≡ pos 0 = *ℤ-zero m in
          let y : pos 0 *ℤ k ≡ pos 0 = zero-*ℤ k in
          omega (arith, ints, clamps)

module _ (f : NeedFields) where
  -- the cells that reach the best
  picked : Prices → ℕ → ℤ
  picked p t = cond (nat_lt t 4) (pick (wanted f t) (gain (need_trade f) p t)) (pos 0)

  picked_is : (p : Prices) (t : ℕ) → t < 4 → picked p t ≡ pick (wanted f t) (gain (need_trade f) p t)
  unfolding picked
  picked_is p t l = sym (cond_below t 4 (pick (wanted f t) (gain (need_trade f) p t)) (pos 0) l)

  picked_late : (p : Prices) (t : ℕ) → 4 ≤ t → picked p t ≡ pos 0
  unfolding picked
  picked_late p t h = cond-false (nat_lt t 4) _ _ (le-ltb t 4 h)

  wanted_up : (t : ℕ) → pos 0 ≤ℤ wanted f t
  wanted_up t = omega (arith, ints)

  admitted_from : (q : ℕ → ℤ) → ((t : ℕ) → t < 4 → pos 0 ≤ℤ q t) → ((t : ℕ) → t < 4 → q t ≤ℤ wanted f t) → (needing f).admits q ≡ true
  admitted_from q low high = every_from 4 (λ t. int_le (pos 0) (q t) && int_le (q t) (wanted f t)) (λ t l. and_from (int_le (pos 0) (q t)) (int_le (q t) (wanted f t)) (test_of_le (pos 0) (q t) (low t l)) (test_of_le (q t) (wanted f t) (high t l)))

  module _ (q : ℕ → ℤ) (ok : (needing f).admits q ≡ true) where
    low : (t : ℕ) → t < 4 → pos 0 ≤ℤ q t
    low t l = le_of_test (pos 0) (q t) (and_parts (int_le (pos 0) (q t)) (int_le (q t) (wanted f t)) (every_true 4 (λ t. int_le (pos 0) (q t) && int_le (q t) (wanted f t)) ok t l)).0

    high : (t : ℕ) → t < 4 → q t ≤ℤ wanted f t
    high t l = le_of_test (q t) (wanted f t) (and_parts (int_le (pos 0) (q t)) (int_le (q t) (wanted f t)) (every_true 4 (λ t. int_le (pos 0) (q t) && int_le (q t) (wanted f t)) ok t l)).1

  -- what a quarter is worth and comes to, and what a unit gains
  pub quarter_keeps : (q : ℕ → ℤ) (p : Prices) (t : ℕ) → quarter_worth (need_trade f) q t +ℤ quarter_amount (need_trade f) q p t ≡ q t *ℤ gain (need_trade f) p t
  quarter_keeps q p t = quarter_surplus (need_trade f).sells (q t) (p f.area t) ((need_trade f).limit t)

  module _ (placed : is_area f.area ≡ true) (fine : need_fine f.elasticity f.quarters ≡ true) where
    pub need_inside : (need_trade f).area < 32
    need_inside = area_inside f.area placed

    pub need_few : (t : ℕ) → t < 4 → unsigned_abs (wanted f t) ≤ most_quantity
    need_few t l = (fine_quarters f.elasticity f.quarters fine t l).few

    pub need_priced : (t : ℕ) → t < 4 → unsigned_abs ((need_trade f).limit t) ≤ cap
    need_priced t l = limit_within f.elasticity f.side _ (fine_quarters f.elasticity f.quarters fine t l).priced

    pub need_cells : (q : ℕ → ℤ) → (needing f).admits q ≡ true → (t : ℕ) → t < 4 → unsigned_abs (q t) ≤ most_quantity
    need_cells q ok t l = let a = low q ok t l in let b = high q ok t l in let c = need_few t l in omega (arith, ints)

    earns : (p : Prices) (q : ℕ → ℤ) → trade_worth (need_trade f) q +ℤ money (trade_net (need_trade f) q) p ≡ sum 4 (λ t. q t *ℤ gain (need_trade f) p t)
    earns p q = trade_surplus (need_trade f) need_inside q p

    need_reached : (p : Prices) → SingleReach (needing f) p
    need_reached p = record {
      at = picked p;
      late = picked_late p;
      admitted = admitted_from (picked p)
          (λ t l. subst (λ z. pos 0 ≤ℤ z) (sym (picked_is p t l)) (pick_above (wanted f t) (gain (need_trade f) p t) (wanted_up t)))
          (λ t l. subst (λ z. z ≤ℤ wanted f t) (sym (picked_is p t l)) (pick_below (wanted f t) (gain (need_trade f) p t) (wanted_up t)));
      gives = earns p (picked p) ∙ sum_same 4 (λ t. picked p t *ℤ gain (need_trade f) p t) (λ t. int_max (pos 0) (wanted f t *ℤ gain (need_trade f) p t))
          (λ t l. ap (λ (z : ℤ). z *ℤ gain (need_trade f) p t) (picked_is p t l) ∙ pick_earns (wanted f t) (gain (need_trade f) p t) (wanted_up t));
    }

    need_unharmed : (p : Prices) (q : ℕ → ℤ) → (needing f).keeps q p ≡ true → pos 0 ≤ℤ (trade_worth (need_trade f) q +ℤ money (trade_net (need_trade f) q) p)
    need_unharmed p q kept = subst (λ x. pos 0 ≤ℤ x) (sym (earns p q)) (no_loss (λ t. q t *ℤ gain (need_trade f) p t) (λ t l.
        subst (λ x. pos 0 ≤ℤ x) (quarter_keeps q p t) (le_of_test (pos 0) _ (every_true 4 (λ t. int_le (pos 0) (quarter_worth (need_trade f) q t +ℤ quarter_amount (need_trade f) q p t)) kept t l))))
      where
        no_loss : (g : ℕ → ℤ) → ((t : ℕ) → t < 4 → pos 0 ≤ℤ g t) → pos 0 ≤ℤ sum 4 g
        no_loss g h = subst (λ x. x ≤ℤ sum 4 g) (sum_zero 4 (λ _. pos 0) (λ _ _. refl)) (sum_le 4 (λ _. pos 0) g h)

    pub need_best : (p : Prices) → Capped p → (t : ℕ) → t < 4 → unsigned_abs (int_max (pos 0) (wanted f t *ℤ gain (need_trade f) p t)) ≤ most_quantity * (2 * cap)
    need_best p near t l = bounded (wanted f t *ℤ gain (need_trade f) p t) (abs_mul_le (wanted f t) (gain (need_trade f) p t) most_quantity (2 * cap) (need_few t l) (gain_within (need_trade f) need_inside need_priced p near t l))
      where
        bounded : (x : ℤ) → unsigned_abs x ≤ most_quantity * (2 * cap) → unsigned_abs (int_max (pos 0) x) ≤ most_quantity * (2 * cap)
        bounded x h = omega (arith, ints, clamps)

    pub need_duties : SingleDuties (needing f)
    need_duties = record {
      idle_admitted = admitted_from no_power (λ t _. ≤ℤ_refl (pos 0)) (λ t _. wanted_up t);
      idle_net = idle_net_lem (need_trade f);
      idle_worth = idle_worth_lem (need_trade f);
      above = λ p q ok. subst (λ x. x ≤ℤ (needing f).best p) (sym (earns p q)) (sum_le 4 (λ t. q t *ℤ gain (need_trade f) p t) (λ t. int_max (pos 0) (wanted f t *ℤ gain (need_trade f) p t))
          (λ t l. part_earns (q t) (wanted f t) (gain (need_trade f) p t) (low q ok t l) (high q ok t l)));
      reached = need_reached;
      unharmed = λ p near q ok kept. need_unharmed p q kept;
      power = λ q ok. trade_power (need_trade f) need_inside q (need_cells q ok);
      worth = λ q ok. trade_worth_lem (need_trade f) need_inside need_priced q (need_cells q ok);
      amount = λ p near q ok. trade_amount (need_trade f) need_inside q (need_cells q ok) p near;
      best = λ p near. bounded ((needing f).best p) (sum_within 4 (most_quantity * (2 * cap)) (λ t. int_max (pos 0) (wanted f t *ℤ gain (need_trade f) p t)) (need_best p near));
    }
      where
        bounded : (x : ℤ) → unsigned_abs x ≤ most_quantity * (2 * cap) * 4 → x ≤ℤ pos most_money
        bounded x h = omega (arith, ints)
