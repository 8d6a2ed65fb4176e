-- A lawful bid keeps the duties of a lot: its best is the greatest surplus over all its admitted cells.
use Rattle.std.specs.Prelude.{◌≡◌, ℕ, ◌*◌, ◌<◌, ◌≤◌, true, cond, ◌&&◌, List, ℤ, pos, ◌+ℤ◌, ◌*ℤ◌, ◌≤ℤ◌, ◌<ℤ◌, int_le, nat_le, nat_lt, unsigned_abs, refl}
use Rattle.std.proofs.Math.Path.{sym}
use Rattle.std.proofs.Common.{ap, ◌∙◌, subst, ⊎_elim, arith, lit<}
use Rattle.std.proofs.Math.IntN.{zero-*ℤ, *ℤ_comm}
use Rattle.std.specs.Int.{int_max}
use Rattle.std.proofs.lemmas.Int.{ints, clamps, by_lt_z}
use Rattle.std.proofs.lemmas.Bool.{and_parts, and_from, or_cases, or_left, or_right, leb-true, ltb-true, cond_below, cond-false, le-ltb}
use Rattle.units.specs.Limit.{is_area, is_quantity, is_price, most_quantity, cap}
use Rattle.lot.specs.Sum.{sum, every, same_z}
use Rattle.lot.specs.Meaning.{Prices, money}
use Rattle.lot.specs.Duties.{most_money}
use Rattle.lot.specs.Single.{idle_row}
use Rattle.lot.specs.Trade.{trade_net, trade_worth, gain}
use Rattle.lot.specs.Laws.Ring.{mul_assoc, mul_le_mul_nonneg, le_of_mul_le_mul_pos, abs_mul_le}
use Rattle.lot.specs.Laws.Sums.{sum_same, sum_zero, sum_times, sum_within, every_true, every_from, each_four}
use Rattle.lot.specs.Laws.Tests.{le_of_test, test_of_le, same_of_test, test_of_same, idle_cells, cells_idle}
use Rattle.lot.specs.Laws.Singles.{SingleReach, SingleDuties, no_power}
use Rattle.lot.specs.Laws.Trades.{idle_net_lem, idle_worth_lem, trade_surplus, trade_power, trade_amount, trade_worth_lem, gain_within}
use Rattle.lot.specs.Laws.Limits.{area_inside, quantity_few, price_within}
use Rattle.bid.specs.declared.fields.BidQuarter.{BidQuarter}
use Rattle.bid.specs.declared.fields.BidFields.{BidFields}
use Rattle.bid.specs.Fields.{bid_quarter, quarter_fine, bid_offers, bid_fine}
use Rattle.bid.specs.Bidding.{least, most, bid_trade, in_range, in_ratio, bidding}

-- ---- what the rules of a bid's fields say
pub record FineQuarter (q : BidQuarter) : Type 0 where
  pub low : q.minimum ≤ q.maximum
  pub few : q.maximum ≤ most_quantity
  pub priced : unsigned_abs q.price ≤ cap

fine_quarter : (q : BidQuarter) → quarter_fine q ≡ true → FineQuarter q
unfolding quarter_fine
fine_quarter q e =
    let a = and_parts (nat_le q.minimum q.maximum) _ e in
    let b = and_parts (is_quantity q.maximum) _ a.1 in
    let c = and_parts (is_price q.price) _ b.1 in
    record { low = leb-true q.minimum q.maximum a.0; few = quantity_few q.maximum b.0; priced = price_within q.price c.0 }

pub fine_quarters : (qs : List BidQuarter) → bid_fine qs ≡ true → (t : ℕ) → t < 4 → FineQuarter (bid_quarter qs t)
unfolding bid_fine
fine_quarters qs e =
    let a = and_parts (quarter_fine (bid_quarter qs 0)) _ e in
    let b = and_parts (quarter_fine (bid_quarter qs 1)) _ a.1 in
    let c = and_parts (quarter_fine (bid_quarter qs 2)) _ b.1 in
    let d = and_parts (quarter_fine (bid_quarter qs 3)) (bid_offers qs) c.1 in
    each_four (λ t. FineQuarter (bid_quarter qs t)) (fine_quarter _ a.0) (fine_quarter _ b.0) (fine_quarter _ c.0) (fine_quarter _ d.0)

-- some quarter is offered
record Offered (qs : List BidQuarter) : Type 0 where
  at : ℕ
  inside : at < 4
  some : 0 < (bid_quarter qs at).maximum

offered : (qs : List BidQuarter) → bid_fine qs ≡ true → Offered qs
unfolding bid_fine bid_offers
offered qs e =
    let a = and_parts (quarter_fine (bid_quarter qs 0)) _ e in
    let b = and_parts (quarter_fine (bid_quarter qs 1)) _ a.1 in
    let c = and_parts (quarter_fine (bid_quarter qs 2)) _ b.1 in
    let d = and_parts (quarter_fine (bid_quarter qs 3)) _ c.1 in
    let is : (t : ℕ) → t < 4 → nat_lt 0 (bid_quarter qs t).maximum ≡ true → Offered qs = λ t l h. record { at = t; inside = l; some = ltb-true 0 (bid_quarter qs t).maximum h } in
    ⊎_elim (is 0 (lit< tt)) (λ r. ⊎_elim (is 1 (lit< tt)) (λ s. ⊎_elim (is 2 (lit< tt)) (is 3 (lit< tt)) (or_cases _ _ s)) (or_cases _ _ r)) (or_cases _ _ d.1)

-- ---- shares
-- m times a sum over q is k times the sum over h, where q and h are in the proportion of k to m
in_proportion : (m k : ℤ) (q h f : ℕ → ℤ) → ((t : ℕ) → t < 4 → q t *ℤ m ≡ k *ℤ h t) → m *ℤ sum 4 (λ t. q t *ℤ f t) ≡ k *ℤ sum 4 (λ t. h t *ℤ f t)
in_proportion m k q h f e =
    times_sum m (λ t. q t *ℤ f t)
    ∙ sum_same 4 (λ t. m *ℤ (q t *ℤ f t)) (λ t. k *ℤ (h t *ℤ f t))
    (λ t l. sym (mul_assoc m (q t) (f t)) ∙ ap (λ (x : ℤ). x *ℤ f t) (*ℤ_comm m (q t) ∙ e t l) ∙ mul_assoc k (h t) (f t))
    ∙ sym (times_sum k (λ t. h t *ℤ f t))
  where
    times_sum : (k : ℤ) (f : ℕ → ℤ) → k *ℤ sum 4 f ≡ sum 4 (λ t. k *ℤ f t)
    times_sum k f = *ℤ_comm k (sum 4 f) ∙ sym (sum_times 4 f k) ∙ sum_same 4 (λ t. f t *ℤ k) (λ t. k *ℤ f t) (λ t _. *ℤ_comm (f t) k)

-- a part k of m of the whole r is at most r, or 0
part_le : (m k s r : ℤ) → pos 0 <ℤ m → pos 0 ≤ℤ k → k ≤ℤ m → m *ℤ s ≡ k *ℤ r → s ≤ℤ int_max (pos 0) r
part_le m k s r hm hk hl e =
    by_lt_z r (pos 0)
    (λ neg. let a : (k *ℤ r) ≤ℤ (k *ℤ pos 0) = mul_le_mul_nonneg k r (pos 0) hk (omega (arith, ints)) in
    let b : (m *ℤ s) ≤ℤ (m *ℤ pos 0) = omega (arith, ints) in
    let z = le_of_mul_le_mul_pos m s (pos 0) hm b in
    omega (arith, ints, clamps))
    (λ nn. let a : (r *ℤ k) ≤ℤ (r *ℤ m) = mul_le_mul_nonneg r k m nn hl in
    let b : (m *ℤ s) ≤ℤ (m *ℤ r) = omega (arith, ints) in
    let z = le_of_mul_le_mul_pos m s r hm b in
    omega (arith, ints, clamps))

-- ---- cells that are admitted
pub record Shared (f : BidFields) (q : ℕ → ℤ) : Type 0 where
  pub above : (t : ℕ) → t < 4 → least f t ≤ℤ q t
  pub below : (t : ℕ) → t < 4 → q t ≤ℤ most f t
  pub ratio : (t u : ℕ) → t < 4 → u < 4 → q t *ℤ most f u ≡ q u *ℤ most f t

module _ (f : BidFields) where
  shared_of : (q : ℕ → ℤ) → (in_range f q && in_ratio f q) ≡ true → Shared f q
  shared_of q h =
      let both = and_parts (in_range f q) (in_ratio f q) h in
      let range : (t : ℕ) → t < 4 → (int_le (least f t) (q t) && int_le (q t) (most f t)) ≡ true = every_true 4 (λ t. int_le (least f t) (q t) && int_le (q t) (most f t)) both.0 in
      record {
        above = λ t l. le_of_test (least f t) (q t) (and_parts (int_le (least f t) (q t)) (int_le (q t) (most f t)) (range t l)).0;
        below = λ t l. le_of_test (q t) (most f t) (and_parts (int_le (least f t) (q t)) (int_le (q t) (most f t)) (range t l)).1;
        ratio = λ t u l k. same_of_test (q t *ℤ most f u) (q u *ℤ most f t)
            (every_true 4 (λ u. same_z (q t *ℤ most f u) (q u *ℤ most f t)) (every_true 4 (λ t. every 4 (λ u. same_z (q t *ℤ most f u) (q u *ℤ most f t))) both.1 t l) u k);
      }

  of_shared : (q : ℕ → ℤ) → Shared f q → (in_range f q && in_ratio f q) ≡ true
  of_shared q s = and_from (in_range f q) (in_ratio f q)
      (every_from 4 (λ t. int_le (least f t) (q t) && int_le (q t) (most f t)) (λ t l. and_from (int_le (least f t) (q t)) (int_le (q t) (most f t)) (test_of_le (least f t) (q t) (s.above t l)) (test_of_le (q t) (most f t) (s.below t l))))
      (every_from 4 (λ t. every 4 (λ u. same_z (q t *ℤ most f u) (q u *ℤ most f t))) (λ t l. every_from 4 (λ u. same_z (q t *ℤ most f u) (q u *ℤ most f t)) (λ u k. test_of_same (q t *ℤ most f u) (q u *ℤ most f t) (s.ratio t u l k))))

  -- the maxima as cells
  full_cells : ℕ → ℤ
  full_cells t = cond (nat_lt t 4) (most f t) (pos 0)

  full_is : (t : ℕ) → t < 4 → full_cells t ≡ most f t
  unfolding full_cells
  full_is t l = sym (cond_below t 4 (most f t) (pos 0) l)

  full_late : (t : ℕ) → 4 ≤ t → full_cells t ≡ pos 0
  unfolding full_cells
  full_late t h = cond-false (nat_lt t 4) _ _ (le-ltb t 4 h)

  module _ (placed : is_area f.area ≡ true) (fine : bid_fine f.quarters ≡ true) where
    inside : f.area < 32
    inside = area_inside f.area placed

    quarters : (t : ℕ) → t < 4 → FineQuarter (bid_quarter f.quarters t)
    quarters = fine_quarters f.quarters fine

    pub bid_cells : (q : ℕ → ℤ) → (bidding f).admits q ≡ true → (t : ℕ) → t < 4 → unsigned_abs (q t) ≤ most_quantity
    bid_cells q ok t l = ⊎_elim
        (λ idle. let z : q t ≡ pos 0 = idle_cells q idle t l in omega (arith, ints))
        (λ part. let s = shared_of q part in let a = s.above t l in let b = s.below t l in let c = (quarters t l).few in omega (arith, ints))
        (or_cases (idle_row q) (in_range f q && in_ratio f q) ok)

    earns : (p : Prices) (q : ℕ → ℤ) → trade_worth (bid_trade f) q +ℤ money (trade_net (bid_trade f) q) p ≡ sum 4 (λ t. q t *ℤ gain (bid_trade f) p t)
    earns p q = trade_surplus (bid_trade f) inside q p

    bid_above : (p : Prices) (q : ℕ → ℤ) → (bidding f).admits q ≡ true → (trade_worth (bid_trade f) q +ℤ money (trade_net (bid_trade f) q) p) ≤ℤ (bidding f).best p
    bid_above p q ok = subst (λ x. x ≤ℤ (bidding f).best p) (sym (earns p q)) (⊎_elim
        (λ idle. let z = sum_zero 4 (λ t. q t *ℤ gain (bid_trade f) p t) (λ t l. ap (λ (x : ℤ). x *ℤ gain (bid_trade f) p t) (idle_cells q idle t l) ∙ zero-*ℤ (gain (bid_trade f) p t)) in none (sum 4 (λ t. q t *ℤ gain (bid_trade f) p t)) (sum 4 (λ t. most f t *ℤ gain (bid_trade f) p t)) z)
        (λ part. let s = shared_of q part in
        let o = offered f.quarters fine in
        let u = o.at in
        let l : u < 4 = o.inside in
        let some : 0 < (bid_quarter f.quarters u).maximum = o.some in
        let low : least f u ≤ℤ q u = s.above u l in
        part_le (most f u) (q u) (sum 4 (λ t. q t *ℤ gain (bid_trade f) p t)) (sum 4 (λ t. most f t *ℤ gain (bid_trade f) p t)) (omega (arith, ints)) (omega (arith, ints)) (s.below u l)
        (in_proportion (most f u) (q u) q (most f) (gain (bid_trade f) p) (λ t k. s.ratio t u k l)))
        (or_cases (idle_row q) (in_range f q && in_ratio f q) ok))
      where
        none : (x y : ℤ) → x ≡ pos 0 → x ≤ℤ int_max (pos 0) y
        none x y e = omega (arith, ints, clamps)

    full_admitted : (bidding f).admits full_cells ≡ true
    full_admitted = or_right (idle_row full_cells) (in_range f full_cells && in_ratio f full_cells) (of_shared full_cells (record {
      above = λ t l. let e = full_is t l in let h = (quarters t l).low in omega (arith, ints);
      below = λ t l. let e = full_is t l in omega (arith, ints);
      ratio = λ t u l k. ap (λ (x : ℤ). x *ℤ most f u) (full_is t l) ∙ *ℤ_comm (most f t) (most f u) ∙ sym (ap (λ (x : ℤ). x *ℤ most f t) (full_is u k));
    }))

    -- nothing at all where the maxima lose, else the maxima
    bid_reached : (p : Prices) → SingleReach (bidding f) p
    bid_reached p =
        let whole : ℤ = sum 4 (λ t. most f t *ℤ gain (bid_trade f) p t) in
        by_lt_z whole (pos 0)
        (λ less. record {
          at = no_power;
          late = λ t _. refl;
          admitted = or_left (idle_row no_power) _ (cells_idle no_power (λ t _. refl));
          gives = earns p no_power ∙ sum_zero 4 (λ t. pos 0 *ℤ gain (bid_trade f) p t) (λ t _. zero-*ℤ (gain (bid_trade f) p t)) ∙ loses whole less;
        })
        (λ more. record {
          at = full_cells;
          late = full_late;
          admitted = full_admitted;
          gives = earns p full_cells ∙ sum_same 4 (λ t. full_cells t *ℤ gain (bid_trade f) p t) (λ t. most f t *ℤ gain (bid_trade f) p t) (λ t l. ap (λ (x : ℤ). x *ℤ gain (bid_trade f) p t) (full_is t l)) ∙ gains whole more;
        })
      where
        loses : (x : ℤ) → x <ℤ pos 0 → pos 0 ≡ int_max (pos 0) x
        loses x h = omega (arith, ints, clamps)

        gains : (x : ℤ) → pos 0 ≤ℤ x → x ≡ int_max (pos 0) x
        gains x h = omega (arith, ints, clamps)

    pub bid_duties : SingleDuties (bidding f)
    bid_duties = record {
      idle_admitted = or_left (idle_row no_power) _ (cells_idle no_power (λ t _. refl));
      idle_net = idle_net_lem (bid_trade f);
      idle_worth = idle_worth_lem (bid_trade f);
      above = bid_above;
      reached = bid_reached;
      unharmed = λ p near q ok kept. le_of_test (pos 0) _ kept;
      power = λ q ok. trade_power (bid_trade f) inside q (bid_cells q ok);
      worth = λ q ok. trade_worth_lem (bid_trade f) inside (λ t l. (quarters t l).priced) q (bid_cells q ok);
      amount = λ p near q ok. trade_amount (bid_trade f) inside q (bid_cells q ok) p near;
      best = λ p near. bounded (sum 4 (λ t. most f t *ℤ gain (bid_trade f) p t)) (sum_within 4 (most_quantity * (2 * cap)) (λ t. most f t *ℤ gain (bid_trade f) p t)
          (λ t l. abs_mul_le (most f t) (gain (bid_trade f) p t) most_quantity (2 * cap) (quarters t l).few (gain_within (bid_trade f) inside (λ t l. (quarters t l).priced) p near t l)));
    }
      where
        bounded : (x : ℤ) → unsigned_abs x ≤ most_quantity * (2 * cap) * 4 → int_max (pos 0) x ≤ℤ pos most_money
        bounded x h = omega (arith, ints, clamps)
