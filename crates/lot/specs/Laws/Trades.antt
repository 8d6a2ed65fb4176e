-- What a trade moves, earns and can earn at most.
use Rattle.std.specs.Prelude.{◌≡◌, ℕ, ◌*◌, ◌<◌, ◌≤◌, Bool, true, false, cond, ℤ, pos, ◌+ℤ◌, ◌-ℤ◌, ◌*ℤ◌, neg_ℤ, ◌≤ℤ◌, ◌==◌, unsigned_abs}
use Rattle.std.proofs.Math.Path.{refl}
use Rattle.std.proofs.Common.{sym, ap, ◌∙◌, subst, arith, le_trans, lit≤}
use Rattle.std.proofs.Math.IntN.{zero-*ℤ, *ℤ-zero, *ℤ_comm}
use Rattle.std.proofs.lemmas.Int.{ints, clamps, by_lt_z}
use Rattle.std.specs.Int.{int_max}
use Rattle.units.specs.Limit.{cap, most_quantity}
use Rattle.lot.specs.Sum.{sum}
use Rattle.lot.specs.Meaning.{Prices, Capped, money}
use Rattle.lot.specs.Duties.{most_power, most_money}
use Rattle.lot.specs.Trade.{Trade, turned, trade_net, quarter_worth, trade_worth, quarter_amount, gain}
use Rattle.lot.specs.Laws.Ring.{neg_mul, mul_neg, mul_sub, abs_mul_le, mul_le_mul_nonneg}
use Rattle.lot.specs.Laws.Sums.{sum_same, sum_zero, sum_add, sum_neg, sum_within, sum_pick}

pub abs_turned : (s : Bool) (z : ℤ) → unsigned_abs (turned s z) ≡ unsigned_abs z
abs_turned true z = refl
abs_turned false z = omega (arith, ints)

pub turned_mul : (s : Bool) (h k : ℤ) → turned s (h *ℤ k) ≡ h *ℤ turned s k
turned_mul true h k = refl
turned_mul false h k = sym (mul_neg h k)

turned_zero : (s : Bool) → turned s (pos 0) ≡ pos 0
turned_zero true = refl
turned_zero false = refl

-- worth and amount of one quarter are the quantity times what a unit gains
pub quarter_surplus : (s : Bool) (c p π : ℤ) → turned s (neg_ℤ (π *ℤ c)) +ℤ turned s c *ℤ p ≡ c *ℤ turned s (p -ℤ π)
quarter_surplus true c p π = let e = mul_sub c p π in let f = *ℤ_comm π c in omega (arith, ints)
quarter_surplus false c p π =
    let e : c *ℤ (p -ℤ π) ≡ c *ℤ p -ℤ π *ℤ c = mul_sub c p π ∙ ap (λ (x : ℤ). c *ℤ p -ℤ x) (*ℤ_comm c π) in
    last (π *ℤ c) (c *ℤ p) (neg_ℤ c *ℤ p) (c *ℤ (p -ℤ π)) (c *ℤ neg_ℤ (p -ℤ π)) (neg_mul c p) e (mul_neg c (p -ℤ π))
  where
    last : (a b x y z : ℤ) → x ≡ neg_ℤ b → y ≡ b -ℤ a → z ≡ neg_ℤ y → neg_ℤ (neg_ℤ a) +ℤ x ≡ z
    last a b x y z h e f = omega (arith, ints)

-- what lies between 0 and m earns at most what m does, or nothing
pub part_earns : (c m k : ℤ) → pos 0 ≤ℤ c → c ≤ℤ m → (c *ℤ k) ≤ℤ int_max (pos 0) (m *ℤ k)
part_earns c m k h l =
    by_lt_z k (pos 0)
    (λ neg. let a : (c *ℤ k) ≤ℤ (c *ℤ pos 0) = mul_le_mul_nonneg c k (pos 0) h (omega (arith, ints)) in
    let z : c *ℤ pos 0 ≡ pos 0 = *ℤ-zero c in
    omega (arith, ints, clamps))
    (λ nn. let a : (k *ℤ c) ≤ℤ (k *ℤ m) = mul_le_mul_nonneg k c m nn l in
    let e : k *ℤ c ≡ c *ℤ k = *ℤ_comm k c in
    let f : k *ℤ m ≡ m *ℤ k = *ℤ_comm k m in
    omega (arith, ints, clamps))

module _ (T : Trade) where
  -- a trade of nothing
  pub idle_net_lem : (a t : ℕ) → trade_net T (λ _. pos 0) a t ≡ pos 0
  idle_net_lem a t = by_test (a == T.area)
    where
      by_test : (b : Bool) → cond b (turned T.sells (pos 0)) (pos 0) ≡ pos 0
      by_test true = turned_zero T.sells
      by_test false = refl

  pub idle_worth_lem : trade_worth T (λ _. pos 0) ≡ pos 0
  idle_worth_lem = sum_zero 4 (quarter_worth T (λ _. pos 0)) (λ t _. ap (λ (x : ℤ). turned T.sells (neg_ℤ x)) (*ℤ-zero (T.limit t)) ∙ turned_zero T.sells)

  -- the worth as one sum of nets at the limits
  pub worth_is : (q : ℕ → ℤ) → trade_worth T q ≡ neg_ℤ (sum 4 (λ t. turned T.sells (q t) *ℤ T.limit t))
  worth_is q = sum_same 4 (quarter_worth T q) (λ t. neg_ℤ (turned T.sells (q t) *ℤ T.limit t)) (λ t _. one T.sells (q t) (T.limit t)) ∙ sum_neg 4 (λ t. turned T.sells (q t) *ℤ T.limit t)
    where
      one : (s : Bool) (x y : ℤ) → turned s (neg_ℤ (y *ℤ x)) ≡ neg_ℤ (turned s x *ℤ y)
      one true x y = ap neg_ℤ (*ℤ_comm y x)
      one false x y = ap (λ (z : ℤ). neg_ℤ (neg_ℤ z)) (*ℤ_comm y x) ∙ ap neg_ℤ (sym (neg_mul x y))

  module _ (inside : T.area < 32) where
    pub trade_money : (q : ℕ → ℤ) (p : Prices) → money (trade_net T q) p ≡ sum 4 (quarter_amount T q p)
    unfolding money
    trade_money q p =
        sum_same 32 (λ a. sum 4 (λ t. trade_net T q a t *ℤ p a t)) (λ a. cond (a == T.area) (sum 4 (λ t. turned T.sells (q t) *ℤ p a t)) (pos 0)) (λ a _. by_test (a == T.area) a)
        ∙ sum_pick 32 T.area (λ a. sum 4 (λ t. turned T.sells (q t) *ℤ p a t)) inside
      where
        by_test : (b : Bool) (a : ℕ) → sum 4 (λ t. cond b (turned T.sells (q t)) (pos 0) *ℤ p a t) ≡ cond b (sum 4 (λ t. turned T.sells (q t) *ℤ p a t)) (pos 0)
        by_test true a = refl
        by_test false a = sum_zero 4 (λ t. pos 0 *ℤ p a t) (λ t _. zero-*ℤ (p a t))

    pub trade_surplus : (q : ℕ → ℤ) (p : Prices) → trade_worth T q +ℤ money (trade_net T q) p ≡ sum 4 (λ t. q t *ℤ gain T p t)
    trade_surplus q p =
        ap (λ (x : ℤ). trade_worth T q +ℤ x) (trade_money q p)
        ∙ sym (sum_add 4 (quarter_worth T q) (quarter_amount T q p))
        ∙ sum_same 4 (λ t. quarter_worth T q t +ℤ quarter_amount T q p t) (λ t. q t *ℤ gain T p t) (λ t _. quarter_surplus T.sells (q t) (p T.area t) (T.limit t))

    pub trade_power : (q : ℕ → ℤ) → ((t : ℕ) → t < 4 → unsigned_abs (q t) ≤ most_quantity) → (t : ℕ) → t < 4 → sum 32 (λ a. pos (unsigned_abs (trade_net T q a t))) ≤ℤ pos most_power
    trade_power q small t l =
        let e : sum 32 (λ a. pos (unsigned_abs (trade_net T q a t))) ≡ pos (unsigned_abs (q t)) =
        sum_same 32 (λ a. pos (unsigned_abs (trade_net T q a t))) (λ a. cond (a == T.area) (pos (unsigned_abs (q t))) (pos 0)) (λ a _. by_test (a == T.area)) ∙ sum_pick 32 T.area (λ _. pos (unsigned_abs (q t))) inside in
        let h : unsigned_abs (q t) ≤ most_quantity = small t l in
        omega (arith, ints)
      where
        by_test : (b : Bool) → pos (unsigned_abs (cond b (turned T.sells (q t)) (pos 0))) ≡ cond b (pos (unsigned_abs (q t))) (pos 0)
        by_test true = ap pos (abs_turned T.sells (q t))
        by_test false = refl

    pub trade_amount : (q : ℕ → ℤ) → ((t : ℕ) → t < 4 → unsigned_abs (q t) ≤ most_quantity) → (p : Prices) → Capped p → unsigned_abs (money (trade_net T q) p) ≤ most_money
    trade_amount q small p near = subst (λ x. unsigned_abs x ≤ most_money) (sym (trade_money q p))
        (le_trans (sum_within 4 (most_quantity * cap) (quarter_amount T q p)
        (λ t l. abs_mul_le (turned T.sells (q t)) (p T.area t) most_quantity cap (subst (λ n. n ≤ most_quantity) (sym (abs_turned T.sells (q t))) (small t l)) (near T.area t inside l)))
        (lit≤ tt))

    module _ (priced : (t : ℕ) → t < 4 → unsigned_abs (T.limit t) ≤ cap) where
      pub trade_worth_lem : (q : ℕ → ℤ) → ((t : ℕ) → t < 4 → unsigned_abs (q t) ≤ most_quantity) → unsigned_abs (trade_worth T q) ≤ most_money
      trade_worth_lem q small =
          le_trans (sum_within 4 (cap * most_quantity) (quarter_worth T q)
          (λ t l. subst (λ n. n ≤ cap * most_quantity) (sym (abs_turned T.sells (neg_ℤ (T.limit t *ℤ q t)) ∙ abs_neg (T.limit t *ℤ q t))) (abs_mul_le (T.limit t) (q t) cap most_quantity (priced t l) (small t l))))
          (lit≤ tt)
        where
          abs_neg : (z : ℤ) → unsigned_abs (neg_ℤ z) ≡ unsigned_abs z
          abs_neg z = omega (arith, ints)

      pub gain_within : (p : Prices) → Capped p → (t : ℕ) → t < 4 → unsigned_abs (gain T p t) ≤ 2 * cap
      gain_within p near t l =
          let a = near T.area t inside l in
          let b = priced t l in
          let e = abs_turned T.sells (p T.area t -ℤ T.limit t) in
          omega (arith, ints)
