-- What the code of a trade computes, in the words of its definition; and cells of one row as a page holds them.
use Rattle.std.proofs.Common.{◌≡◌, ℕ, zero, suc, ◌^◌, ◌<◌, ◌≤◌, Bool, true, false, ltb, List, ℤ, pos, ◌-ℤ◌, ◌*ℤ◌, neg_ℤ, nat_abs, sym, refl, ap, ◌∙◌, subst, ap₂, ⊎_elim, arith, lit≤, w64, SFits, to_z, of_z}
use mathlib.Core.Path.{fun_ext}
use Rattle.std.proofs.lemmas.Int.{ints}
use Rattle.std.proofs.lemmas.Bool.{cond-false, le-ltb, cases_lt}
use Rattle.lot.specs.declared.trade.TradeTerms.{TradeTerms}
use Rattle.lot.specs.Sum.{sum}
use Rattle.lot.specs.Meaning.{Prices, money}
use Rattle.lot.specs.Page.{table_of, four, at, Within, AllWithin, Priced}
use Rattle.lot.specs.Trade.{Trade, turned, trade_net, quarter_worth, trade_worth, quarter_amount, gain}
use Rattle.lot.specs.Direction.{sells, towards, trade_of, TermsOf}
use Rattle.lot.specs.Laws.Sums.{sum_same, each_four}
use Rattle.lot.specs.Laws.Trades.{abs_turned, worth_is, trade_money, gain_within}
use Rattle.lot.proofs.Machine.{within_more, each_within, all_within, dot_within}

-- ---- four numbers as an array holds them
pub four_at : (f : ℕ → ℤ) (t : ℕ) → t < 4 → at (four f) t ≡ f t
four_at f = each_four (λ t. at (four f) t ≡ f t) refl refl refl refl

at_late : (f : ℕ → ℤ) (t : ℕ) → 4 ≤ t → at (four f) t ≡ pos 0
at_late f zero h = absurd (omega arith)
at_late f (suc zero) h = absurd (omega arith)
at_late f (suc (suc zero)) h = absurd (omega arith)
at_late f (suc (suc (suc zero))) h = absurd (omega arith)
at_late f (suc (suc (suc (suc t)))) h = refl

row_late : (b : List ℕ) (i t : ℕ) → 4 ≤ t → table_of b i t ≡ pos 0
unfolding table_of
row_late b i t h = cond-false (ltb t 4) _ _ (le-ltb t 4 h)

-- a row of a page is its four numbers
pub row_at : (b : List ℕ) (i : ℕ) → at (four (table_of b i)) ≡ table_of b i
row_at b i = fun_ext (λ t. ⊎_elim (four_at (table_of b i) t) (λ h. at_late (table_of b i) t h ∙ sym (row_late b i t h)) (cases_lt t 4))

pub all_more : {n m : ℕ} {xs : List ℤ} → AllWithin n xs → n ≤ m → AllWithin m xs
all_more h l = record { is0 = within_more h.is0 l; is1 = within_more h.is1 l; is2 = within_more h.is2 l; is3 = within_more h.is3 l }

-- sums of products of arrays
pub dot_fours : (f g : ℕ → ℤ) → sum 4 (λ t. at (four f) t *ℤ at (four g) t) ≡ sum 4 (λ t. f t *ℤ g t)
dot_fours f g = sum_same 4 (λ t. at (four f) t *ℤ at (four g) t) (λ t. f t *ℤ g t) (λ t l. ap₂ ◌*ℤ◌ (four_at f t l) (four_at g t l))

-- ---- the terms of a trade
pub nets_within : (s : Bool) (xs : List ℤ) → AllWithin 99999 xs → AllWithin 99999 (four (λ t. turned s (at xs t)))
nets_within s xs h = all_within (λ t. turned s (at xs t)) (λ t l. subst (λ n. n ≤ 99999) (sym (abs_turned s (at xs t))) (each_within h t l))

pub prices_within : (b : List ℕ) → Priced b → (a : ℕ) → a < 32 → AllWithin 9999999 (four (table_of b a))
prices_within b p a h = all_within (table_of b a) (λ t l. p.capped a t h l)

-- a number and its negation, through their bits
pub neg_fits : {r : ℤ} {n : ℕ} → Within n r → n < 2 ^ 63 → SFits w64 (pos 0 -ℤ to_z w64 (of_z w64 r))
neg_fits {r} {n} h k = let l : nat_abs r ≤ n = h.size in omega (arith, ints)

pub neg_back : {r : ℤ} {n : ℕ} → Within n r → n < 2 ^ 63 → to_z w64 (of_z w64 (pos 0 -ℤ to_z w64 (of_z w64 r))) ≡ neg_ℤ r
neg_back {r} {n} h k = let l : nat_abs r ≤ n = h.size in omega (arith, ints)

module _ (x : TradeTerms) (q ns : List ℤ) (en : ns ≡ four (λ t. turned (sells x.direction) (at q t))) (small : AllWithin 99999 q) where
  pub nets_small : AllWithin 99999 ns
  nets_small = subst (AllWithin 99999) (sym en) (nets_within (sells x.direction) q small)

  -- the sum over prices ps, which are those of an area or the limits
  net_sum : (ps : List ℤ) (g : ℕ → ℤ) → ((t : ℕ) → t < 4 → at ps t ≡ g t) → sum 4 (λ t. at ns t *ℤ at ps t) ≡ sum 4 (λ t. turned (sells x.direction) (at q t) *ℤ g t)
  net_sum ps g e = sum_same 4 (λ t. at ns t *ℤ at ps t) (λ t. turned (sells x.direction) (at q t) *ℤ g t)
      (λ t l. ap₂ ◌*ℤ◌ (ap (λ ys. at ys t) en ∙ four_at (λ t. turned (sells x.direction) (at q t)) t l) (e t l))

  module _ {r : ℤ} (e : r ≡ sum 4 (λ t. at ns t *ℤ at x.limits t)) where
    pub worth_within : Within 7999919200008 r
    worth_within = subst (Within 7999919200008) (sym e) (dot_within nets_small (all_more x.fair.priced (lit≤ tt)))

    pub worth_same : neg_ℤ r ≡ trade_worth (trade_of x) (at q)
    worth_same = ap neg_ℤ (e ∙ net_sum x.limits (at x.limits) (λ t _. refl)) ∙ sym (worth_is (trade_of x) (at q))

pub amount_same : (x : TradeTerms) (q ns ps : List ℤ) (b : List ℕ) → ns ≡ four (λ t. turned (sells x.direction) (at q t)) → ps ≡ four (table_of b x.area) → (r : ℤ) → r ≡ sum 4 (λ t. at ns t *ℤ at ps t)
    → r ≡ money (trade_net (trade_of x) (at q)) (table_of b)
amount_same x q ns ps b en ep r e =
    e
    ∙ sum_same 4 (λ t. at ns t *ℤ at ps t) (quarter_amount (trade_of x) (at q) (table_of b))
    (λ t l. ap₂ ◌*ℤ◌ (ap (λ ys. at ys t) en ∙ four_at (λ t. turned (sells x.direction) (at q t)) t l) (ap (λ ys. at ys t) ep ∙ four_at (table_of b x.area) t l))
    ∙ sym (trade_money (trade_of x) x.fair.inside (at q) (table_of b))

-- what a unit gains
pub gains_within : (x : TradeTerms) (b : List ℕ) → Priced b → AllWithin 19999998 (four (gain (trade_of x) (table_of b)))
gains_within x b p = all_within (gain (trade_of x) (table_of b)) (gain_within (trade_of x) x.fair.inside (each_within x.fair.priced) (table_of b) p.capped)

-- ---- the terms of a trade T
towards_sells : (s : Bool) → sells (towards s) ≡ s
towards_sells true = refl
towards_sells false = refl

module _ (T : Trade) (x : TradeTerms) (is : TermsOf T x) where
  way : sells x.direction ≡ T.sells
  way = ap sells is.direction ∙ towards_sells T.sells

  pub terms_net : (q : ℕ → ℤ) (a t : ℕ) → trade_net (trade_of x) q a t ≡ trade_net T q a t
  terms_net q a t = λ i. trade_net (record { area = is.area i; sells = way i; limit = T.limit }) q a t

  pub terms_worth : (q : ℕ → ℤ) → trade_worth (trade_of x) q ≡ trade_worth T q
  terms_worth q = sum_same 4 (quarter_worth (trade_of x) q) (quarter_worth T q) (λ t l. ap₂ (λ s z. turned s (neg_ℤ (z *ℤ q t))) way (ap (λ ys. at ys t) is.limits ∙ four_at T.limit t l))

  pub terms_money : (q : ℕ → ℤ) (p : Prices) → money (trade_net (trade_of x) q) p ≡ money (trade_net T q) p
  terms_money q p = λ i. money (trade_net (record { area = is.area i; sells = way i; limit = T.limit }) q) p

  pub terms_gain : (p : Prices) → four (gain (trade_of x) p) ≡ four (gain T p)
  terms_gain p = λ i. four (λ t. turned (way i) (p (is.area i) t -ℤ at (is.limits i) t))

  module _ (p : List ℕ) (g : List ℤ) (eg : g ≡ four (gain (trade_of x) (table_of p))) where
    pub gains_are : g ≡ four (gain T (table_of p))
    gains_are = eg ∙ terms_gain (table_of p)

    -- the surplus of quantities f, as one sum
    pub earned : (f : ℕ → ℤ) (q : List ℤ) → q ≡ four f → (r : ℤ) → r ≡ sum 4 (λ t. at q t *ℤ at g t) → r ≡ sum 4 (λ t. f t *ℤ gain T (table_of p) t)
    earned f q eq r e = e ∙ (λ i. sum 4 (λ t. at (eq i) t *ℤ at (gains_are i) t)) ∙ dot_fours f (gain T (table_of p))
