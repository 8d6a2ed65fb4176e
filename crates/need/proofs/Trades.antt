-- What the code of a need computes, in the words of its definition.
use Rattle.std.proofs.Common.{◌≡◌, ℕ, ◌<◌, ◌≤◌, Bool, List, ℤ, pos, ◌*ℤ◌, nat_abs, sym, ap, ◌∙◌, ap₂, arith, w32, SFits}
use lib.Signed.{le_z}
use Rattle.std.proofs.lemmas.Int.{ints}
use Rattle.lot.specs.Sum.{every}
use Rattle.lot.specs.Page.{table_of, four, at, Ready}
use Rattle.lot.specs.Single.{single}
use Rattle.lot.specs.Trade.{gain}
use Rattle.lot.specs.Laws.Sums.{every_same}
use Rattle.lot.proofs.Terms.{four_at}
use Rattle.lot.proofs.Alone.{alone_admits}
use Rattle.need.specs.declared.lawful.Need.{Need}
use Rattle.need.specs.Needing.{wanted, need_trade, needing}
use Rattle.need.specs.Laws.Needs.{need_inside, need_few, need_priced, need_cells, quarter_keeps}

module _ (b : Need) where
  pub inside : (need_trade b.fields).area < 32
  inside = need_inside b.fields b.placed b.fine

  pub priced : (t : ℕ) → t < 4 → nat_abs ((need_trade b.fields).limit t) ≤ 9999999
  priced = need_priced b.fields b.placed b.fine

  pub few : (t : ℕ) → t < 4 → nat_abs (wanted b.fields t) ≤ 99999
  few = need_few b.fields b.placed b.fine

  pub wanted_fits : (t : ℕ) → t < 4 → SFits w32 (wanted b.fields t)
  wanted_fits t l = let h = few t l in omega (arith, ints)

  pub cells_small : (k : List ℕ) → Ready (single (needing b.fields)) k → (t : ℕ) → t < 4 → nat_abs (table_of k 0 t) ≤ 99999
  cells_small k r = need_cells b.fields b.placed b.fine (table_of k 0) (alone_admits (needing b.fields) k r)

-- the price rule, quarter by quarter
pub rule_is : (b : Need) (k p : List ℕ) (q g : List ℤ) → q ≡ four (table_of k 0) → g ≡ four (gain (need_trade b.fields) (table_of p)) → {r : Bool} → r ≡ every 4 (λ t. le_z (pos 0) (at q t *ℤ at g t))
    → r ≡ (needing b.fields).keeps (table_of k 0) (table_of p)
rule_is b k p q g eq eg e = e ∙ every_same 4 (λ t. le_z (pos 0) (at q t *ℤ at g t)) _ (λ t l. ap (le_z (pos 0)) (ap₂ ◌*ℤ◌ (ap (λ ys. at ys t) eq ∙ four_at (table_of k 0) t l) (ap (λ ys. at ys t) eg ∙ four_at (gain (need_trade b.fields) (table_of p)) t l) ∙ sym (quarter_keeps b.fields (table_of k 0) (table_of p) t)))
