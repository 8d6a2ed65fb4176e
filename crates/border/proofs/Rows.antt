-- A border's one row in a page: its cells, what they put into an area, and their rent.
use Rattle.std.proofs.Common.{◌≡◌, ℕ, ◌*◌, ◌<◌, ◌≤◌, List, length, ℤ, ◌-ℤ◌, ◌*ℤ◌, nat_abs, sym, refl, ap, ◌∙◌, subst, ap₂, arith, lit<, w32, w64, SFits, to_z, of_z}
use Rattle.std.proofs.lemmas.Int.{to_z-of_z}
use Rattle.units.specs.Limit.{most_quantity}
use Rattle.lot.specs.Sum.{sum}
use Rattle.lot.specs.Meaning.{lot_net, amount}
use Rattle.lot.specs.Page.{table_of, at, four, Within, AllWithin, Sized, Ready, Priced}
use Rattle.lot.specs.Single.{single}
use Rattle.lot.specs.Laws.Sums.{sum_one, sum_same, each_four}
use Rattle.lot.specs.Laws.Singles.{single_cells, single_admits}
use Rattle.lot.proofs.Machine.{all_within, back64}
use Rattle.border.specs.declared.fields.BorderFields.{BorderFields}
use Rattle.border.specs.declared.lawful.Border.{Border}
use Rattle.border.specs.Flow.{carried, gap_at, flowing}
use Rattle.border.specs.Laws.Flows.{rent, rent_is, small_rent, small_flow, small_gap}
use Rattle.border.proofs.Steps.{lawful_fields}

pub row_long : (f : BorderFields) (b : List ℕ) → Sized (single (flowing f)) b → 17 ≤ length b
row_long f b h = let e = h.long ∙ ap (λ n. 17 * n) (single_cells (flowing f)) in omega arith

pub net_is : (f : BorderFields) (b : List ℕ) (a t : ℕ) (x r : ℤ) → x ≡ table_of b 0 t → SFits w32 x → r ≡ carried f a (to_z w32 (of_z w32 x)) → SFits w64 r → to_z w64 (of_z w64 r) ≡ lot_net (single (flowing f)) (table_of b) a t
net_is f b a t x r e g h fits = to_z-of_z w64 r fits ∙ h ∙ ap (carried f a) (to_z-of_z w32 x g ∙ e) ∙ sym (sum_one (λ i. carried f a (table_of b 0 t)))

-- four prices of an area
pub prices_within : (b : List ℕ) → Priced b → (a : ℕ) → a < 32 → (xs : List ℤ) → xs ≡ four (table_of b a) → AllWithin 9999999 xs
prices_within b priced a l xs e = subst (AllWithin 9999999) (sym e) (all_within (table_of b a) (λ t m. priced.capped a t l m))

module _ (x : Border) (cells prices : List ℕ) (ready : Ready (single (flowing x.fields)) cells) (priced : Priced prices) where
  flow_within : (t : ℕ) → t < 4 → nat_abs (table_of cells 0 t) ≤ most_quantity
  flow_within = small_flow x.fields (lawful_fields x) (table_of cells 0) (single_admits (flowing x.fields) (table_of cells) ready.admitted)

  pub cells_within : (xs : List ℤ) → xs ≡ four (table_of cells 0) → AllWithin 99999 xs
  cells_within xs e = subst (AllWithin 99999) (sym e) (all_within (table_of cells 0) flow_within)

  module _ {m n : ℕ} (em : m ≡ x.fields.from) (en : n ≡ x.fields.to) (first second gaps : List ℤ) (ef : first ≡ four (table_of prices m)) (es : second ≡ four (table_of prices n)) (eg : gaps ≡ four (λ t. at second t -ℤ at first t)) where
    gaps_are : gaps ≡ four (gap_at x.fields (table_of prices))
    gaps_are = eg ∙ ap₂ (λ u v. four (λ t. at u t -ℤ at v t)) (es ∙ ap (λ a. four (table_of prices a)) en) (ef ∙ ap (λ a. four (table_of prices a)) em)

    pub gaps_within : AllWithin 19999998 gaps
    gaps_within = subst (AllWithin 19999998) (sym gaps_are) (all_within (gap_at x.fields (table_of prices)) (small_gap x.fields (lawful_fields x) (table_of prices) priced.capped))

    pub amount_is : (row : ℕ) (flow : List ℤ) → flow ≡ four (table_of cells 0) → (r : ℤ) → r ≡ sum 4 (λ t. at flow t *ℤ at gaps t) → to_z w64 (of_z w64 r) ≡ amount (single (flowing x.fields)) (table_of cells) (table_of prices) row
    unfolding rent
    amount_is row flow e r h =
        let f : BorderFields = x.fields in
        let q : ℕ → ℤ = table_of cells 0 in
        let same : r ≡ rent f q (table_of prices) =
        h ∙ ap₂ (λ u v. sum 4 (λ t. at u t *ℤ at v t)) e gaps_are
        ∙ sum_same 4 (λ t. at (four q) t *ℤ at (four (gap_at f (table_of prices))) t) (λ t. q t *ℤ gap_at f (table_of prices) t)
        (each_four (λ t. at (four q) t *ℤ at (four (gap_at f (table_of prices))) t ≡ q t *ℤ gap_at f (table_of prices) t) refl refl refl refl) in
        let small : Within 10000000000000 (rent f q (table_of prices)) = record { size = small_rent f (lawful_fields x) (table_of prices) priced.capped q (single_admits (flowing f) (table_of cells) ready.admitted) } in
        ap (λ z. to_z w64 (of_z w64 z)) same ∙ back64 small (lit< tt) ∙ sym (rent_is f (lawful_fields x) q (table_of prices))
