-- Two lots as one: T is m, and then n. What m and n answer on their own parts of the cells, T answers on all of them.
-- Parted is a record so that T, m and n are found from its type, and need not be written.
use Rattle.std.proofs.Common.{◌≡◌, ℕ, ◌+◌, ◌-◌, ◌*◌, ◌<◌, ◌≤◌, min, List, ◌∷◌, length, take, drop, ℤ, pos, ◌+ℤ◌, Some, None, Option, sym, refl, ap, ◌∙◌, subst, ap₂, arith}
use Rattle.std.specs.Option.{option_map, MatchOption}
use Rattle.lot.specs.Sum.{sum, count}
use Rattle.lot.specs.Meaning.{Meaning, Cells, Prices, Quoted, cell_rows, lot_net, money, amount}
use Rattle.lot.specs.Duties.{most_lot_rows}
use Rattle.lot.specs.Parts.{front, shift, first_named}
use Rattle.lot.specs.Join.{join, nothing, together, Parted}
use Rattle.lot.specs.Page.{table_of, Sized, Ready}
use Rattle.lot.specs.declared.lot.Lot.{Ghosts}
use Rattle.lot.specs.Laws.Sums.{beside_below, beside_above}
use Rattle.lot.specs.Laws.Joins.{cell_rows_join, net_join}
use Rattle.lot.proofs.Splits.{cells_take, cells_drop, sized_front, sized_rest, ready_front, ready_rest, refused_below, broken_below}

-- ---- where a lot is two
pub both : {A B : Type 0} (a : Ghosts A) (b : Ghosts B) (x : A) (y : B) → Parted (join (a.meaning x) (b.meaning y)) (a.meaning x) (b.meaning y)
both a b x y = record { is = refl }

-- the first of a list of lots, and the rest
pub together_first : {A : Type 0} (f : A → Meaning) {xs ys : List A} {x : A} → xs ≡ x ∷ ys → Parted (together f xs) (f x) (together f ys)
unfolding together
together_first f e = record { is = ap (together f) e }

pub nothing_cells : cell_rows nothing ≡ 0
unfolding count
nothing_cells = refl

pub nothing_net : (c : Cells) (a t : ℕ) → lot_net nothing c a t ≡ pos 0
unfolding sum
nothing_net c a t = refl

-- ---- the two and the whole
module _ {T m n : Meaning} (e : Parted T m n) where
  pub rows_of_lem : T.rows ≡ m.rows + n.rows
  rows_of_lem = ap (λ M. M.rows) e.is

  pub cell_rows_of : cell_rows T ≡ cell_rows m + cell_rows n
  cell_rows_of = ap cell_rows e.is ∙ cell_rows_join m n

  pub best_of_lem : (p : Prices) → T.best p ≡ m.best p +ℤ n.best p
  best_of_lem p = ap (λ M. M.best p) e.is

  -- what it takes to part the cells
  pub asks : {b : List ℕ} → Sized T b → record { few : m.rows ≤ most_lot_rows; long : 17 * cell_rows m ≤ length b }
  asks s = let k = rows_of_lem in let l = cell_rows_of in let few = s.few in let long = s.long in record { few = omega arith; long = omega arith }

  front_cells : (b f : List ℕ) → f ≡ take (17 * cell_rows m) b → table_of f ≡ front (cell_rows m) (table_of b)
  front_cells b f ef = ap table_of ef ∙ cells_take (cell_rows m) b

  rest_cells : (b s : List ℕ) → s ≡ drop (17 * cell_rows m) b → table_of s ≡ shift (cell_rows m) (table_of b)
  rest_cells b s es = ap table_of es ∙ cells_drop (cell_rows m) b

  pub first_sized : {b f : List ℕ} → f ≡ take (17 * cell_rows m) b → Sized T b → Sized m f
  first_sized {b} ef s = subst (Sized m) (sym ef) (sized_front m n b (subst (λ M. Sized M b) e.is s))

  pub next_sized : {b s : List ℕ} → s ≡ drop (17 * cell_rows m) b → Sized T b → Sized n s
  next_sized {b} es s = subst (Sized n) (sym es) (sized_rest m n b (subst (λ M. Sized M b) e.is s))

  pub first_ready : {b f : List ℕ} → f ≡ take (17 * cell_rows m) b → Ready T b → Ready m f
  first_ready {b} ef r = subst (Ready m) (sym ef) (ready_front m n b (subst (λ M. Ready M b) e.is r))

  pub next_ready : {b s : List ℕ} → s ≡ drop (17 * cell_rows m) b → Ready T b → Ready n s
  next_ready {b} es r = subst (Ready n) (sym es) (ready_rest m n b (subst (λ M. Ready M b) e.is r))

  module _ (b f s : List ℕ) (ef : f ≡ take (17 * cell_rows m) b) (es : s ≡ drop (17 * cell_rows m) b) where
    pub net_of_lem : (a t : ℕ) → lot_net T (table_of b) a t ≡ lot_net m (table_of f) a t +ℤ lot_net n (table_of s) a t
    net_of_lem a t = ap (λ M. lot_net M (table_of b) a t) e.is ∙ net_join m n (table_of b) a t
        ∙ ap₂ (λ x y. lot_net m x a t +ℤ lot_net n y a t) (sym (front_cells b f ef)) (sym (rest_cells b s es))

    pub refused_of_lem : T.refused (table_of b) ≡ first_named m.rows (m.refused (table_of f)) (n.refused (table_of s))
    refused_of_lem = ap (λ M. M.refused (table_of b)) e.is
        ∙ ap₂ (λ x y. first_named m.rows (m.refused x) (n.refused y)) (sym (front_cells b f ef)) (sym (rest_cells b s es))

    pub broken_of_lem : (p : Prices) → T.broken (table_of b) p ≡ first_named m.rows (m.broken (table_of f) p) (n.broken (table_of s) p)
    broken_of_lem p = ap (λ M. M.broken (table_of b) p) e.is
        ∙ ap₂ (λ x y. first_named m.rows (m.broken x p) (n.broken y p)) (sym (front_cells b f ef)) (sym (rest_cells b s es))

  -- a row of the first
  module _ (b f : List ℕ) (ef : f ≡ take (17 * cell_rows m) b) (r : ℕ) (h : r < m.rows) where
    pub first_worth : m.worth (table_of f) r ≡ T.worth (table_of b) r
    first_worth = ap (λ x. m.worth x r) (front_cells b f ef) ∙ sym (beside_below m.rows (m.worth _) (n.worth _) r h) ∙ sym (ap (λ M. M.worth (table_of b) r) e.is)

    pub first_net : m.net (table_of f) r ≡ T.net (table_of b) r
    first_net = ap (λ x. m.net x r) (front_cells b f ef) ∙ sym (beside_below m.rows (m.net _) (n.net _) r h) ∙ sym (ap (λ M. M.net (table_of b) r) e.is)

  -- a row of the second
  module _ (b s : List ℕ) (es : s ≡ drop (17 * cell_rows m) b) (r : ℕ) (h : m.rows ≤ r) where
    pub next_worth : n.worth (table_of s) (r - m.rows) ≡ T.worth (table_of b) r
    next_worth = ap (λ x. n.worth x (r - m.rows)) (rest_cells b s es) ∙ sym (beside_above m.rows (m.worth _) (n.worth _) r h) ∙ sym (ap (λ M. M.worth (table_of b) r) e.is)

    pub next_net : n.net (table_of s) (r - m.rows) ≡ T.net (table_of b) r
    next_net = ap (λ x. n.net x (r - m.rows)) (rest_cells b s es) ∙ sym (beside_above m.rows (m.net _) (n.net _) r h) ∙ sym (ap (λ M. M.net (table_of b) r) e.is)

-- ---- a figure of one row, by the lot, its cells and the row: the first's rows come before the second's
pub record Figure {A : Type 0} (w : Meaning → Cells → ℕ → A) : Type 0 where
  pub first : {T m n : Meaning} → Parted T m n → (b f : List ℕ) → f ≡ take (17 * cell_rows m) b → (r : ℕ) → r < m.rows → w m (table_of f) r ≡ w T (table_of b) r
  pub next : {T m n : Meaning} → Parted T m n → (b s : List ℕ) → s ≡ drop (17 * cell_rows m) b → (r : ℕ) → m.rows ≤ r → w n (table_of s) (r - m.rows) ≡ w T (table_of b) r

pub worths : Figure (λ m c r. m.worth c r)
worths = record { first = λ e. first_worth e; next = λ e. next_worth e }

pub amounts : (p : Prices) → Figure (λ m c r. amount m c p r)
amounts p = record { first = λ e b f ef r h. ap (λ x. money x p) (first_net e b f ef r h); next = λ e b s es r h. ap (λ x. money x p) (next_net e b s es r h) }

abbrev pub worth_and_net : Meaning → Cells → ℕ → ℤ × (ℕ → ℕ → ℤ)
worth_and_net m c r = (m.worth c r, m.net c r)

pub figures : Figure worth_and_net
figures = record {
  first = λ e b f ef r h. ap₂ (λ x y. (x, y)) (first_worth e b f ef r h) (first_net e b f ef r h);
  next = λ e b s es r h. ap₂ (λ x y. (x, y)) (next_worth e b s es r h) (next_net e b s es r h);
}

-- ---- a row that a question names, of cells that fulfil `ask`: the first's before the second's
pub record Naming (ask : Meaning → List ℕ → Type 0) (q : Meaning → Cells → Option ℕ) : Type 0 where
  pub sized : (m : Meaning) (b : List ℕ) → ask m b → Sized m b
  pub first : {T m n : Meaning} → Parted T m n → (b f : List ℕ) → f ≡ take (17 * cell_rows m) b → ask T b → ask m f
  pub next : {T m n : Meaning} → Parted T m n → (b s : List ℕ) → s ≡ drop (17 * cell_rows m) b → ask T b → ask n s
  pub below : (m : Meaning) (b : List ℕ) → ask m b → (o : Option ℕ) → o ≡ q m (table_of b) → (r : ℕ) → o ≡ Some r → r < m.rows
  pub splits : {T m n : Meaning} → Parted T m n → (b f s : List ℕ) → f ≡ take (17 * cell_rows m) b → s ≡ drop (17 * cell_rows m) b → q T (table_of b) ≡ first_named m.rows (q m (table_of f)) (q n (table_of s))
  pub none : (c : Cells) → q nothing c ≡ None

pub refusals : Naming Sized (λ m c. m.refused c)
refusals = record {
  sized = λ m b s. s;
  first = λ e b f ef s. first_sized e ef s;
  next = λ e b t et s. next_sized e et s;
  below = refused_below;
  splits = λ e b f s ef es. refused_of_lem e b f s ef es;
  none = λ c. refl;
}

pub breaks : (p : Prices) → Quoted p → Naming Ready (λ m c. m.broken c p)
breaks p quoted = record {
  sized = λ m b r. r.sized;
  first = λ e b f ef r. first_ready e ef r;
  next = λ e b s es r. next_ready e es r;
  below = λ m b r o eo. broken_below m b r p quoted o eo;
  splits = λ e b f s ef es. broken_of_lem e b f s ef es p;
  none = λ c. refl;
}

-- the row that one of two lots names
module _ {ask : Meaning → List ℕ → Type 0} {q : Meaning → Cells → Option ℕ} (naming : Naming ask q) {T m n : Meaning} (e : Parted T m n) (b s : List ℕ) (es : s ≡ drop (17 * cell_rows m) b) (asked : ask T b) {l : ℕ} (el : l ≡ min m.rows 4097) where
  pub named_below : (r : ℕ) → q n (table_of s) ≡ Some r → l + r < 4097
  named_below r is = let k = rows_of_lem e in let few = (naming.sized T b asked).few in let h = naming.below n s (naming.next e b s es asked) _ refl r is in omega arith

  pub named_or : (f : List ℕ) → f ≡ take (17 * cell_rows m) b → (o : Option ℕ) {r : Option ℕ} {P : Type 0} → o ≡ q m (table_of f) → MatchOption o P (λ v. r ≡ Some v) → (P → r ≡ option_map (λ y. l + y) (q n (table_of s))) → r ≡ q T (table_of b)
  named_or f ef o {r} {P} eo given second = by o given ∙ ap (λ x. first_named m.rows x (q n (table_of s))) eo ∙ sym (naming.splits e b f s ef es)
    where
      by : (o : Option ℕ) → MatchOption o P (λ v. r ≡ Some v) → r ≡ first_named m.rows o (q n (table_of s))
      by None p = second p ∙ ap (λ k. option_map (λ y. k + y) (q n (table_of s))) (let k = rows_of_lem e in let few = (naming.sized T b asked).few in omega arith)
      by (Some v) e = e
