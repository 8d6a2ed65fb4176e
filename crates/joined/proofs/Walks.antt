-- A walk over lots that are joined one after another: T is left of `all`, m is its first and n what comes after.
-- Each invariant is a record so that its parameters are found from its type, and need not be written.
use Rattle.std.proofs.Common.{◌≡◌, ℕ, ◌+◌, ◌-◌, ◌*◌, ◌<◌, ◌≤◌, min, Bool, true, false, nat_lt, Bor, List, take, drop, ℤ, pos, ◌+ℤ◌, nat_abs, Some, None, Option, FitsSigned, w64, fold, sym, refl, ap, ap₂, ◌∙◌, subst, arith}
use Rattle.std.proofs.lemmas.Bool.Decides.{nat_tests}
use Rattle.std.proofs.lemmas.Int.{ints}
use Rattle.std.specs.Fn.{Mut, Called, Takes, CalledAt, TakesAt}
use Rattle.std.specs.declared.iter.Map.{Map}
use Rattle.std.specs.Iterator.{Drains, CallableOnAll, CallableWhile, CallableWhileAt, FindsItem, FindsMapped}
use Rattle.std.specs.Iterator.Adapters.{map_source, map_callee, map_steps}
use Rattle.std.specs.Iterator.Runs.{EachRunFrom, SomeRun, AllItemsGive, IsFirstToGive}
use Rattle.std.specs.Bool.{IsTrue}
use Rattle.std.specs.List.{FoldsTo}
use Rattle.std.specs.Option.{option_map, MatchOption}
use Rattle.lot.specs.Meaning.{Meaning, Cells, Prices, Quoted, Capped, cell_rows, lot_net}
use Rattle.lot.specs.Duties.{most_lot_rows, Duties}
use Rattle.lot.specs.Parts.{first_named}
use Rattle.lot.specs.Join.{Parted, nothing}
use Rattle.lot.specs.Page.{table_of, Ready}
use Rattle.lot.proofs.Limits.{net_limit, best_low}
use Rattle.joined.proofs.Halves.{Figure, Naming, worth_and_net, figures, nothing_net, rows_of_lem, best_of_lem, net_of_lem, first_ready, next_ready}
use Rattle.lot.specs.declared.lot.Lot.{Ghosts as Lot}
use Rattle.joined.specs.declared.chain.Chain.{Ghosts as Chain}
use Rattle.joined.specs.declared.parts.Links.{Links}
use Rattle.joined.specs.declared.parts.Part.{Part}
use Rattle.joined.specs.declared.parts.Parts.{Parts}
use Rattle.joined.proofs.Turns.{ended, sum_can, sum_fits, sum_ends, find_can, found, first_can, first}

-- ---- what the iterators over a chain give (parts.rt)
module _ {C L : Type 0} (k : Chain C L) (l : Lot L) where
  abbrev pub TakesLot : Links C → Option L → Links C → Type 0
  TakesLot s r t = MatchOption r (k.meaning s.0 ≡ nothing) (λ lot. Parted (k.meaning s.0) (l.meaning lot) (k.meaning t.0))

  abbrev pub TakesPart : Parts C L k l → Option (Part L) → Parts C L k l → Type 0
  TakesPart s r t = MatchOption r (k.meaning s.chain ≡ nothing) (λ p. record {
    two : Parted (k.meaning s.chain) (l.meaning p.lot) (k.meaning t.chain);
    front : p.cells.bytes.now ≡ take (17 * cell_rows (l.meaning p.lot)) s.rest.bytes.now;
    rest : t.rest.bytes.now ≡ drop (17 * cell_rows (l.meaning p.lot)) s.rest.bytes.now;
    before : p.before ≡ s.passed;
    rows : p.rows ≡ (l.meaning p.lot).rows;
    passed : t.passed ≡ s.passed + (l.meaning p.lot).rows;
  })

-- ---- rows and cell rows
record Counting (f : Meaning → ℕ) (T all : Meaning) (total : ℕ) : Type 0 where
  pub small : total ≤ 4097
  pub same : min (total + f T) 4097 ≡ min (f all) 4097

counting_next : {T m n : Meaning} → Parted T m n → {f : Meaning → ℕ} {all : Meaning} {total : ℕ} → Counting f T all total → f T ≡ f m + f n → (r x : ℕ) → r ≡ min (f m) 4097 → x ≡ min (total + r) 4097 → Counting f n all x
counting_next _ inv e r x v u = let k = inv.small in let j = inv.same in record { small = omega arith; same = omega arith }

counting_end : {f : Meaning → ℕ} {T all : Meaning} {total : ℕ} → Counting f T all total → T ≡ nothing → f nothing ≡ 0 → total ≡ min (f all) 4097
counting_end {f} inv e z = let k = inv.small in let j = inv.same in let y = ap f e ∙ z in omega arith

-- by `fold` over the lots
pub counted : {C L F : Type 0} (k : Chain C L) (l : Lot L) (f : Meaning → ℕ) (R : F × ℕ → L → F × ℕ → Type 0)
    → ((p : F × ℕ) (x : L) (q : F × ℕ) → R p x q → q.1 ≡ min (p.1 + min (f (l.meaning x)) 4097) 4097)
    → {s : _} {e : F} {r : ℕ} → (xs : List L) × (e' : F) × Drains (TakesLot k l) s xs × FoldsTo {P = F × ℕ} R (e, 0) xs (e', r)
    → ((T m n : Meaning) → Parted T m n → f T ≡ f m + f n) → f nothing ≡ 0 → r ≡ min (f (k.meaning s.0)) 4097
counted k l f R turn {s} ran splits none =
    let e = ended (TakesLot k l) R (λ t p. Counting f (k.meaning t.0) (k.meaning s.0) p.1) (λ t u x p q j e c. counting_next e j (splits _ _ _ e) _ _ refl (turn p x q c))
    ran.0 ran.2 ran.3 record { small = omega arith; same = omega arith } in
    counting_end {T = k.meaning e.0.0} e.2 e.3 none

-- ---- the row that is named, with k rows before it
abbrev raised : ℕ → Option ℕ → Option ℕ
raised k o = option_map (λ r. k + r) o

raised_first : (k l : ℕ) (x y : Option ℕ) (r : ℕ) → x ≡ Some r → raised k (first_named l x y) ≡ Some (k + r)
raised_first k l x y r e = ap (λ z. option_map (λ r. k + r) (first_named l z y)) e

raised_next : (k l : ℕ) (x y : Option ℕ) → x ≡ None → raised k (first_named l x y) ≡ raised (k + l) y
raised_next k l x None e = ap (λ z. option_map (λ r. k + r) (first_named l z None)) e
raised_next k l x (Some r) e = ap (λ z. option_map (λ r. k + r) (first_named l z (Some r))) e ∙ ap Some (omega arith)

record Passing (ask : Meaning → List ℕ → Type 0) (q : Meaning → Cells → Option ℕ) (T all : Meaning) (rest cells : List ℕ) (passed : ℕ) : Type 0 where
  pub asked : ask T rest
  pub rows : passed + T.rows ≡ all.rows
  pub same : raised passed (q T (table_of rest)) ≡ q all (table_of cells)

module _ {ask : Meaning → List ℕ → Type 0} {q : Meaning → Cells → Option ℕ} (naming : Naming ask q) where
  passing_end : {T all : Meaning} {rest cells : List ℕ} {passed : ℕ} → Passing ask q T all rest cells passed → T ≡ nothing → None ≡ q all (table_of cells)
  passing_end {rest = rest} {passed = passed} inv e = ap (raised passed) (sym (ap (λ M. q M (table_of rest)) e ∙ naming.none (table_of rest))) ∙ inv.same

  module _ {T m n : Meaning} (e : Parted T m n) {all : Meaning} {rest f cells : List ℕ} {passed : ℕ} (inv : Passing ask q T all rest cells passed) (ef : f ≡ take (17 * cell_rows m) rest) (o : Option ℕ) (eo : o ≡ q m (table_of f)) where
    passing_below : (r : ℕ) → o ≡ Some r → passed + r < all.rows
    passing_below r is = let s = rows_of_lem e in let k = inv.rows in let l = naming.below m f (naming.first e rest f ef inv.asked) o eo r is in omega arith

    passing_here : (r : ℕ) → o ≡ Some r → Some (passed + r) ≡ q all (table_of cells)
    passing_here r is = let s = drop (17 * cell_rows m) rest in
        sym (raised_first passed m.rows (q m (table_of f)) (q n (table_of s)) r (sym eo ∙ is)) ∙ ap (raised passed) (sym (naming.splits e rest f s ef refl)) ∙ inv.same

    passing_next : o ≡ None → {s : List ℕ} → s ≡ drop (17 * cell_rows m) rest → (k : ℕ) → k ≡ passed + m.rows → Passing ask q n all s cells k
    passing_next is {s} es k ek =
        let l = rows_of_lem e in
        let j = inv.rows in
        record {
          asked = naming.next e rest s es inv.asked;
          rows = omega arith;
          same = ap (λ i. raised i (q n (table_of s))) ek ∙ sym (raised_next passed m.rows (q m (table_of f)) (q n (table_of s)) (sym eo ∙ is)) ∙ ap (raised passed) (sym (naming.splits e rest f s ef es)) ∙ inv.same;
        }

raised_none : (k : ℕ) (o : Option ℕ) → None ≡ raised k o → o ≡ None
raised_none k None e = refl
raised_none k (Some r) e = cc

raised_some : (k y : ℕ) (o : Option ℕ) → Some y ≡ raised k o → (r : ℕ) × (o ≡ Some r) × (Some y ≡ Some (k + r))
raised_some k y None e = cc
raised_some k y (Some r) e = (r, refl, e)

-- by `find_map` over the parts
module _ {C L F : Type 0} (k : Chain C L) (l : Lot L) {ask : Meaning → List ℕ → Type 0} {q : Meaning → Cells → Option ℕ} (naming : Naming ask q) (g : Mut F (Part L × Unit {0}) (Option ℕ)) (f : F) (s : Parts C L k l)
    {c : C} {b : List ℕ} (ec : s.chain ≡ c) (eb : s.rest.bytes.now ≡ b) (ez : s.passed ≡ 0) (whole : ask (k.meaning c) b)
    (turn : (x : Part L) (r : Option ℕ) (h : F) → Called g f (x, tt) r h → (h ≡ f) × (r ≡ raised x.before (q (l.meaning x.lot) (table_of x.cells.bytes.now)))) where
  abbrev left : Parts C L k l → Type 0
  left u = Passing ask q (k.meaning u.chain) (k.meaning c) u.rest.bytes.now b u.passed

  raised_zero : (o : Option ℕ) → raised 0 o ≡ o
  raised_zero None = refl
  raised_zero (Some r) = ap Some (omega arith)

  left_all : left s
  left_all = record {
    asked = subst (ask (k.meaning s.chain)) (sym eb) (subst (λ x. ask (k.meaning x) b) (sym ec) whole);
    rows = let e = ap (λ x. (k.meaning x).rows) ec in omega arith;
    same = ap₂ (λ n o. raised n o) ez (ap₂ (λ x y. q (k.meaning x) (table_of y)) ec eb) ∙ raised_zero _;
  }

  left_next : (u w : Parts C L k l) (x : Part L) → left u → TakesPart k l u (Some x) w → Called g f (x, tt) None f → left w
  left_next u w x j e d = passing_next naming e.two j e.front _ refl (raised_none x.before _ (turn x None f d).1) e.rest _ e.passed

  pub named_can : ((x : Part L) → ask (l.meaning x.lot) x.cells.bytes.now → ((r : ℕ) → q (l.meaning x.lot) (table_of x.cells.bytes.now) ≡ Some r → x.before + r < (k.meaning c).rows) → Takes g f (x, tt)) → CallableWhile (TakesPart k l) g None s f
  named_can asks = find_can (TakesPart k l) g f left left_all (λ x r h d. (turn x r h d).0) left_next
      (λ u w x j e. asks x (naming.first e.two _ _ e.front j.asked) (λ r is. let below = passing_below naming e.two j e.front _ refl r is in let before = e.before in omega arith))

  pub named : (u : Parts C L k l) (r : Option ℕ) → FindsMapped (TakesPart k l) g s f r u → SomeRun (TakesPart k l) s (λ p. MatchOption r (IsTrue p.whole × AllItemsGive p g f None) (λ y. (i : ℕ) × (i < p.len) × (p.len ≡ i + 1) × IsFirstToGive p g f (Some y) None i))
      → r ≡ q (k.meaning c) (table_of b)
  named u None ran runs = let o = found (TakesPart k l) g f left left_all (λ x r h d. (turn x r h d).0) left_next {u = u} None ran runs in passing_end naming o.2 o.3
  named u (Some y) ran runs =
      let o = found (TakesPart k l) g f left left_all (λ x r h d. (turn x r h d).0) left_next {u = u} (Some y) ran runs in
      let z = raised_some o.2.before y _ (turn o.2 (Some y) f o.5).1 in
      z.2 ∙ ap (λ n. Some (n + z.0)) o.4.before ∙ passing_here naming o.4.two o.3 o.4.front _ refl z.0 z.1

-- ---- the power in one area and quarter
record Netting (a t : ℕ) (T all : Meaning) (rest cells : List ℕ) (total : ℤ) : Type 0 where
  pub ready : Ready T rest
  pub same : total +ℤ lot_net T (table_of rest) a t ≡ lot_net all (table_of cells) a t

netting_next : {T m n : Meaning} → Parted T m n → {a t : ℕ} {all : Meaning} {rest f s cells : List ℕ} {total : ℤ} → Netting a t T all rest cells total → f ≡ take (17 * cell_rows m) rest → s ≡ drop (17 * cell_rows m) rest →
    (v x : ℤ) → v ≡ lot_net m (table_of f) a t → x ≡ total +ℤ v → Netting a t n all s cells x
netting_next e {a} {t} {all} {rest} {f} {s} inv ef es v x ev ex =
    let step = net_of_lem e rest f s ef es a t in let k = inv.same in record { ready = next_ready e es inv.ready; same = omega (arith, ints) }

-- what has been summed is within the limit of all and of the rest
netting_within : {a t : ℕ} {T all : Meaning} {rest cells : List ℕ} {total : ℤ} → Netting a t T all rest cells total → Duties T → Duties all → Ready all cells → a < 32 → t < 4 → nat_abs total ≤ 1638383616
netting_within {a} {t} {T} {all} {rest} {cells} inv dT da r ha ht =
    let x = net_limit T dT rest inv.ready a t ha ht in
    let y = net_limit all da cells r a t ha ht in
    let few = inv.ready.sized.few in
    let few-all = r.sized.few in
    let k = inv.same in
    omega (arith, ints)

netting_end : {a t : ℕ} {T all : Meaning} {rest cells : List ℕ} {total : ℤ} → Netting a t T all rest cells total → T ≡ nothing → total ≡ lot_net all (table_of cells) a t
netting_end {a} {t} {T} {rest = rest} inv e =
    let z : lot_net T (table_of rest) a t ≡ pos 0 = ap (λ M. lot_net M (table_of rest) a t) e ∙ nothing_net (table_of rest) a t in
    let k = inv.same in
    omega (arith, ints)

module _ {C L F : Type 0} (k : Chain C L) (l : Lot L) (a t : ℕ) (g : Mut F (Part L × Unit {0}) ℤ) {f : F} {m : Map (Parts C L k l) F} {s : Parts C L k l} (es : map_source m ≡ s) (ef : map_callee m ≡ f)
    {c : C} {b : List ℕ} (ec : s.chain ≡ c) (eb : s.rest.bytes.now ≡ b) (ready : Ready (k.meaning c) b)
    (turn : (x : Part L) (v : ℤ) (h : F) → Called g f (x, tt) v h → (h ≡ f) × (v ≡ lot_net (l.meaning x.lot) (table_of x.cells.bytes.now) a t)) where
  abbrev netted : Parts C L k l → ℤ → Type 0
  netted u v = Netting a t (k.meaning u.chain) (k.meaning c) u.rest.bytes.now b v

  netted_none : netted s (pos 0)
  netted_none =
      let same : lot_net (k.meaning s.chain) (table_of s.rest.bytes.now) a t ≡ lot_net (k.meaning c) (table_of b) a t = ap₂ (λ x y. lot_net (k.meaning x) (table_of y) a t) ec eb in
      record { ready = subst (Ready (k.meaning s.chain)) (sym eb) (subst (λ x. Ready (k.meaning x) b) (sym ec) ready); same = omega (arith, ints) }

  netted_next : (u w : Parts C L k l) (x : Part L) (q v : ℤ) (h : F) → netted u q → TakesPart k l u (Some x) w → Called g f (x, tt) v h → (h ≡ f) × netted w (q +ℤ v)
  netted_next u w x q v h j e d = let o = turn x v h d in (o.0, netting_next e.two j e.front e.rest v _ o.1 refl)

  pub net_can : ((x : Part L) → Ready (l.meaning x.lot) x.cells.bytes.now → Takes g f (x, tt)) → CallableOnAll (TakesPart k l) g (map_source m) (map_callee m)
  net_can ask = sum_can (TakesPart k l) g es ef netted netted_none netted_next (λ u w x q j e. ask x (first_ready e.two e.front j.ready))

  pub net_fits : a < 32 → t < 4 → EachRunFrom (map_steps (TakesPart k l) g) m (λ u. FitsSigned w64 (fold ◌+ℤ◌ (pos 0) u.items))
  net_fits ha ht = sum_fits (TakesPart k l) g es ef netted netted_none netted_next
      (λ u q j. let o = netting_within j (k.duties u.chain) (k.duties c) ready ha ht in omega (arith, ints))

  pub net_sum : (xs : List ℤ) → Drains (map_steps (TakesPart k l) g) m xs → fold ◌+ℤ◌ (pos 0) xs ≡ lot_net (k.meaning c) (table_of b) a t
  net_sum xs d = let e = sum_ends (TakesPart k l) g es ef netted netted_none netted_next xs d in netting_end e.2 e.3

-- ---- the best surplus
record Topping (p : Prices) (T all : Meaning) (total : ℤ) : Type 0 where
  pub few : T.rows ≤ most_lot_rows
  pub same : total +ℤ T.best p ≡ all.best p

topping_next : {T m n : Meaning} → Parted T m n → {p : Prices} {all : Meaning} {total : ℤ} → Topping p T all total → (v x : ℤ) → v ≡ m.best p → x ≡ total +ℤ v → Topping p n all x
topping_next e {p} inv v x ev ex =
    let step = best_of_lem e p in let s = rows_of_lem e in let k = inv.few in let j = inv.same in record { few = omega arith; same = omega (arith, ints) }

topping_within : {p : Prices} {T all : Meaning} {total : ℤ} → Topping p T all total → Duties T → Duties all → Quoted p → Capped p → all.rows ≤ most_lot_rows → nat_abs total ≤ 81920000000000000
topping_within {p} {T} {all} inv dT da quoted cap few =
    let x = best_low T dT inv.few p quoted in
    let y = best_low all da few p quoted in
    let w = (dT.limited inv.few).best p quoted cap in
    let z = (da.limited few).best p quoted cap in
    let few-T = inv.few in
    let k = inv.same in
    omega (arith, ints)

module _ {C L F : Type 0} (k : Chain C L) (l : Lot L) (p : Prices) (g : Mut F (L × Unit {0}) ℤ) {f : F} {m : Map (Links C) F} {s : Links C} (es : map_source m ≡ s) (ef : map_callee m ≡ f) (few : (k.meaning s.0).rows ≤ most_lot_rows)
    (turn : (x : L) (v : ℤ) (h : F) → Called g f (x, tt) v h → (h ≡ f) × (v ≡ (l.meaning x).best p)) where
  abbrev topped : Links C → ℤ → Type 0
  topped t v = Topping p (k.meaning t.0) (k.meaning s.0) v

  topped_none : topped s (pos 0)
  topped_none = record { few = few; same = omega (arith, ints) }

  topped_next : (t u : Links C) (x : L) (q v : ℤ) (h : F) → topped t q → TakesLot k l t (Some x) u → Called g f (x, tt) v h → (h ≡ f) × topped u (q +ℤ v)
  topped_next t u x q v h j e c = let o = turn x v h c in (o.0, topping_next e j v _ o.1 refl)

  pub best_can : ((x : L) → (l.meaning x).rows ≤ most_lot_rows → Takes g f (x, tt)) → CallableOnAll (TakesLot k l) g (map_source m) (map_callee m)
  best_can ask = sum_can (TakesLot k l) g es ef topped topped_none topped_next (λ t u x q j e. ask x (let o = rows_of_lem e in let h = j.few in omega arith))

  pub best_fits : Quoted p → Capped p → EachRunFrom (map_steps (TakesLot k l) g) m (λ u. FitsSigned w64 (fold ◌+ℤ◌ (pos 0) u.items))
  best_fits quoted cap = sum_fits (TakesLot k l) g es ef topped topped_none topped_next
      (λ t q j. let o = topping_within j (k.duties t.0) (k.duties s.0) quoted cap few in omega (arith, ints))

  pub best_sum : (xs : List ℤ) → Drains (map_steps (TakesLot k l) g) m xs → fold ◌+ℤ◌ (pos 0) xs ≡ (k.meaning s.0).best p
  best_sum xs d =
      let e = sum_ends (TakesLot k l) g es ef topped topped_none topped_next xs d in
      let j = e.2.same in let z = ap (λ M. M.best p) e.3 in omega (arith, ints)

-- ---- the figure of one row
pub record Seeking {A : Type 0} (w : Meaning → Cells → ℕ → A) (T all : Meaning) (rest cells : List ℕ) (left row : ℕ) : Type 0 where
  pub ready : Ready T rest
  pub inside : left < T.rows
  pub same : w T (table_of rest) left ≡ w all (table_of cells) row

pub seeking_none : {A : Type 0} {w : Meaning → Cells → ℕ → A} {all : Meaning} {cells : List ℕ} {row : ℕ} → Ready all cells → row < all.rows → Seeking w all all cells cells row row
seeking_none r h = record { ready = r; inside = h; same = refl }

module _ {T m n : Meaning} (e : Parted T m n) {A : Type 0} {w : Meaning → Cells → ℕ → A} {all : Meaning} {rest cells : List ℕ} {left row : ℕ} (inv : Seeking w T all rest cells left row) (k : ℕ) (ek : k ≡ min m.rows 4097) where
  pub seeking_here : Figure w → {f : List ℕ} → f ≡ take (17 * cell_rows m) rest → left < k → w m (table_of f) left ≡ w all (table_of cells) row
  seeking_here figure ef h = figure.first e rest _ ef left (omega arith) ∙ inv.same

  pub seeking_next : Figure w → {s : List ℕ} → s ≡ drop (17 * cell_rows m) rest → k ≤ left → Seeking w n all s cells (left - k) row
  seeking_next figure {s} es h =
      let few = inv.ready.sized.few in
      let size = rows_of_lem e in
      let below = inv.inside in
      let same : k ≡ m.rows = omega arith in
      record {
        ready = next_ready e es inv.ready;
        inside = omega arith;
        same = ap (λ j. w n (table_of s) (left - j)) same ∙ figure.next e rest s es left (omega arith) ∙ inv.same;
      }

-- a part that the row stands in
pub record Stands {L : Type 0} (l : Lot L) (all : Meaning) (cells : List ℕ) (row : ℕ) (x : Part L) : Type 0 where
  pub ready : Ready (l.meaning x.lot) x.cells.bytes.now
  pub before : x.before ≤ row
  pub inside : row - x.before < (l.meaning x.lot).rows
  pub same : worth_and_net (l.meaning x.lot) (table_of x.cells.bytes.now) (row - x.before) ≡ worth_and_net all (table_of cells) row

not_below : (x y : ℕ) → false ≡ nat_lt x y → y ≤ x
not_below x y e = grind (arith, nat_tests)

is_below : (x y : ℕ) → true ≡ nat_lt x y → x < y
is_below x y e = grind (arith, nat_tests)

-- by `find` over the parts
module _ {C L F : Type 0} (k : Chain C L) (l : Lot L) (row : ℕ) (g : Mut F (Bor (Part L) × Unit {0}) Bool) (f : F) (s : Parts C L k l)
    {c : C} {b : List ℕ} (ec : s.chain ≡ c) (eb : s.rest.bytes.now ≡ b) (ez : s.passed ≡ 0) (whole : Ready (k.meaning c) b) (inside : row < (k.meaning c).rows)
    (turn : (x : Part L) (r : Bool) (h : F) → CalledAt g f x r h → (h ≡ f) × (r ≡ nat_lt (row - x.before) x.rows)) where
  record Sought (u : Parts C L k l) : Type 0 where
    pub before : u.passed ≤ row
    pub seeks : Seeking worth_and_net (k.meaning u.chain) (k.meaning c) u.rest.bytes.now b (row - u.passed) row

  sought_all : Sought s
  sought_all =
      let e = ap (λ x. (k.meaning x).rows) ec in
      record {
        before = omega arith;
        seeks = record {
          ready = subst (Ready (k.meaning s.chain)) (sym eb) (subst (λ x. Ready (k.meaning x) b) (sym ec) whole);
          inside = omega arith;
          same = ap₂ (λ x y. worth_and_net (k.meaning x) (table_of y) (row - s.passed)) ec eb ∙ ap (worth_and_net (k.meaning c) (table_of b)) (omega arith);
        };
      }

  sought_next : (u w : Parts C L k l) (x : Part L) → Sought u → TakesPart k l u (Some x) w → CalledAt g f x false f → Sought w
  sought_next u w x j e d =
      let before = e.before in
      let passed = e.passed in
      let from = j.before in
      let late = not_below _ _ (turn x false f d).1 in
      let few = j.seeks.ready.sized.few in
      let rows = rows_of_lem e.two in
      record {
        before = omega arith;
        seeks = subst (λ i. Seeking worth_and_net (k.meaning w.chain) (k.meaning c) w.rest.bytes.now b i row) (omega arith) (seeking_next e.two j.seeks _ refl figures e.rest (omega arith));
      }

  pub standing_can : ((x : Part L) → x.before ≤ row → TakesAt g f x) → CallableWhileAt (TakesPart k l) g false s f
  standing_can asks = first_can (TakesPart k l) g f Sought sought_all (λ x r h d. (turn x r h d).0) sought_next
      (λ u w x j e. asks x (let before = e.before in let from = j.before in omega arith))

  standing : (u : Parts C L k l) (o : Option (Part L)) → FindsItem (TakesPart k l) g s f o u → MatchOption o ⊥ (Stands l (k.meaning c) b row)
  standing u None ran =
      let o = first (TakesPart k l) g f Sought sought_all (λ x r h d. (turn x r h d).0) sought_next {u = u} None ran in
      let z = ap (λ M. M.rows) o.2 in
      let i = o.1.seeks.inside in
      omega arith
  standing u (Some x) ran =
      let o = first (TakesPart k l) g f Sought sought_all (λ x r h d. (turn x r h d).0) sought_next {u = u} (Some x) ran in
      let e = o.2 in
      let before = e.before in
      let from = o.1.before in
      let here = is_below _ _ (turn x true f o.3).1 in
      record {
        ready = first_ready e.two e.front o.1.seeks.ready;
        before = omega arith;
        inside = omega arith;
        same = ap (λ i. worth_and_net (l.meaning x.lot) (table_of x.cells.bytes.now) (row - i)) before ∙ seeking_here e.two o.1.seeks _ refl figures e.front (omega arith);
      }

  pub stands : (u : Parts C L k l) {o p : Option (Part L)} → FindsItem (TakesPart k l) g s f o u → o ≡ p → MatchOption p ⊥ (Stands l (k.meaning c) b row)
  stands u {o} ran is = subst (λ p. MatchOption p ⊥ (Stands l (k.meaning c) b row)) is (standing u o ran)
