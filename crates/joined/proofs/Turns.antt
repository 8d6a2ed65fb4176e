-- Totals of an iterator's items: J holds of the iterator and of the total at the start, and each turn keeps it.
use Rattle.std.proofs.Common.{◌≡◌, ℕ, ◌+◌, ◌<◌, Bool, true, false, Bor, List, [], ◌∷◌, ℤ, pos, ◌+ℤ◌, Some, None, Option, suc, FitsSigned, w64, fold, refl, subst, sym}
use Rattle.std.specs.Fn.{Mut, Called, Takes, CalledAt, TakesAt}
use Rattle.std.specs.declared.iter.Map.{Map}
use Rattle.std.specs.Iterator.{Yields, YieldsThen, Drains, CallableAtEachTurn, CallableOnAll, CallableWhile, CallableWhileAt, FindsItem, FindsMapped}
use Rattle.std.specs.Iterator.Adapters.{map_source, map_callee, map_steps}
use Rattle.std.specs.Iterator.Runs.{EachRunFrom, SomeRun, AllItemsGive, IsFirstToGive}
use Rattle.std.specs.List.{FoldsTo}
use Rattle.std.specs.Bool.{IsTrue}
use Rattle.std.specs.Option.{MatchOption}
use Rattle.std.proofs.iter.runs.Lists.{Everywhere}
use Rattle.std.proofs.iter.runs.Made.{runs_from_along, took, each_of}

module _ {S A P : Type 0} (steps : S → Option A → S → Type 0) (R : P → A → P → Type 0) (J : S → P → Type 0) (next : (s t : S) (x : A) (p q : P) → J s p → steps s (Some x) t → R p x q → J t q) where
  along : (xs : List A) (s t : S) (p q : P) → J s p → Yields steps s xs t → FoldsTo R p xs q → J t q
  along [] s t p q j y f = subst (J t) f (subst (λ u. J u p) y j)
  along (x ∷ xs) s t p q j y f = along xs y.0 t f.0 q (next s y.0 x p f.0 j y.1 f.1) y.2 f.2

  -- what each turn asks follows from J
  pub asked : {Q : P → A → Type 0} {s : S} {p : P} → J s p → ((s t : S) (x : A) (p : P) → J s p → steps s (Some x) t → Q p x) → CallableAtEachTurn steps R Q s p
  asked {s = s} {p = p} j ask = record { at = λ xs t q x u y f e. ask t u x q (along xs s t p q j y f) e }

  -- where `None` comes
  pub ended : {s : S} {p q : P} (xs : List A) → Drains steps s xs → FoldsTo R p xs q → J s p → (t : S) × (u : S) × J t q × steps t None u
  ended {s} {p} {q} xs d f j = (d.1.0, d.0, along xs s d.1.0 p q j d.1.1 f, d.1.2)

-- the sum of what f answers, which the calls leave as it was
module _ {S A F : Type 0} (steps : S → Option A → S → Type 0) (g : Mut F (A × Unit {0}) ℤ) {f : F} {m : Map S F} {s : S} (es : map_source m ≡ s) (ef : map_callee m ≡ f) (J : S → ℤ → Type 0) (start : J s (pos 0))
    (next : (t u : S) (x : A) (p v : ℤ) (h : F) → J t p → steps t (Some x) u → Called g f (x, tt) v h → (h ≡ f) × J u (p +ℤ v)) where
  summed : (xs : List ℤ) (a b : Map S F) (p : ℤ) → map_callee a ≡ f → J (map_source a) p → Yields (map_steps steps g) a xs b → J (map_source b) (fold ◌+ℤ◌ p xs)
  summed [] a b p e j y = subst (λ k. J (map_source k) p) y j
  summed (v ∷ xs) a b p e j y =
      let k = next (map_source a) (map_source y.0) y.1.0 p v (map_callee y.0) j y.1.1 (subst (λ h. Called g h (y.1.0, tt) v (map_callee y.0)) e y.1.2) in
      summed xs y.0 b (p +ℤ v) k.0 k.1 y.2

  began : J (map_source m) (pos 0)
  began = subst (λ k. J k (pos 0)) (sym es) start

  pub sum_can : ((t u : S) (x : A) (p : ℤ) → J t p → steps t (Some x) u → Takes g f (x, tt)) → CallableOnAll steps g (map_source m) (map_callee m)
  sum_can ask = asked steps _ (λ t h. (p : ℤ) × J t p × (h ≡ f))
      (λ t u x h i j e c. let k = next t u x j.0 c.0 i j.1 e (subst (λ h. Called g h (x, tt) c.0 i) j.2 c.1) in (j.0 +ℤ c.0, k.1, k.0))
      (pos 0, began, ef) (λ t u x h j e. subst (λ h. Takes g h (x, tt)) (sym j.2) (ask t u x j.0 j.1 e))

  pub sum_fits : ((t : S) (p : ℤ) → J t p → FitsSigned w64 p) → EachRunFrom (map_steps steps g) m (λ p. FitsSigned w64 (fold ◌+ℤ◌ (pos 0) p.items))
  sum_fits within = runs_from_along _ _ (λ xs. FitsSigned w64 (fold ◌+ℤ◌ (pos 0) xs)) (λ xs t y. within (map_source t) _ (summed xs m t (pos 0) ef began y))

  pub sum_ends : (xs : List ℤ) → Drains (map_steps steps g) m xs → (t : S) × (u : S) × J t (fold ◌+ℤ◌ (pos 0) xs) × steps t None u
  sum_ends xs d = (map_source d.1.0, map_source d.0, summed xs m d.1.0 (pos 0) ef began d.1.1, d.1.2.0)

-- J holds of the iterator for as long as calls C leave f as it was
module _ {S A F : Type 0} (steps : S → Option A → S → Type 0) (C : F → A → F → Type 0) (f : F) (J : S → Type 0) (same : (x : A) (h : F) → C f x h → h ≡ f) (next : (t u : S) (x : A) → J t → steps t (Some x) u → C f x f → J u) where
  abbrev kept : S → F → Type 0
  kept t h = J t × (h ≡ f)

  kept_next : (t u : S) (x : A) (h i : F) → kept t h → steps t (Some x) u → C h x i → kept u i
  kept_next t u x h i j e c =
      let k : C f x i = subst (λ h. C h x i) j.1 c in
      let o = same x i k in
      (next t u x j.0 e (subst (λ h. C f x h) o k), o)

  pub kept_can : {T : F → A → Type 0} {s : S} → J s → ((t u : S) (x : A) → J t → steps t (Some x) u → T f x) → CallableAtEachTurn steps C T s f
  kept_can {T} start ask = asked steps C kept kept_next (start, refl) (λ t u x h j e. subst (λ h. T h x) (sym j.1) (ask t u x j.0 e))

  pub kept_along : (xs : List A) (s t : S) (h : F) → J s → Yields steps s xs t → FoldsTo C f xs h → kept t h
  kept_along xs s t h start y c = along steps C kept kept_next xs s t f h (start, refl) y c

-- what `find_map` finds by f, which the calls leave as it was: J holds of the iterator for as long as f answers `None`
module _ {S A F B : Type 0} (steps : S → Option A → S → Type 0) (g : Mut F (A × Unit {0}) (Option B)) (f : F) (J : S → Type 0) {s : S} (start : J s) (same : (x : A) (r : Option B) (h : F) → Called g f (x, tt) r h → h ≡ f)
    (next : (t u : S) (x : A) → J t → steps t (Some x) u → Called g f (x, tt) None f → J u) where
  abbrev missed : F → A → F → Type 0
  missed p x q = Called g p (x, tt) None q

  pub find_can : ((t u : S) (x : A) → J t → steps t (Some x) u → Takes g f (x, tt)) → CallableWhile steps g None s f
  find_can ask = kept_can steps missed f J (λ x h. same x None h) next start ask

  each_none : (xs : List A) → Everywhere xs (λ x. Called g f (x, tt) None f) → FoldsTo missed f xs f
  each_none [] e = refl
  each_none (x ∷ xs) e = (f, e 0, each_none xs (λ k. e (suc k)))

  pub found : {u : S} (r : Option B) → FindsMapped steps g s f r u → SomeRun steps s (λ p. MatchOption r (IsTrue p.whole × AllItemsGive p g f None) (λ y. (i : ℕ) × (i < p.len) × (p.len ≡ i + 1) × IsFirstToGive p g f (Some y) None i))
      → MatchOption r ((t : S) × (u : S) × J t × steps t None u) (λ y. (t : S) × (u : S) × (x : A) × J t × steps t (Some x) u × Called g f (x, tt) (Some y) f)
  found None ran runs =
      let p = runs.0 in
      let d = took p in
      let all = each_of p _ (runs.2.1 (λ a r h c. same a.0 r h c)) in
      let y = subst (λ k. Yields steps k p.items d.0) runs.1 d.1 in
      let n = d.2 runs.2.0 in
      (d.0, n.0, (kept_along steps missed f J (λ x h. same x None h) next p.items s d.0 f start y (each_none p.items all)).0, n.1)
  found {u} (Some y) ran runs = by ran.1 ran.3 ran.5
    where
      by : (o : Option A) → YieldsThen steps s ran.0 o u → MatchOption o (Some y ≡ None) (λ x. (h : F) × Called g ran.2 (x, tt) (Some y) h) → (t : S) × (u : S) × (x : A) × J t × steps t (Some x) u × Called g f (x, tt) (Some y) f
      by None t e = cc
      by (Some x) t e =
          let j = kept_along steps missed f J (λ x h. same x None h) next ran.0 s t.0 ran.2 start t.1 ran.4 in
          let k : Called g f (x, tt) (Some y) e.0 = subst (λ h. Called g h (x, tt) (Some y) e.0) j.1 e.1 in
          (t.0, u, x, j.0, t.2, subst (λ h. Called g f (x, tt) (Some y) h) (same x (Some y) e.0 k) k)

-- what `find` finds by f, which the calls leave as it was: J holds of the iterator for as long as f answers false
module _ {S A F : Type 0} (steps : S → Option A → S → Type 0) (g : Mut F (Bor A × Unit {0}) Bool) (f : F) (J : S → Type 0) {s : S} (start : J s) (same : (x : A) (r : Bool) (h : F) → CalledAt g f x r h → h ≡ f)
    (next : (t u : S) (x : A) → J t → steps t (Some x) u → CalledAt g f x false f → J u) where
  abbrev failed : F → A → F → Type 0
  failed p x q = CalledAt g p x false q

  pub first_can : ((t u : S) (x : A) → J t → steps t (Some x) u → TakesAt g f x) → CallableWhileAt steps g false s f
  first_can ask = kept_can steps failed f J (λ x h. same x false h) next start ask

  pub first : {u : S} (r : Option A) → FindsItem steps g s f r u → MatchOption r ((t : S) × J t × steps t None u) (λ x. (t : S) × J t × steps t (Some x) u × CalledAt g f x true f)
  first None ran = let t = ran.2 in (t.0, (kept_along steps failed f J (λ x h. same x false h) next ran.0 s t.0 ran.1 start t.1 ran.3).0, t.2)
  first (Some x) ran =
      let t = ran.2 in
      let e = ran.4 in
      let j = kept_along steps failed f J (λ x h. same x false h) next ran.0 s t.0 ran.1 start t.1 ran.3 in
      let k : CalledAt g f x true e.0 = subst (λ h. CalledAt g h x true e.0) j.1 e.1 in
      (t.0, j.0, t.2, subst (λ h. CalledAt g f x true h) (same x true e.0 k) k)
