-- Members that are read one after another.
use Rattle.std.proofs.Common.{◌≡◌, ℕ, ◌+◌, ◌<◌, ◌≤◌, Bool, true, false, cond, ◌&&◌, eqb, List, [], ◌∷◌, ◌++◌, length, take, set, sym, refl, ap, ◌∙◌, subst, arith, length-set, length-append, length-take-le, take_all, add-one}
use Rattle.std.proofs.lemmas.Bool.{and_parts, eqb-true, eq-eqb}
use Rattle.std.proofs.Math.Seq.{take-append_seam}
use Rattle.std.proofs.lemmas.List.{take_more_set}
use Rattle.bid.specs.declared.fields.BidFields.{BidFields}
use Rattle.bid.specs.declared.lawful.Bid.{Bid}
use Rattle.book.specs.Stands.{due_of, areas_of, is_one, area_on}
use Rattle.book.specs.declared.row.Row.{Row}
use Rattle.book.specs.declared.row.Row.TheVariants as kind
use Rattle.book.specs.declared.stand.Areas.TheVariants.{Same, Mixed}
use Rattle.book.specs.declared.stand.Stand.{Stand}
use Rattle.group.specs.Group.{in_area, one_area}
use Rattle.sealed.specs.Ahead.{ahead}
use Rattle.sealed.specs.Members.{bid_rows, MemberOn, Begun, Gathered}

rows_push : (bs : List Bid) (b : Bid) (rs : List Row) → bid_rows bs ++ (kind.Bid b.fields ∷ rs) ≡ bid_rows (bs ++ (b ∷ [])) ++ rs
rows_push [] b rs = refl
rows_push (x ∷ bs) b rs = ap (λ qs. kind.Bid x.fields ∷ qs) (rows_push bs b rs)

and_yes : (b : Bool) → (b && true) ≡ b
and_yes true = refl
and_yes false = refl

and_assoc : (a b c : Bool) → (a && (b && c)) ≡ ((a && b) && c)
and_assoc true b c = refl
and_assoc false b c = refl

area_push : (a : ℕ) (bs : List Bid) (b : Bid) → in_area a (bs ++ (b ∷ [])) ≡ (in_area a bs && eqb b.fields.area a)
area_push a [] b = and_yes (eqb b.fields.area a)
area_push a (x ∷ bs) b = ap (λ v. eqb x.fields.area a && v) (area_push a bs b) ∙ and_assoc (eqb x.fields.area a) (in_area a bs) (eqb b.fields.area a)

one_from_in : (a : ℕ) (bs : List Bid) → in_area a bs ≡ true → one_area bs ≡ true
one_from_in a [] h = refl
one_from_in a (b ∷ bs) h = let both = and_parts (eqb b.fields.area a) (in_area a bs) h in ap (λ k. in_area k bs) (eqb-true b.fields.area a both.0) ∙ both.1

-- the areas of members that are all of an area, or not, and one more
one_more : (v : Bool) (a y : ℕ) → area_on (cond v (Same a) Mixed) y ≡ cond (v && eqb y a) (Same a) Mixed
one_more true a y = refl
one_more false a y = refl

is_one_test : (v : Bool) (a : ℕ) → is_one (cond v (Same a) Mixed) ≡ v
is_one_test true a = refl
is_one_test false a = refl

-- of n members these were read from (s, t) on, the first of some area, and (e, u) is left
pub record Gathering (s : Stand) (t : List ℕ) (n : ℕ) (bs : List Bid) (e : Stand) (u : List ℕ) : Type 0 where
  pub of : ℕ
  pub rows : ahead s t ≡ bid_rows bs ++ ahead e u
  pub due : (due_of e) + length bs ≡ n
  pub areas : 0 < (due_of e) → areas_of e ≡ cond (in_area of bs) (Same of) Mixed
  pub area : (due_of e) ≡ 0 → in_area of bs ≡ true

gathering_first : {s e : Stand} {t u : List ℕ} {n : ℕ} (b : Bid) → Begun s n → MemberOn s b.fields.area e → ahead s t ≡ kind.Bid b.fields ∷ ahead e u → Gathering s t n (b ∷ []) e u
gathering_first b g m rows =
    let a = b.fields.area in
    let own : in_area a (b ∷ []) ≡ true = ap (λ v. v && true) (eq-eqb a a refl) in
    let x = m.due in
    let y = g.due in
    record {
      of = a;
      rows = rows;
      due = omega arith;
      areas = λ h. ap areas_of (m.on h) ∙ ap (λ x. area_on x a) g.areas ∙ ap (λ v. cond v (Same a) Mixed) (sym own);
      area = λ _. own;
    }

gathering_next : {s e f : Stand} {t u v : List ℕ} {n : ℕ} {bs : List Bid} → Gathering s t n bs e u → length bs < n → (b : Bid) → MemberOn e b.fields.area f → ahead e u ≡ kind.Bid b.fields ∷ ahead f v → Gathering s t n (bs ++ (b ∷ [])) f v
gathering_next {e = e} {f = f} {v = v} {bs = bs} g below b m rows =
    let a = g.of in
    let d = g.due in
    let left : 0 < (due_of e) = omega arith in
    let x = m.due in
    let l = length-append bs (b ∷ []) in
    let y = b.fields.area in
    let v0 = in_area a bs in
    let areas = ap (λ z. area_on z y) (g.areas left) ∙ one_more v0 a y ∙ ap (λ w. cond w (Same a) Mixed) (sym (area_push a bs b)) in
    let same = ap is_one areas ∙ is_one_test (in_area a (bs ++ (b ∷ []))) a in
    record {
      of = a;
      rows = g.rows ∙ ap (λ rs. bid_rows bs ++ rs) rows ∙ rows_push bs b (ahead f v);
      due = omega arith;
      areas = λ h. ap areas_of (m.on h) ∙ areas;
      area = λ h. sym same ∙ m.closes h;
    }

-- a first member and k more were read from (s, t) on, of n in all, and the places of the others are still to be filled
pub record Filling (s : Stand) (t : List ℕ) (n : ℕ) (k : ℕ) (places : List Bid) (e : Stand) (u : List ℕ) : Type 0 where
  pub one : Bid
  pub long : length places + 1 ≡ n
  pub read : Gathering s t n (one ∷ take k places) e u

pub filling_none : {s e : Stand} {t u : List ℕ} {n : ℕ} (b : Bid) (places : List Bid) → Begun s n → MemberOn s b.fields.area e → ahead s t ≡ kind.Bid b.fields ∷ ahead e u → length places + 1 ≡ n → Filling s t n 0 places e u
filling_none b places g m rows long = record { one = b; long = long; read = gathering_first b g m rows }

pub filling_due : {s e : Stand} {t u : List ℕ} {n k : ℕ} {places : List Bid} → Filling s t n k places e u → k < length places → 0 < (due_of e)
filling_due {k = k} {places} f h = let d = f.read.due in let l = f.long in let z = length-take-le k places (omega arith) in omega arith

pub filling_next : {s e f : Stand} {t u v : List ℕ} {n k : ℕ} {places : List Bid} → Filling s t n k places e u → k < length places → (b : Bid) → MemberOn e b.fields.area f → ahead e u ≡ kind.Bid b.fields ∷ ahead f v → Filling s t n (k + 1) (set places k b) f v
filling_next {s} {f = f} {t} {v = v} {n = n} {k} {places} g h b m rows =
    let l = g.long in
    let z = length-take-le k places (omega arith) in
    record {
      one = g.one;
      long = ap (λ j. j + 1) (length-set places k b) ∙ g.long;
      read = subst (λ bs. Gathering s t n (g.one ∷ bs) f v) (sym (take_more_set places k b h)) (gathering_next g.read (omega arith) b m rows);
    }

-- the first stands before the places, which are filled
pub filling_end : {s e : Stand} {t u : List ℕ} {n k : ℕ} {places : List Bid} {others : List Row} → Filling s t n k places e u → length places ≤ k → (b : Bid) → ahead s t ≡ kind.Bid b.fields ∷ others → (back : List Bid) → length (b ∷ (places ++ back)) ≡ 8 → Gathered s t n (b ∷ (places ++ back)) e u
filling_end {s} {e} {t = t} {u} {n = n} {k} {places} g h b first back long =
    let r = g.read in
    let whole : take k places ≡ places = take_all k places h in
    let rows : ahead s t ≡ kind.Bid g.one.fields ∷ (bid_rows places ++ ahead e u) = r.rows ∙ ap (λ bs. bid_rows (g.one ∷ bs) ++ ahead e u) whole in
    let same : g.one.fields ≡ b.fields = same_bid (sym rows ∙ first) in
    let front : take n (b ∷ (places ++ back)) ≡ b ∷ places = ap (λ m. take m (b ∷ (places ++ back))) (sym g.long ∙ add-one (length places)) ∙ ap (λ bs. b ∷ bs) (take-append_seam places back) in
    let d = r.due in
    let l = g.long in
    let z = ap length whole in
    let done : (due_of e) ≡ 0 = omega arith in
    record {
      long = long;
      rows = rows ∙ ap (λ x. kind.Bid x ∷ (bid_rows places ++ ahead e u)) same ∙ ap (λ bs. bid_rows bs ++ ahead e u) (sym front);
      area = ap one_area front ∙ ap (λ x. in_area x.area places) (sym same) ∙ ap (in_area g.one.fields.area) (sym whole) ∙ one_from_in r.of (g.one ∷ take k places) (r.area done);
      whole = done;
    }
  where
    same_bid : {x y : BidFields} {p q : List Row} → kind.Bid x ∷ p ≡ kind.Bid y ∷ q → x ≡ y
    same_bid e = cc
