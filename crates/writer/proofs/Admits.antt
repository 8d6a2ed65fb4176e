-- What a writer's tests tell.
use Rattle.std.proofs.Common.{◌≡◌, ℕ, ◌+◌, ◌<◌, ◌≤◌, Bool, true, false, leb, Some, Ok, Err, Option, Result, sym, refl, ap, ◌∙◌, leb-false, leb-true}
use borrow.Author.Tests.{lt-leb}
use Rattle.byte_layer.specs.declared.fault.Told.{Told}
use Rattle.byte_layer.specs.Fault.{fault}
use Rattle.units.specs.Limit.{is_area}
use Rattle.units.specs.Field.{judged}
use Rattle.units.proofs.Judged.{no_err}
use Rattle.bid.specs.declared.fields.BidFields.{BidFields}
use Rattle.bid.specs.Fields.{bid_fine}
use Rattle.bid.specs.Group.{group_fine, same_area}
use Rattle.need.specs.Fields.{need_fine}
use Rattle.border.specs.Fields.{border_placed, border_fine}
use Rattle.book.specs.declared.row.Row.{Row}
use Rattle.book.specs.declared.row.Row.TheVariants as kind
use Rattle.book.specs.Fault.{most_rows}
use Rattle.book.specs.Rows.{rowed, row_size, row_judged}
use Rattle.book.proofs.Steps.{cond_case}
use Rattle.writer.specs.declared.state.GroupUnderway.{GroupUnderway}
use Rattle.writer.specs.Admit.{roomed, unless, admitted, joined, member_admitted}

-- fields that were judged lawful are those that were handed in
rowed_same : {X : Type 0} (f : X → Row) (row : ℕ) (a b : Bool) (x : X) (o : Option Row) → rowed f (judged row a b x) ≡ Ok o → o ≡ Some (f x)
rowed_same f row true true x o e = let z : Some (f x) ≡ o = cc in sym z
rowed_same f row true false x o e = no_err (fault 24 row) o e
rowed_same f row false b x o e = no_err (fault 23 row) o e

row_same : (row : ℕ) (r : Row) (o : Option Row) → row_judged row r ≡ Ok o → o ≡ Some r
row_same row (kind.Bid f) o e = rowed_same kind.Bid row (is_area f.area) (bid_fine f.quarters) f o e
row_same row (kind.Group n) o e = rowed_same kind.Group row true (group_fine n) n o e
row_same row (kind.Need f) o e = rowed_same kind.Need row (is_area f.area) (need_fine f.elasticity f.quarters) f o e
row_same row (kind.Border f) o e = rowed_same kind.Border row (border_placed f.from f.to) (border_fine f.quarters) f o e

pub unlawful : (len at rows : ℕ) (r : Row) (e : Told) → rows < most_rows → row_judged rows r ≡ Err e → admitted len at rows r ≡ Err e
unfolding admitted
unlawful len at rows r e h f = rw (lt-leb most_rows rows h, f)

pub short : (len at rows : ℕ) (r : Row) (o : Option Row) (e : Told) → rows < most_rows → row_judged rows r ≡ Ok o → roomed len at rows (row_size r) ≡ Err e → admitted len at rows r ≡ Err e
unfolding admitted
short len at rows r o e h f g = rw (lt-leb most_rows rows h, f) (ap (unless (Ok o)) g)

pub fits : (len at rows : ℕ) (r : Row) (o : Option Row) → rows < most_rows → row_judged rows r ≡ Ok o → roomed len at rows (row_size r) ≡ Ok tt → admitted len at rows r ≡ Ok o
unfolding admitted
fits len at rows r o h f g = rw (lt-leb most_rows rows h, f) (ap (unless (Ok o)) g)

pub room_fits : (len at rows size : ℕ) → roomed len at rows size ≡ Ok tt → at + size ≤ len
room_fits len at rows size e = cond_case (leb (at + size) len) (Ok tt) (Err (fault 26 rows)) (Ok tt) e (λ h _. leb-true (at + size) len h) (λ _ p. no_err (fault 26 rows) tt p)

-- a row that was admitted
pub record Passes (len at rows : ℕ) (r : Row) (o : Option Row) : Type 0 where
  pub few : rows < most_rows
  pub room : at + row_size r ≤ len
  pub fine : row_judged rows r ≡ Ok (Some r)
  pub same : o ≡ Some r

unless_ok : {X : Type 0} (x : Result X Told) (y : Result (Unit {0}) Told) (z : X) → unless x y ≡ Ok z → (x ≡ Ok z) × (y ≡ Ok tt)
unless_ok (Err e) y z h = no_err e z h
unless_ok (Ok x) (Err e) z h = no_err e z h
unless_ok (Ok x) (Ok y) z h = (h, refl)

pub passes : (len at rows : ℕ) (r : Row) (o : Option Row) → admitted len at rows r ≡ Ok o → Passes len at rows r o
unfolding admitted
passes len at rows r o e =
    cond_case (leb most_rows rows) (Err (fault 22 most_rows)) (unless (row_judged rows r) (roomed len at rows (row_size r))) (Ok o) e
    (λ _ p. no_err (fault 22 most_rows) o p)
    (λ h p.
    let z = unless_ok (row_judged rows r) (roomed len at rows (row_size r)) o p in
    let s = row_same rows r o z.0 in
    record { few = leb-false most_rows rows h; room = room_fits len at rows (row_size r) z.1; fine = z.0 ∙ ap Ok s; same = s })

-- a row that was admitted as a member
pub joins : (x : Result (Option Row) Told) (group : ℕ) (first : Option ℕ) (area : ℕ) (o : Option Row) → joined x group first area ≡ Ok o → (x ≡ Ok o) × (same_area first area ≡ true)
joins (Err e) group first area o h = no_err e o h
joins (Ok x) group first area o h = cond_case (same_area first area) (Ok x) (Err (fault 25 group)) (Ok o) h (λ s p. (p, s)) (λ _ p. no_err (fault 25 group) o p)

-- a lawful row q that came of the fields of r is r
pub record Took (len at rows : ℕ) (r q : Row) (x : Result (Option Row) Told) : Type 0 where
  pub few : rows < most_rows
  pub room : at + row_size r ≤ len
  pub size : row_size q ≡ row_size r
  pub same : q ≡ r
  pub passed : x ≡ Ok (Some r)

took_row : (len at rows : ℕ) (r q : Row) (x : Result (Option Row) Told) → x ≡ Ok (Some q) → admitted len at rows r ≡ Ok (Some q) → Took len at rows r q x
took_row len at rows r q x h e =
    let k = passes len at rows r (Some q) e in
    let s : q ≡ r = inner k.same in
    record { few = k.few; room = k.room; size = ap row_size s; same = s; passed = h ∙ ap Ok k.same }
  where
    inner : Some q ≡ Some r → q ≡ r
    inner p = cc

pub took : (len at rows : ℕ) (r q : Row) → Ok (Some q) ≡ admitted len at rows r → Took len at rows r q (admitted len at rows r)
took len at rows r q e = took_row len at rows r q (admitted len at rows r) (sym e) (sym e)

pub member_took : (len : ℕ) (g : GroupUnderway) (f : BidFields) (q : Row) → Ok (Some q) ≡ member_admitted len g f → Took len g.book.length g.book.rows (kind.Bid f) q (member_admitted len g f)
member_took len g f q e =
    let x = admitted len g.book.length g.book.rows (kind.Bid f) in
    took_row len g.book.length g.book.rows (kind.Bid f) q (member_admitted len g f) (sym e) (joins x g.before.rows g.first f.area (Some q) (sym e)).0
