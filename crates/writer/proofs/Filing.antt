-- What a writer's calls make of a text that holds rows.
use Rattle.std.proofs.Common.{◌≡◌, ℕ, ◌+◌, ◌-◌, ◌<◌, ◌≤◌, Bool, true, false, cond, ◌&&◌, ltb, leb, List, [], ◌∷◌, ◌++◌, length, IfOk, Some, None, Ok, Err, Option, Result, unwrap_or, sym, refl, subst, ⊎_elim, append_assoc, arith, eq-eqb, ne_eqb, leb-false, leb-true, MatchResult, ap}
use Rattle.std.proofs.lemmas.Bool.{and_parts}
use Rattle.std.proofs.lemmas.Bool.Decides.{leb_tells}
use Rattle.byte_layer.specs.Fault.{fault}
use Rattle.units.specs.Field.{judged}
use Rattle.units.proofs.Judged.{no_err}
use Rattle.bid.specs.declared.fields.BidFields.{BidFields}
use Rattle.bid.specs.Group.{group_fine, same_area}
use Rattle.book.specs.declared.row.Row.{Row}
use Rattle.book.specs.declared.row.Row.TheVariants as kind
use Rattle.book.specs.declared.stand.Stand.{Stand}
use Rattle.book.specs.Rows.{row_bytes, rowed, row_judged, Four}
use Rattle.book.specs.declared.stand.Areas.TheVariants.{Same}
use Rattle.book.specs.Stands.{area_on, fresh, onward, group_on, after}
use Rattle.book.specs.Writing.{Begins}
use Rattle.book.proofs.Trip.{begins_more, begins_stays}
use Rattle.writer.specs.declared.state.OpenBook.{OpenBook}
use Rattle.writer.specs.declared.state.GroupUnderway.{GroupUnderway}
use Rattle.writer.specs.declared.state.Filed.{Filed}
use Rattle.writer.specs.declared.state.Membership.{Membership}
use Rattle.writer.specs.declared.state.Membership.TheVariants.{More, Last}
use Rattle.writer.specs.Admit.{admitted}
use Rattle.writer.specs.Calls.{RowFiled, GroupBegun, with_member, member_next, MemberFiled}
use Rattle.writer.specs.Single.{Single}
use Rattle.writer.specs.Holding.{opened, areas_for, underway, Holds, Owes, HoldsNext}
use Rattle.writer.proofs.Admits.{passes, joins}

pub cases_made : {X Y : Type 0} (r : Result X Y) (P R : X → Type 0) (Q : Y → Type 0) → MatchResult r P Q → ((x : X) → P x → R x) → IfOk r R
cases_made (Ok x) P R Q p f = f x p
cases_made (Err y) P R Q p f = tt

after_open : (a n : ℕ) (r : Row) → Single r → after (fresh a n) r ≡ Ok (onward (fresh a n) r)
unfolding after
after_open a n (kind.Bid b) h = refl
after_open a n (kind.Group k) h = absurd h
after_open a n (kind.Need k) h = refl
after_open a n (kind.Border b) h = refl

pub filed_holds : (b : OpenBook) (t u : List ℕ) (r : Row) (p : Filed OpenBook) → Single r → Four r → RowFiled b t r p u → (rs : List Row) → Holds t b rs → Holds u p.next (rs ++ r ∷ [])
filed_holds b t u r p h l f rs w =
    let k = passes (length t) b.length b.rows r (Some r) f.passed in
    let x = begins_more t u (opened b) (onward (opened b) r) rs r w (record { few = k.few; due = refl; fine = k.fine; four = l; next = after_open b.length b.rows r h }) k.room f.text in
    subst (λ (m : OpenBook). Holds u m (rs ++ r ∷ [])) (sym f.next) x

rowed_fine : (row n : ℕ) (b : Bool) (o : Option Row) → rowed kind.Group (judged row true b n) ≡ Ok o → b ≡ true
rowed_fine row n true o e = refl
rowed_fine row n false o e = no_err (fault 24 row) o e

-- a lawful group has a member due
group_due : (row n : ℕ) → row_judged row (kind.Group n) ≡ Ok (Some (kind.Group n)) → 0 < n
group_due row n e = let h = leb-true 2 n (and_parts (leb 2 n) (leb n 8) (rowed_fine row n (group_fine n) (Some (kind.Group n)) e)).0 in omega arith

-- a group's row that was filed, as the group that it begins
pub begun_from : (b : OpenBook) (t u : List ℕ) (n : ℕ) (p : Filed OpenBook) → RowFiled b t (kind.Group n) p u → GroupBegun b t n (record { next = record { book = p.next; before = b; due = n; first = None }; row = p.row }) u
begun_from b t u n p f = record { passed = f.passed; next = ap (λ (m : OpenBook). record { book = m; before = b; due = n; first = None }) f.next; row = f.row; text = f.text }

pub begun_owes : (b : OpenBook) (t u : List ℕ) (n : ℕ) (p : Filed GroupUnderway) → GroupBegun b t n p u → (rs : List Row) → Holds t b rs → Owes u p.next rs (kind.Group n ∷ [])
unfolding after
begun_owes b t u n p f rs w =
    let k = passes (length t) b.length b.rows (kind.Group n) (Some (kind.Group n)) f.passed in
    let x = begins_more t u (opened b) (group_on (opened b) n) rs (kind.Group n) w (record { few = k.few; due = refl; fine = k.fine; four = tt; next = refl }) k.room f.text in
    let s = begins_stays t u (opened b) rs b.length (row_bytes (kind.Group n)) w (omega arith) w.within f.text in
    let g : GroupUnderway = record { book = record { length = b.length + 2; rows = b.rows + 1 }; before = b; due = n; first = None } in
    let o : Owes u g rs (kind.Group n ∷ []) = record { before = s; since = omega arith; begins = x; due = group_due b.rows n k.fine } in
    subst (λ (m : GroupUnderway). Owes u m rs (kind.Group n ∷ [])) (sym f.next) o

abbrev joined_to : Membership → Stand
joined_to (More g) = underway g
joined_to (Last b) = opened b

-- a member of the first member's area
area_kept : (first : Option ℕ) (area : ℕ) → same_area first area ≡ true → area_on (areas_for first) area ≡ Same (unwrap_or first area)
area_kept None area e = refl
area_kept (Some b) area e = rw e refl

after_member : (g : GroupUnderway) (f : BidFields) → 0 < g.due → same_area g.first f.area ≡ true → after (underway g) (kind.Bid f) ≡ Ok (joined_to (member_next g f.area))
unfolding after
after_member g f h e =
    let k = area_kept g.first f.area e in
    ⊎_elim
    (λ x. rw (ne_eqb g.due 0 (λ q. omega arith), k, eq-eqb (g.due - 1) 0 (omega (arith, x.1)), x.0))
    (λ x. rw (ne_eqb g.due 0 (λ q. omega arith), k, ne_eqb (g.due - 1) 0 (λ q. omega (arith, x.1)), x.0))
    (leb_tells g.due 1)

and_false : (x : Bool) → (x && false) ≡ false
and_false true = refl
and_false false = refl

-- a group with one member more, or the open book after the last
next_holds : (u : List ℕ) (g : GroupUnderway) (area : ℕ) (rs ms : List Row) → Begins u (opened g.before) rs → g.before.length ≤ g.book.length → Begins u (joined_to (member_next g area)) (rs ++ ms) → HoldsNext u (member_next g area) rs ms
next_holds u g area rs ms b h x = by (leb g.due 1) refl x
  where
    by : (y : Bool) → leb g.due 1 ≡ y → Begins u (joined_to (cond y (Last (with_member g.book)) (More (record { book = with_member g.book; before = g.before; due = g.due - 1; first = Some (unwrap_or g.first area) })))) (rs ++ ms) → HoldsNext u (cond y (Last (with_member g.book)) (More (record { book = with_member g.book; before = g.before; due = g.due - 1; first = Some (unwrap_or g.first area) }))) rs ms
    by true e w = w
    by false e w = let l = leb-false g.due 1 e in record { before = b; since = omega arith; begins = w; due = omega arith }

pub member_holds : (g : GroupUnderway) (t u : List ℕ) (f : BidFields) (p : Filed Membership) → length f.quarters ≡ 4 → MemberFiled g t f p u → (rs ms : List Row) → Owes t g rs ms → HoldsNext u p.next rs (ms ++ kind.Bid f ∷ [])
member_holds g t u f p l k rs ms o =
    let j = joins (admitted (length t) g.book.length g.book.rows (kind.Bid f)) g.before.rows g.first f.area (Some (kind.Bid f)) k.passed in
    let q = passes (length t) g.book.length g.book.rows (kind.Bid f) (Some (kind.Bid f)) j.0 in
    let next = member_next g f.area in
    let x : Begins u (joined_to next) ((rs ++ ms) ++ kind.Bid f ∷ []) = begins_more t u (underway g) (joined_to next) (rs ++ ms) (kind.Bid f) o.begins (record { few = q.few; due = and_false (ltb 0 g.due); fine = q.fine; four = l; next = after_member g f o.due j.1 }) q.room k.text in
    let y = subst (λ (qs : List Row). Begins u (joined_to next) qs) (append_assoc rs ms (kind.Bid f ∷ [])) x in
    let s = begins_stays t u (opened g.before) rs g.book.length (row_bytes (kind.Bid f)) o.before o.since o.begins.within k.text in
    subst (λ (m : Membership). HoldsNext u m rs (ms ++ kind.Bid f ∷ [])) (sym k.next) (next_holds u g f.area rs (ms ++ kind.Bid f ∷ []) s o.since y)
