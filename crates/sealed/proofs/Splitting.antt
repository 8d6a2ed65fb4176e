-- A book's first order, and the orders after it.
use Rattle.std.proofs.Common.{Bool, true, ◌&&◌, Err, ◌≡◌, ℕ, ◌<◌, false, eqb, List, [], ◌∷◌, ◌++◌, map, length, take, drop, Ok, Result, sym, refl, ap, ◌∙◌, subst, ap₂, arith, length-append}
use Rattle.std.proofs.lemmas.Bool.{eq-eqb, both_ways}
use Rattle.std.specs.Result.{result_map_both}
use Rattle.byte_layer.specs.Fault.{heard}
use Rattle.units.specs.declared.field.FieldFault.{FieldFault}
use Rattle.units.specs.Field.{told_field, judged}
use Rattle.units.proofs.Judged.{judged_ok, no_err}
use Rattle.order.specs.declared.order.Order.{Order}
use Rattle.sealed.proofs.Turns.{refused_lawful, same_stand}
use Rattle.lot.specs.Join.{join, together, Parted}
use Rattle.lot.specs.Single.{exclusive}
use Rattle.bid.specs.declared.fields.BidFields.{BidFields}
use Rattle.bid.specs.declared.lawful.Bid.{Bid}
use Rattle.bid.specs.Bidding.{bidding}
use Rattle.need.specs.declared.fields.NeedFields.{NeedFields}
use Rattle.border.specs.declared.fields.BorderFields.{BorderFields}
use Rattle.book.specs.declared.row.Row.{Row}
use Rattle.book.specs.declared.row.Row.TheVariants as kind
use Rattle.book.specs.declared.stand.Stand.{Stand}
use Rattle.book.specs.Stands.{due_of, onward, group_on, closed, member_on, after}
use Rattle.book.proofs.Steps.{cond_case}
use Rattle.group.specs.Group.{member_of, grouping}
use Rattle.sealed.specs.Lot.{Filed, bid, need, border, bids_among, filed, filed_meaning, book_meaning, is_group}
use Rattle.sealed.specs.Members.{bid_rows, Begun}

-- ---- where a reader stands
-- after a row by itself no member is due
pub stays_whole : (s : Stand) (r : Row) (n : Stand) → after s r ≡ Ok n → (due_of s) ≡ 0 → is_group r ≡ false → due_of n ≡ 0
unfolding after
stays_whole s (kind.Bid f) n e d g =
    cond_case (eqb (due_of s) 0) (Ok (onward s (kind.Bid f))) (closed (member_on s f.area)) (Ok n) e
    (λ _ p. sym (ap due_of (same_stand (onward s (kind.Bid f)) n p)))
    (λ z _. absurd (both_ways (eqb (due_of s) 0) z (eq-eqb (due_of s) 0 d)))
stays_whole s (kind.Group k) n e d g = let z : ◌≡◌ {A = ℕ} 0 1 = cc in absurd (omega arith)
stays_whole s (kind.Need f) n e d g = sym (ap due_of (same_stand (onward s (kind.Need f)) n e))
stays_whole s (kind.Border f) n e d g = sym (ap due_of (same_stand (onward s (kind.Border f)) n e))

-- after a group's row its members are due
pub begins_group : (s : Stand) (k : ℕ) (n : Stand) → after s (kind.Group k) ≡ Ok n → Begun n k
unfolding after
begins_group s k n e =
    let q = same_stand (group_on s k) n e in
    subst (λ (m : Stand). Begun m k) q (record { due = refl; areas = refl })

-- ---- meanings
pub first_single : (o : Filed) (rs : List Row) (r : Row) → filed (r ∷ rs) ≡ o ∷ filed rs → Parted (book_meaning (r ∷ rs)) (filed_meaning o) (book_meaning rs)
unfolding together
first_single o rs r e = record { is = ap (together filed_meaning) e }

pub filed_bid : (f : BidFields) (rs : List Row) → filed (kind.Bid f ∷ rs) ≡ bid f ∷ filed rs
unfolding filed
filed_bid f rs = refl

bids : List Bid → List Filed
bids [] = []
bids (b ∷ bs) = bid b.fields ∷ bids bs

filed_bids : (bs : List Bid) (rs : List Row) → filed (bid_rows bs ++ rs) ≡ bids bs ++ filed rs
unfolding filed bids
filed_bids [] rs = refl
filed_bids (b ∷ bs) rs = ap (λ os. bid b.fields ∷ os) (filed_bids bs rs)

take_bids : (bs : List Bid) (os : List Filed) → take (length bs) (bids bs ++ os) ≡ bids bs
unfolding bids
take_bids [] os = refl
take_bids (b ∷ bs) os = ap (λ xs. bid b.fields ∷ xs) (take_bids bs os)

drop_bids : (bs : List Bid) (os : List Filed) → drop (length bs) (bids bs ++ os) ≡ os
unfolding bids
drop_bids [] os = refl
drop_bids (b ∷ bs) os = drop_bids bs os

among_bids : (bs : List Bid) → map bidding (bids_among (bids bs)) ≡ map member_of bs
unfolding bids
among_bids [] = refl
among_bids (b ∷ bs) = ap (λ xs. member_of b ∷ xs) (among_bids bs)

pub first_group : (n : ℕ) (bs : List Bid) (rs : List Row) → length bs ≡ n → Parted (book_meaning (kind.Group n ∷ (bid_rows bs ++ rs))) (grouping bs) (book_meaning rs)
unfolding filed together
first_group n bs rs e = record {
  is = ap₂ (λ fs os. join (exclusive (map bidding fs)) (together filed_meaning os))
      (ap bids_among (ap₂ take (sym e) (filed_bids bs rs) ∙ take_bids bs (filed rs)))
      (ap₂ drop (sym e) (filed_bids bs rs) ∙ drop_bids bs (filed rs))
      ∙ ap (λ ss. join (exclusive ss) (together filed_meaning (filed rs))) (among_bids bs);
}

pub filed_need : (f : NeedFields) (rs : List Row) → filed (kind.Need f ∷ rs) ≡ need f ∷ filed rs
unfolding filed
filed_need f rs = refl

pub filed_border : (f : BorderFields) (rs : List Row) → filed (kind.Border f ∷ rs) ≡ border f ∷ filed rs
unfolding filed
filed_border f rs = refl

-- a row by itself, whose fields a lawful value holds
pub row_parts : (o : Filed) (row r : Row) → row ≡ r → ((rs : List Row) → filed (r ∷ rs) ≡ o ∷ filed rs) → (rs : List Row) → Parted (book_meaning (row ∷ rs)) (filed_meaning o) (book_meaning rs)
row_parts o row r e h rs = subst (λ q. Parted (book_meaning (q ∷ rs)) (filed_meaning o) (book_meaning rs)) (sym e) (first_single o rs r (h rs))

pub not_group : (r : Row) → ((x : ℕ) → r ≡ kind.Group x → ⊥) → is_group r ≡ false
not_group (kind.Bid f) h = refl
not_group (kind.Group n) h = absurd (h n refl)
not_group (kind.Need f) h = refl
not_group (kind.Border f) h = refl

-- fewer rows are left
pub fewer : (xs ys : List Row) (r : Row) (zs : List Row) (a b : ℕ) → xs ≡ r ∷ (ys ++ zs) → length xs ≡ a → length zs ≡ b → b < a
fewer xs ys r zs a b e f g = let l = ap length e in let m = length-append ys zs in omega arith

-- ---- what lawful fields make: an order, which is of those fields
pub not_refused : {V F P : Type 0} (make : V → Order) (view : V → F) (areas others : Bool) (f : F) (r : Result V FieldFault) → heard (told_field 0) (result_map_both view (λ e. e) r) ≡ judged 0 areas others f → (areas && others) ≡ true → (x : FieldFault) → Err x ≡ result_map_both make (λ e. e) r → P
not_refused make view areas others f (Ok v) e law x is = no_err x (make v) is
not_refused make view areas others f (Err y) e law x is = refused_lawful (told_field 0 y) areas others f e law

pub made_of : {V F : Type 0} (make : V → Order) (view : V → F) (areas others : Bool) (f : F) (r : Result V FieldFault) → heard (told_field 0) (result_map_both view (λ e. e) r) ≡ judged 0 areas others f → (o : Order) → Ok o ≡ result_map_both make (λ e. e) r → (v : V) × (make v ≡ o) × (f ≡ view v)
made_of make view areas others f (Ok v) e o is = (v, cc, (judged_ok 0 areas others f (view v) (sym e)).same)
made_of make view areas others f (Err y) e o is = no_err y o (sym is)
