-- A bid's operands: their lengths, and that reading and writing undo each other.
use Rattle.std.proofs.Common.{◌≡◌, ℕ, ◌+◌, ◌≤◌, true, leb, List, [], ◌∷◌, ◌++◌, length, get_or, take, drop, ℤ, pos, Some, None, Ok, Option, sym, refl, ap, ◌∙◌, subst, append_assoc, arith, length-append, leb-true}
use Rattle.std.proofs.lemmas.Bool.{and_parts}
use Rattle.byte_layer.specs.Number.{number, octets, signed_number, signed_octets, twos, Octets}
use Rattle.byte_layer.proofs.Numbers.{length_octets, octets_read}
use Rattle.byte_layer.proofs.Parts.{field_back, signed_field_back, signed_octets_read, take_next, head_two}
use Rattle.byte_layer.proofs.Fours.{Part, length_fours, fours_back, fours_forth}
use Rattle.units.specs.declared.side.Side.{Side}
use Rattle.units.specs.Side.{side_of, side_byte}
use Rattle.units.specs.Limit.{is_area, is_quantity, is_price}
use Rattle.units.specs.Field.{unreadable}
use Rattle.units.proofs.Judged.{judged_ok, no_err, side_back, side_forth, quantity_small, price_holds}
use Rattle.bid.specs.declared.fields.BidQuarter.{BidQuarter}
use Rattle.bid.specs.declared.fields.BidFields.{BidFields}
use Rattle.bid.specs.Fields.{bid_quarter, quarter_fine, bid_fine, bid_offers, bid_judged}
use Rattle.bid.specs.Format.{quarter_bytes, bid_bytes, quarter_at, quarters_at, bid_sided, bid_read}

pub length_quarter : (q : BidQuarter) → length (quarter_bytes q) ≡ 12
unfolding quarter_bytes
length_quarter q =
    let x = octets 4 q.minimum in
    let y = octets 4 q.maximum in
    let z = signed_octets 4 q.price in
    omega (arith, length-append x (y ++ z), length-append y z, length_octets 4 q.minimum, length_octets 4 q.maximum, length_octets 4 (twos 4 q.price))

same_quarter : (a b c d : ℕ) (p q : ℤ) → a ≡ b → c ≡ d → p ≡ q → ◌≡◌ {A = BidQuarter} (record { minimum = a; maximum = c; price = p }) (record { minimum = b; maximum = d; price = q })
same_quarter a b c d p q e f g = cc

-- a quarter among other bytes is read again
quarter_back : (q : BidQuarter) (xs ys : List ℕ) (at : ℕ) → length xs ≡ at → quarter_fine q ≡ true → quarter_at (xs ++ (quarter_bytes q ++ ys)) at ≡ q
unfolding quarter_at quarter_bytes quarter_fine
quarter_back q xs ys at e f =
    let low = and_parts (leb q.minimum q.maximum) _ f in
    let high = and_parts (is_quantity q.maximum) _ low.1 in
    let price = and_parts (is_price q.price) _ high.1 in
    let most = quantity_small q.maximum high.0 in
    let least = leb-true q.minimum q.maximum low.0 in
    let a = octets 4 q.minimum in
    let b = octets 4 q.maximum in
    let c = signed_octets 4 q.price in
    let la = length_octets 4 q.minimum in
    let lb = length_octets 4 q.maximum in
    same_quarter _ _ _ _ _ _
    (ap (λ x. number 4 x at) (first xs a b c ys) ∙ field_back 4 q.minimum xs ((b ++ c) ++ ys) at e (omega arith))
    (ap (λ x. number 4 x (at + 4)) (second xs a b c ys) ∙ field_back 4 q.maximum (xs ++ a) (c ++ ys) (at + 4) (omega (arith, length-append xs a)) most)
    (ap (λ x. signed_number 4 x (at + 8)) (third xs a b c ys) ∙ signed_field_back 4 q.price (xs ++ (a ++ b)) ys (at + 8) (omega (arith, length-append xs (a ++ b), length-append a b)) (price_holds q.price price.0))
  where
    first : (xs a b c ys : List ℕ) → xs ++ ((a ++ (b ++ c)) ++ ys) ≡ xs ++ (a ++ ((b ++ c) ++ ys))
    first xs a b c ys = simp append_assoc

    second : (xs a b c ys : List ℕ) → xs ++ ((a ++ (b ++ c)) ++ ys) ≡ (xs ++ a) ++ (b ++ (c ++ ys))
    second xs a b c ys = simp append_assoc

    third : (xs a b c ys : List ℕ) → xs ++ ((a ++ (b ++ c)) ++ ys) ≡ (xs ++ (a ++ b)) ++ (c ++ ys)
    third xs a b c ys = simp append_assoc

-- and the bytes of a quarter that was read are those that stood there
quarter_forth : (t : List ℕ) (at : ℕ) → Octets t → at + 12 ≤ length t → quarter_bytes (quarter_at t at) ≡ take 12 (drop at t)
unfolding quarter_at quarter_bytes
quarter_forth t at o h =
    ap (λ x. x ++ (octets 4 (number 4 t (at + 4)) ++ signed_octets 4 (signed_number 4 t (at + 8)))) (octets_read 4 t at o (omega arith))
    ∙ ap (λ x. take 4 (drop at t) ++ (x ++ signed_octets 4 (signed_number 4 t (at + 8)))) (octets_read 4 t (at + 4) o (omega arith))
    ∙ ap (λ x. take 4 (drop at t) ++ (take 4 (drop (at + 4) t) ++ x)) (signed_octets_read 4 t (at + 8) o (omega arith))
    ∙ sym (thirds t at)
  where
    eight : (n : ℕ) → n + 4 + 4 ≡ n + 8
    eight n = omega arith

    thirds : (t : List ℕ) (at : ℕ) → take 12 (drop at t) ≡ take 4 (drop at t) ++ (take 4 (drop (at + 4) t) ++ take 4 (drop (at + 8) t))
    thirds t at = take_next 4 8 t at ∙ ap (λ x. take 4 (drop at t) ++ x) (take_next 4 4 t (at + 4) ∙ ap (λ (n : ℕ). take 4 (drop (at + 4) t) ++ take 4 (drop n t)) (eight at))

fine_quarters : (qs : List BidQuarter) → bid_fine qs ≡ true → (quarter_fine (bid_quarter qs 0) ≡ true) × (quarter_fine (bid_quarter qs 1) ≡ true) × (quarter_fine (bid_quarter qs 2) ≡ true) × (quarter_fine (bid_quarter qs 3) ≡ true)
unfolding bid_fine
fine_quarters qs e =
    let a = and_parts (quarter_fine (bid_quarter qs 0)) _ e in
    let b = and_parts (quarter_fine (bid_quarter qs 1)) _ a.1 in
    let c = and_parts (quarter_fine (bid_quarter qs 2)) _ b.1 in
    let d = and_parts (quarter_fine (bid_quarter qs 3)) (bid_offers qs) c.1 in
    (a.0, b.0, c.0, d.0)

part : Part 12 quarter_bytes quarter_at (λ q. quarter_fine q ≡ true)
part = record { size = length_quarter; back = quarter_back; forth = quarter_forth }

pub length_bid : (f : BidFields) → length (bid_bytes f) ≡ 50
unfolding bid_bytes
length_bid f = length_fours part (f.area ∷ side_byte f.side ∷ []) (bid_quarter f.quarters 0) (bid_quarter f.quarters 1) (bid_quarter f.quarters 2) (bid_quarter f.quarters 3)

-- lawful fields that were written are read again, whatever stands behind them
pub bid_back : (row : ℕ) (f : BidFields) (t : List ℕ) → length f.quarters ≡ 4 → bid_judged row f ≡ Ok f → bid_read row (bid_bytes f ++ t) ≡ Ok f
unfolding bid_read bid_bytes
bid_back row f t l e =
    let k = judged_ok row (is_area f.area) (bid_fine f.quarters) f f e in
    let fine = fine_quarters f.quarters k.fine in
    let z = fours_back part (f.area ∷ side_byte f.side ∷ []) t 2 refl (record { minimum = 0; maximum = 0; price = pos 0 }) f.quarters l fine.0 fine.1 fine.2 fine.3 in
    rw (side_back f.side) (rw z e)

-- what a text that was read tells of its bytes
pub record BidStood (row : ℕ) (t : List ℕ) (f : BidFields) : Type 0 where
  pub lawful : bid_judged row f ≡ Ok f
  pub four : length f.quarters ≡ 4
  pub bytes : bid_bytes f ≡ take 50 t

stood_at : (t : List ℕ) (s : Side) → Octets t → 50 ≤ length t → side_byte s ≡ get_or t 1 0 → bid_bytes (record { area = get_or t 0 0; side = s; quarters = quarters_at t }) ≡ take 50 t
unfolding bid_bytes
stood_at t s o h e = fours_forth part t (get_or t 0 0 ∷ side_byte s ∷ []) 2 o h (ap (λ (x : ℕ). get_or t 0 0 ∷ x ∷ []) e ∙ head_two t (omega arith))

sided_stood : (row : ℕ) (t : List ℕ) (f : BidFields) (x : Option Side) → side_of (get_or t 1 0) ≡ x → Octets t → 50 ≤ length t → bid_sided row t x ≡ Ok f → BidStood row t f
sided_stood row t f None d o h e = no_err (unreadable row (is_area (get_or t 0 0))) f e
sided_stood row t f (Some s) d o h e =
    let g : BidFields = record { area = get_or t 0 0; side = s; quarters = quarters_at t } in
    let k = judged_ok row (is_area g.area) (bid_fine g.quarters) g f e in
    subst (λ (x : BidFields). BidStood row t x) k.same (record { lawful = e ∙ ap Ok (sym k.same); four = refl; bytes = stood_at t s o h (side_forth (get_or t 1 0) s d) })

pub bid_forth : (row : ℕ) (t : List ℕ) (f : BidFields) → Octets t → 50 ≤ length t → bid_read row t ≡ Ok f → BidStood row t f
unfolding bid_read
bid_forth row t f o h e = sided_stood row t f (side_of (get_or t 1 0)) refl o h e
