-- A need's operands: their lengths, and that reading and writing undo each other.
use Rattle.std.proofs.Common.{◌≡◌, ℕ, zero, suc, ◌+◌, ◌≤◌, true, List, [], ◌∷◌, ◌++◌, length, get_or, take, drop, ℤ, pos, Some, None, Ok, Option, sym, refl, ap, ◌∙◌, subst, append_assoc, arith, length-append}
use Rattle.std.proofs.lemmas.Bool.{and_parts}
use Rattle.byte_layer.specs.Number.{number, octets, signed_number, signed_octets, twos, Octets}
use Rattle.byte_layer.proofs.Numbers.{length_octets, octets_read}
use Rattle.byte_layer.proofs.Parts.{field_back, signed_field_back, signed_octets_read, take_next, head_three}
use Rattle.byte_layer.proofs.Fours.{Part, length_fours, fours_back, fours_forth}
use Rattle.units.specs.declared.side.Side.{Side}
use Rattle.units.specs.Side.{side_of, side_byte}
use Rattle.units.specs.Limit.{is_area, is_quantity, is_price}
use Rattle.units.specs.Field.{unreadable}
use Rattle.units.proofs.Judged.{judged_ok, no_err, no_some, side_back, side_forth, quantity_small, price_holds}
use Rattle.need.specs.declared.elasticity.Elasticity.{Elasticity}
use Rattle.need.specs.declared.elasticity.Elasticity.TheVariants.{Elastic, Inelastic}
use Rattle.need.specs.declared.fields.NeedQuarter.{NeedQuarter}
use Rattle.need.specs.declared.fields.NeedFields.{NeedFields}
use Rattle.need.specs.Elasticity.{elasticity_of, elasticity_byte}
use Rattle.need.specs.Fields.{need_quarter, need_quarter_fine, need_fine, need_offers, need_judged}
use Rattle.need.specs.Format.{need_quarter_bytes, need_bytes, need_quarter_at, need_quarters_at, need_named, need_read}

pub elasticity_back : (e : Elasticity) → elasticity_of (elasticity_byte e) ≡ Some e
elasticity_back Inelastic = refl
elasticity_back Elastic = refl

pub elasticity_forth : (b : ℕ) (e : Elasticity) → elasticity_of b ≡ Some e → elasticity_byte e ≡ b
elasticity_forth zero e p = let q : Inelastic ≡ e = cc in sym (ap elasticity_byte q)
elasticity_forth (suc zero) e p = let q : Elastic ≡ e = cc in sym (ap elasticity_byte q)
elasticity_forth (suc (suc n)) e p = no_some e p

pub length_quarter : (q : NeedQuarter) → length (need_quarter_bytes q) ≡ 8
unfolding need_quarter_bytes
length_quarter q =
    let x = octets 4 q.maximum in
    let y = signed_octets 4 q.price in
    omega (arith, length-append x y, length_octets 4 q.maximum, length_octets 4 (twos 4 q.price))

same_quarter : (a b : ℕ) (p q : ℤ) → a ≡ b → p ≡ q → ◌≡◌ {A = NeedQuarter} (record { maximum = a; price = p }) (record { maximum = b; price = q })
same_quarter a b p q e f = cc

-- a quarter among other bytes is read again
quarter_back : (e : Elasticity) (q : NeedQuarter) (xs ys : List ℕ) (at : ℕ) → length xs ≡ at → need_quarter_fine e q ≡ true → need_quarter_at (xs ++ (need_quarter_bytes q ++ ys)) at ≡ q
unfolding need_quarter_at need_quarter_bytes need_quarter_fine
quarter_back e q xs ys at l f =
    let high = and_parts (is_quantity q.maximum) _ f in
    let price = and_parts (is_price q.price) _ high.1 in
    let a = octets 4 q.maximum in
    let b = signed_octets 4 q.price in
    let la = length_octets 4 q.maximum in
    same_quarter _ _ _ _
    (ap (λ x. number 4 x at) (first xs a b ys) ∙ field_back 4 q.maximum xs (b ++ ys) at l (quantity_small q.maximum high.0))
    (ap (λ x. signed_number 4 x (at + 4)) (second xs a b ys) ∙ signed_field_back 4 q.price (xs ++ a) ys (at + 4) (omega (arith, length-append xs a)) (price_holds q.price price.0))
  where
    first : (xs a b ys : List ℕ) → xs ++ ((a ++ b) ++ ys) ≡ xs ++ (a ++ (b ++ ys))
    first xs a b ys = simp append_assoc

    second : (xs a b ys : List ℕ) → xs ++ ((a ++ b) ++ ys) ≡ (xs ++ a) ++ (b ++ ys)
    second xs a b ys = simp append_assoc

-- and the bytes of a quarter that was read are those that stood there
quarter_forth : (t : List ℕ) (at : ℕ) → Octets t → at + 8 ≤ length t → need_quarter_bytes (need_quarter_at t at) ≡ take 8 (drop at t)
unfolding need_quarter_at need_quarter_bytes
quarter_forth t at o h =
    ap (λ x. x ++ signed_octets 4 (signed_number 4 t (at + 4))) (octets_read 4 t at o (omega arith))
    ∙ ap (λ x. take 4 (drop at t) ++ x) (signed_octets_read 4 t (at + 4) o (omega arith))
    ∙ sym (take_next 4 4 t at)

fine_quarters : (e : Elasticity) (qs : List NeedQuarter) → need_fine e qs ≡ true → (need_quarter_fine e (need_quarter qs 0) ≡ true) × (need_quarter_fine e (need_quarter qs 1) ≡ true) × (need_quarter_fine e (need_quarter qs 2) ≡ true) × (need_quarter_fine e (need_quarter qs 3) ≡ true)
unfolding need_fine
fine_quarters e qs p =
    let a = and_parts (need_quarter_fine e (need_quarter qs 0)) _ p in
    let b = and_parts (need_quarter_fine e (need_quarter qs 1)) _ a.1 in
    let c = and_parts (need_quarter_fine e (need_quarter qs 2)) _ b.1 in
    let d = and_parts (need_quarter_fine e (need_quarter qs 3)) (need_offers qs) c.1 in
    (a.0, b.0, c.0, d.0)

part : (e : Elasticity) → Part 8 need_quarter_bytes need_quarter_at (λ q. need_quarter_fine e q ≡ true)
part e = record { size = length_quarter; back = quarter_back e; forth = quarter_forth }

pub length_need : (f : NeedFields) → length (need_bytes f) ≡ 35
unfolding need_bytes
length_need f = length_fours (part f.elasticity) (f.area ∷ side_byte f.side ∷ elasticity_byte f.elasticity ∷ []) (need_quarter f.quarters 0) (need_quarter f.quarters 1) (need_quarter f.quarters 2) (need_quarter f.quarters 3)

-- lawful fields that were written are read again, whatever stands behind them
pub need_back : (row : ℕ) (f : NeedFields) (t : List ℕ) → length f.quarters ≡ 4 → need_judged row f ≡ Ok f → need_read row (need_bytes f ++ t) ≡ Ok f
unfolding need_read need_bytes
need_back row f t l e =
    let y = f.elasticity in
    let k = judged_ok row (is_area f.area) (need_fine y f.quarters) f f e in
    let fine = fine_quarters y f.quarters k.fine in
    let z = fours_back (part y) (f.area ∷ side_byte f.side ∷ elasticity_byte y ∷ []) t 3 refl (record { maximum = 0; price = pos 0 }) f.quarters l fine.0 fine.1 fine.2 fine.3 in
    rw (side_back f.side) (rw (elasticity_back y) (rw z e))

-- what a text that was read tells of its bytes
pub record NeedStood (row : ℕ) (t : List ℕ) (f : NeedFields) : Type 0 where
  pub lawful : need_judged row f ≡ Ok f
  pub four : length f.quarters ≡ 4
  pub bytes : need_bytes f ≡ take 35 t

stood_at : (t : List ℕ) (s : Side) (y : Elasticity) → Octets t → 35 ≤ length t → side_byte s ≡ get_or t 1 0 → elasticity_byte y ≡ get_or t 2 0 → need_bytes (record { area = get_or t 0 0; side = s; elasticity = y; quarters = need_quarters_at t }) ≡ take 35 t
unfolding need_bytes
stood_at t s y o h e g =
    fours_forth (part y) t (get_or t 0 0 ∷ side_byte s ∷ elasticity_byte y ∷ []) 3 o h
    (ap (λ (x : ℕ). get_or t 0 0 ∷ x ∷ elasticity_byte y ∷ []) e ∙ ap (λ (x : ℕ). get_or t 0 0 ∷ get_or t 1 0 ∷ x ∷ []) g ∙ head_three t (omega arith))

named_stood : (row : ℕ) (t : List ℕ) (f : NeedFields) (x : Option Side) (y : Option Elasticity) → side_of (get_or t 1 0) ≡ x → elasticity_of (get_or t 2 0) ≡ y → Octets t → 35 ≤ length t → need_named row t x y ≡ Ok f → NeedStood row t f
named_stood row t f None y d g o h e = no_err (unreadable row (is_area (get_or t 0 0))) f e
named_stood row t f (Some s) None d g o h e = no_err (unreadable row (is_area (get_or t 0 0))) f e
named_stood row t f (Some s) (Some y) d g o h e =
    let w : NeedFields = record { area = get_or t 0 0; side = s; elasticity = y; quarters = need_quarters_at t } in
    let k = judged_ok row (is_area w.area) (need_fine y w.quarters) w f e in
    subst (λ (x : NeedFields). NeedStood row t x) k.same (record { lawful = e ∙ ap Ok (sym k.same); four = refl; bytes = stood_at t s y o h (side_forth (get_or t 1 0) s d) (elasticity_forth (get_or t 2 0) y g) })

pub need_forth : (row : ℕ) (t : List ℕ) (f : NeedFields) → Octets t → 35 ≤ length t → need_read row t ≡ Ok f → NeedStood row t f
unfolding need_read
need_forth row t f o h e = named_stood row t f (side_of (get_or t 1 0)) (elasticity_of (get_or t 2 0)) refl refl o h e
