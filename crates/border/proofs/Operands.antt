-- A border's operands: their lengths, and that reading and writing undo each other.
use Rattle.std.proofs.Common.{◌≡◌, ℕ, ◌+◌, ◌≤◌, Bool, true, false, cond, eqb, List, [], ◌∷◌, ◌++◌, length, get_or, take, drop, Some, None, Ok, Option, sym, refl, ap, ◌∙◌, subst, append_assoc, arith, length-append, eqb-true}
use Rattle.std.proofs.lemmas.Bool.{and_parts}
use Rattle.byte_layer.specs.Number.{number, octets, Octets}
use Rattle.byte_layer.proofs.Numbers.{length_octets, octets_read}
use Rattle.byte_layer.proofs.Parts.{field_back, take_next, head_three}
use Rattle.byte_layer.proofs.Fours.{Part, length_fours, fours_back, fours_forth}
use Rattle.units.specs.Limit.{is_quantity}
use Rattle.units.specs.Field.{unreadable}
use Rattle.units.proofs.Judged.{judged_ok, no_err, no_some, quantity_small}
use Rattle.border.specs.declared.step.Step.{Step}
use Rattle.border.specs.declared.step.Step.TheVariants.{One, Two, Four}
use Rattle.border.specs.declared.fields.BorderQuarter.{BorderQuarter}
use Rattle.border.specs.declared.fields.BorderFields.{BorderFields}
use Rattle.border.specs.Step.{step_for, step_byte}
use Rattle.border.specs.Fields.{border_quarter, border_quarter_fine, border_placed, border_fine, border_judged}
use Rattle.border.specs.Format.{border_quarter_bytes, border_bytes, border_quarter_at, border_quarters_at, border_stepped, border_read}

pub step_back : (s : Step) → step_for (step_byte s) ≡ Some s
step_back One = refl
step_back Two = refl
step_back Four = refl

step_picked : (b : ℕ) (s : Step) (x y z : Bool) → eqb b 1 ≡ x → eqb b 2 ≡ y → eqb b 4 ≡ z → cond x (Some One) (cond y (Some Two) (cond z (Some Four) None)) ≡ Some s → step_byte s ≡ b
step_picked b s true y z d f g e = let p : One ≡ s = cc in sym (ap step_byte p) ∙ sym (eqb-true b 1 d)
step_picked b s false true z d f g e = let p : Two ≡ s = cc in sym (ap step_byte p) ∙ sym (eqb-true b 2 f)
step_picked b s false false true d f g e = let p : Four ≡ s = cc in sym (ap step_byte p) ∙ sym (eqb-true b 4 g)
step_picked b s false false false d f g e = no_some s e

pub step_forth : (b : ℕ) (s : Step) → step_for b ≡ Some s → step_byte s ≡ b
step_forth b s e = step_picked b s (eqb b 1) (eqb b 2) (eqb b 4) refl refl refl e

pub length_quarter : (q : BorderQuarter) → length (border_quarter_bytes q) ≡ 8
unfolding border_quarter_bytes
length_quarter q =
    let x = octets 4 q.forward in
    let y = octets 4 q.back in
    omega (arith, length-append x y, length_octets 4 q.forward, length_octets 4 q.back)

same_quarter : (a b c d : ℕ) → a ≡ b → c ≡ d → ◌≡◌ {A = BorderQuarter} (record { forward = a; back = c }) (record { forward = b; back = d })
same_quarter a b c d e f = cc

-- a quarter among other bytes is read again
quarter_back : (q : BorderQuarter) (xs ys : List ℕ) (at : ℕ) → length xs ≡ at → border_quarter_fine q ≡ true → border_quarter_at (xs ++ (border_quarter_bytes q ++ ys)) at ≡ q
unfolding border_quarter_at border_quarter_bytes border_quarter_fine
quarter_back q xs ys at l f =
    let both = and_parts (is_quantity q.forward) (is_quantity q.back) f in
    let a = octets 4 q.forward in
    let b = octets 4 q.back in
    let la = length_octets 4 q.forward in
    same_quarter _ _ _ _
    (ap (λ x. number 4 x at) (first xs a b ys) ∙ field_back 4 q.forward xs (b ++ ys) at l (quantity_small q.forward both.0))
    (ap (λ x. number 4 x (at + 4)) (second xs a b ys) ∙ field_back 4 q.back (xs ++ a) ys (at + 4) (omega (arith, length-append xs a)) (quantity_small q.back both.1))
  where
    first : (xs a b ys : List ℕ) → xs ++ ((a ++ b) ++ ys) ≡ xs ++ (a ++ (b ++ ys))
    first xs a b ys = simp append_assoc

    second : (xs a b ys : List ℕ) → xs ++ ((a ++ b) ++ ys) ≡ (xs ++ a) ++ (b ++ ys)
    second xs a b ys = simp append_assoc

-- and the bytes of a quarter that was read are those that stood there
quarter_forth : (t : List ℕ) (at : ℕ) → Octets t → at + 8 ≤ length t → border_quarter_bytes (border_quarter_at t at) ≡ take 8 (drop at t)
unfolding border_quarter_at border_quarter_bytes
quarter_forth t at o h =
    ap (λ x. x ++ octets 4 (number 4 t (at + 4))) (octets_read 4 t at o (omega arith))
    ∙ ap (λ x. take 4 (drop at t) ++ x) (octets_read 4 t (at + 4) o (omega arith))
    ∙ sym (take_next 4 4 t at)

fine_quarters : (qs : List BorderQuarter) → border_fine qs ≡ true → (border_quarter_fine (border_quarter qs 0) ≡ true) × (border_quarter_fine (border_quarter qs 1) ≡ true) × (border_quarter_fine (border_quarter qs 2) ≡ true) × (border_quarter_fine (border_quarter qs 3) ≡ true)
unfolding border_fine
fine_quarters qs e =
    let a = and_parts (border_quarter_fine (border_quarter qs 0)) _ e in
    let b = and_parts (border_quarter_fine (border_quarter qs 1)) _ a.1 in
    let c = and_parts (border_quarter_fine (border_quarter qs 2)) (border_quarter_fine (border_quarter qs 3)) b.1 in
    (a.0, b.0, c.0, c.1)

part : Part 8 border_quarter_bytes border_quarter_at (λ q. border_quarter_fine q ≡ true)
part = record { size = length_quarter; back = quarter_back; forth = quarter_forth }

pub length_border : (f : BorderFields) → length (border_bytes f) ≡ 35
unfolding border_bytes
length_border f = length_fours part (f.from ∷ f.to ∷ step_byte f.step ∷ []) (border_quarter f.quarters 0) (border_quarter f.quarters 1) (border_quarter f.quarters 2) (border_quarter f.quarters 3)

-- lawful fields that were written are read again, whatever stands behind them
pub border_back : (row : ℕ) (f : BorderFields) (t : List ℕ) → length f.quarters ≡ 4 → border_judged row f ≡ Ok f → border_read row (border_bytes f ++ t) ≡ Ok f
unfolding border_read border_bytes
border_back row f t l e =
    let k = judged_ok row (border_placed f.from f.to) (border_fine f.quarters) f f e in
    let fine = fine_quarters f.quarters k.fine in
    let z = fours_back part (f.from ∷ f.to ∷ step_byte f.step ∷ []) t 3 refl (record { forward = 0; back = 0 }) f.quarters l fine.0 fine.1 fine.2 fine.3 in
    rw (step_back f.step) (rw z e)

-- what a text that was read tells of its bytes
pub record BorderStood (row : ℕ) (t : List ℕ) (f : BorderFields) : Type 0 where
  pub lawful : border_judged row f ≡ Ok f
  pub four : length f.quarters ≡ 4
  pub bytes : border_bytes f ≡ take 35 t

stood_at : (t : List ℕ) (s : Step) → Octets t → 35 ≤ length t → step_byte s ≡ get_or t 2 0 → border_bytes (record { from = get_or t 0 0; to = get_or t 1 0; step = s; quarters = border_quarters_at t }) ≡ take 35 t
unfolding border_bytes
stood_at t s o h e =
    fours_forth part t (get_or t 0 0 ∷ get_or t 1 0 ∷ step_byte s ∷ []) 3 o h
    (ap (λ (x : ℕ). get_or t 0 0 ∷ get_or t 1 0 ∷ x ∷ []) e ∙ head_three t (omega arith))

stepped_stood : (row : ℕ) (t : List ℕ) (f : BorderFields) (x : Option Step) → step_for (get_or t 2 0) ≡ x → Octets t → 35 ≤ length t → border_stepped row t x ≡ Ok f → BorderStood row t f
stepped_stood row t f None d o h e = no_err (unreadable row (border_placed (get_or t 0 0) (get_or t 1 0))) f e
stepped_stood row t f (Some s) d o h e =
    let w : BorderFields = record { from = get_or t 0 0; to = get_or t 1 0; step = s; quarters = border_quarters_at t } in
    let k = judged_ok row (border_placed w.from w.to) (border_fine w.quarters) w f e in
    subst (λ (x : BorderFields). BorderStood row t x) k.same (record { lawful = e ∙ ap Ok (sym k.same); four = refl; bytes = stood_at t s o h (step_forth (get_or t 2 0) s d) })

pub border_forth : (row : ℕ) (t : List ℕ) (f : BorderFields) → Octets t → 35 ≤ length t → border_read row t ≡ Ok f → BorderStood row t f
unfolding border_read
border_forth row t f o h e = stepped_stood row t f (step_for (get_or t 2 0)) refl o h e
