-- Bids of one area, and groups of them.
use Rattle.std.proofs.Common.{Bool, Ok, Err, Result, Some, None, ◌==◌, ◌≡◌, ℕ, true, false, ◌&&◌, List, [], ◌∷◌, sym, refl, ap, ◌∙◌}
use Rattle.std.specs.List.{list_all}
use Rattle.bid.specs.declared.lawful.Bid.{Bid}
use Rattle.byte_layer.specs.declared.fault.Told.{Told}
use Rattle.byte_layer.specs.Fault.{heard}
use Rattle.std.specs.Result.{result_ok}
use Rattle.units.specs.declared.field.FieldFault.{FieldFault}
use Rattle.units.specs.Field.{told_field, judged}
use Rattle.units.proofs.Judged.{judged_ok, no_err, no_some}
use Rattle.bid.specs.declared.size.GroupSize.{GroupSize}
use Rattle.bid.specs.Lawful.{members_in}
use Rattle.bid.specs.Group.{group_fine}
use Rattle.group.specs.Group.{in_area}

pub in_area_is : (area : ℕ) (bs : List Bid) → list_all (λ b. b.fields.area == area) bs ≡ in_area area bs
in_area_is area [] = refl
in_area_is area (b ∷ bs) = ap (λ v. b.fields.area == area && v) (in_area_is area bs)

-- the size that a number of members makes, or that it makes none
pub size_made : (r : Result GroupSize FieldFault) (n : ℕ) → heard (told_field 0) (members_in r) ≡ judged 0 true (group_fine n) n → (s : GroupSize) → result_ok r ≡ Some s → s.members ≡ n
size_made (Ok g) n e s is = let same : g ≡ s = cc in ap (λ x. x.members) (sym same) ∙ sym (judged_ok 0 true (group_fine n) n g.members (sym e)).same
size_made (Err f) n e s is = no_some s is

pub none_made : (r : Result GroupSize FieldFault) (n : ℕ) → heard (told_field 0) (members_in r) ≡ judged 0 true (group_fine n) n → result_ok r ≡ None → group_fine n ≡ false
none_made (Ok g) n e is = no_some g (sym is)
none_made (Err f) n e is = not_fine (group_fine n) n (told_field 0 f) e
  where
    not_fine : (b : Bool) (n : ℕ) (t : Told) → Err t ≡ judged 0 true b n → b ≡ false
    not_fine true n t h = no_err t n h
    not_fine false n t h = refl
