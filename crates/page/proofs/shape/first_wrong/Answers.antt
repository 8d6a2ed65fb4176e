use Rattle.std.proofs.Common.{◌≡◌, ◌+◌, true, false, Some, sym, ap, ◌∙◌, arith, rules}
use Rattle.std.proofs.lemmas.Iterator.{first_from_Range}
use Rattle.std.specs.Option.{option_map}
use Rattle.page.specs.Shape.{place_of, wrong_at}
use Rattle.page.proofs.Least.{least_is, least_below}
use Rattle.page.proofs.shape.first_wrong.Goals as goal

pub returns-in_err-number : goal.returns-in_err-number
returns-in_err-number c =
    let w = wrong_at c.args.rows c.args.text.now in
    let l = least_is (33 + c.args.rows) w c.find.result (first_from_Range _ _ _ _ (λ i. w i ≡ true) (λ i. w i ≡ false) c.find.ensures.ran (λ x q k. search rules) (λ x q k. search rules)) in
    c.from_residual.ensures ∙ ap (option_map place_of) (sym c.in_err-number.was ∙ l)

pub place-requires : goal.place-requires
place-requires c =
    let w = wrong_at c.args.rows c.args.text.now in
    let below = least_below (33 + c.args.rows) w c.find.result c.in_ok-number.number (first_from_Range _ _ _ _ (λ i. w i ≡ true) (λ i. w i ≡ false) c.find.ensures.ran (λ x q k. search rules) (λ x q k. search rules)) c.in_ok-number.was in
    omega (arith, c.requires)

pub returns : goal.returns
returns c =
    let w = wrong_at c.args.rows c.args.text.now in
    let l = least_is (33 + c.args.rows) w c.find.result (first_from_Range _ _ _ _ (λ i. w i ≡ true) (λ i. w i ≡ false) c.find.ensures.ran (λ x q k. search rules) (λ x q k. search rules)) in
    ap Some c.place.ensures ∙ ap (option_map place_of) (sym c.in_ok-number.was ∙ l)
