use Rattle.std.proofs.Common.{◌≡◌, ◌*◌, ℕ, take, drop, drop-drop, Some, None, Err, MatchResult, sym, ap, ◌∙◌, subst, arith}
use Rattle.std.proofs.lemmas.List.{take_rest}
use Rattle.std.proofs.lemmas.Result.{err_from_is_err_and}
use Rattle.std.specs.Option.{option_map, option_or}
use Rattle.std.specs.Result.{result_err}
use Rattle.page.specs.declared.fault.PageFault.TheVariants.{Shape, Price}
use Rattle.page.specs.Shape.{price_part, price_fault, page_fault, shape_fault}
use Rattle.page.proofs.Shapes.{mapped_none, long_when, priced_when, prices_left, is_lawful, not_lawful, lawful_of}
use Rattle.page.proofs.proposal.Proposal.read.Goals as goal

pub returns-in_err-shape-clause-lawful : goal.returns-in_err-shape-clause-lawful
returns-in_err-shape-clause-lawful c =
    let k = c.args.rows in
    let t = c.args.page.now in
    let p = err_from_is_err_and c.from_residual.result c.from_residual.ensures.1 in
    let wrong : page_fault k t ≡ Some c.in_err-shape.field-0.0 = ap (λ x. option_or x (option_map Price (price_fault (price_part k t)))) (sym c.shape.ensures ∙ ap result_err c.in_err-shape.was) in
    lawful_of k t c.from_residual.result (subst (λ r. MatchResult r (λ _. page_fault k t ≡ None) (λ e. page_fault k t ≡ Some e)) (sym (p.1 ∙ ap Err p.2)) wrong)

pub returns-in-Some : goal.returns-in-Some
returns-in-Some c =
    let k = c.args.rows in
    let t = c.args.page.now in
    let right : shape_fault k t ≡ None = mapped_none Shape (shape_fault k t) (sym c.shape.ensures ∙ ap result_err c.in_ok-shape.was) in
    let part : c.split_at.result.1.now ≡ price_part k t = c.split_at.ensures.back ∙ ap (drop (17 * k)) (take_rest t 1) ∙ drop-drop (17 * k) 1 t ∙ ap (λ (n : ℕ). drop n t) (omega arith) in
    let wrong : page_fault k t ≡ Some (Price c.in-Some.place) = prices_left k t right ∙ ap (λ q. option_map Price (price_fault q)) (sym part) ∙ ap (option_map Price) (sym c.uncapped.ensures ∙ c.in-Some.is) in
    record { cases = wrong; lawful = not_lawful k t (Price c.in-Some.place) wrong }

pub invariant_of-result : goal.invariant_of-result
invariant_of-result c =
    let k = c.args.rows in
    let t = c.args.page.now in
    let long = long_when k t (mapped_none Shape (shape_fault k t) (sym c.shape.ensures ∙ ap result_err c.in_ok-shape.was)) in
    let back = c.split_at.ensures.back_len in
    record { priced = priced_when c.split_at.result.1.now (omega arith) (sym c.uncapped.ensures ∙ c.in_default-uncapped.is) }

pub returns : goal.returns
returns c =
    let k = c.args.rows in
    let t = c.args.page.now in
    let right : shape_fault k t ≡ None = mapped_none Shape (shape_fault k t) (sym c.shape.ensures ∙ ap result_err c.in_ok-shape.was) in
    let part : c.split_at.result.1.now ≡ price_part k t = c.split_at.ensures.back ∙ ap (drop (17 * k)) (take_rest t 1) ∙ drop-drop (17 * k) 1 t ∙ ap (λ (n : ℕ). drop n t) (omega arith) in
    let none : page_fault k t ≡ None = prices_left k t right ∙ ap (λ q. option_map Price (price_fault q)) (sym part) ∙ ap (option_map Price) (sym c.uncapped.ensures ∙ c.in_default-uncapped.is) in
    record { cases = (none, c.split_at.ensures.front ∙ ap (take (17 * k)) (take_rest t 1), part); lawful = is_lawful k t none }
