use Rattle.std.proofs.Common.{◌≡◌, ◌&&◌, length, pos, sym, ap, ◌∙◌, rules, tests}
use Rattle.std.specs.List.{list_all}
use Rattle.std.proofs.lemmas.Iterator.{YieldsList-from_slice}
use Rattle.std.proofs.lemmas.Iterator.Search.{all_from_yields_List}
use Rattle.lot.proofs.Chains.{all_of_then}
use Rattle.need.specs.Fields.{need_quarter_fine, need_offers, need_fine}
use Rattle.need.proofs.fields.need_fine.Goals as goal

pub returns-then-all : goal.returns-then-all
unfolding need_fine
returns-then-all c =
    let qs = c.args.qs.now in
    let fine = need_quarter_fine c.args.elasticity in
    let four : length qs ≡ 4 = cc in
    let all : c.all.result ≡ list_all fine qs = all_from_yields_List fine _ _ _ c.all.ensures.ran (YieldsList-from_slice qs (cc)) (λ x b q k. search (rules, tests)) in
    c.need_offers.ensures
    ∙ ap (λ v. v && need_offers qs) (sym c.if-all.true ∙ all)
    ∙ all_of_then fine qs (record { maximum = 0; price = pos 0 }) four (need_offers qs)

pub returns-else-all : goal.returns-else-all
unfolding need_fine
returns-else-all c =
    let qs = c.args.qs.now in
    let fine = need_quarter_fine c.args.elasticity in
    let four : length qs ≡ 4 = cc in
    let all : c.all.result ≡ list_all fine qs = all_from_yields_List fine _ _ _ c.all.ensures.ran (YieldsList-from_slice qs (cc)) (λ x b q k. search (rules, tests)) in
    c.if-all.false
    ∙ ap (λ v. v && need_offers qs) (sym c.if-all.false ∙ all)
    ∙ all_of_then fine qs (record { maximum = 0; price = pos 0 }) four (need_offers qs)
