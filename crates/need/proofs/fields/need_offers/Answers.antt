use Rattle.std.proofs.Common.{◌≡◌, Bool, length, pos, nat_lt, ◌∙◌, rules, tests}
use Rattle.std.proofs.lemmas.Iterator.{YieldsList-from_slice}
use Rattle.std.proofs.lemmas.Iterator.Search.{any_from_yields_List}
use Rattle.lot.proofs.Chains.{any_of}
use Rattle.need.specs.declared.fields.NeedQuarter.{NeedQuarter}
use Rattle.need.specs.Fields.{need_offers}
use Rattle.need.proofs.fields.need_offers.Goals as goal

pub returns : goal.returns
unfolding need_offers
returns c =
    let four : length c.args.qs.now ≡ 4 = cc in
    let test : NeedQuarter → Bool = λ q. nat_lt 0 q.maximum in
    any_from_yields_List test _ _ _ c.any.ensures.ran (YieldsList-from_slice c.args.qs.now (cc)) (λ x b q k. search (rules, tests))
    ∙ any_of test c.args.qs.now (record { maximum = 0; price = pos 0 }) four
