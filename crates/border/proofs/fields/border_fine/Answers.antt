use Rattle.std.proofs.Common.{◌≡◌, length, ◌∙◌, rules, tests}
use Rattle.std.proofs.lemmas.Iterator.{YieldsList-from_slice}
use Rattle.std.proofs.lemmas.Iterator.Search.{all_from_yields_List}
use Rattle.lot.proofs.Chains.{all_in_turn}
use Rattle.border.specs.Fields.{border_quarter_fine, border_fine}
use Rattle.border.proofs.fields.border_fine.Goals as goal

pub returns : goal.returns
unfolding border_fine
returns c =
    let four : length c.args.qs.now ≡ 4 = cc in
    all_from_yields_List border_quarter_fine _ _ _ c.all.ensures.ran (YieldsList-from_slice c.args.qs.now (cc)) (λ x b q k. search (rules, tests))
    ∙ all_in_turn border_quarter_fine c.args.qs.now (record { forward = 0; back = 0 }) four
