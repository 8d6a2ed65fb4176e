use Rattle.std.proofs.Common.{◌≡◌, length, pos, ◌∙◌, rules, tests}
use Rattle.std.proofs.lemmas.Iterator.{YieldsList-from_slice}
use Rattle.std.proofs.lemmas.Iterator.Search.{all_from_yields_List}
use Rattle.units.specs.Limit.{is_zero}
use Rattle.lot.proofs.Chains.{all_of}
use Rattle.lot.proofs.quarters.is_idle.Goals as goal

pub returns : goal.returns
unfolding is_zero
returns c =
    let four : length c.args.cells.now ≡ 4 = cc in
    all_from_yields_List is_zero _ _ _ c.all.ensures.ran (YieldsList-from_slice c.args.cells.now (cc)) (λ x b q k. search (rules, tests))
    ∙ all_of is_zero c.args.cells.now (pos 0) four
