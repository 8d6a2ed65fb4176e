use Rattle.std.proofs.Common.{ap, ◌∙◌, rules, tests}
use Rattle.std.specs.List.{list_all}
use Rattle.std.proofs.lemmas.Iterator.{YieldsList-from_slice}
use Rattle.std.proofs.lemmas.Iterator.Search.{all_from_yields_List}
use Rattle.units.specs.Limit.{is_price}
use Rattle.lot.specs.Page.{table_of}
use Rattle.lot.proofs.Chains.{all_quad}
use Rattle.lot.proofs.views.Prices.area_capped.Goals as goal

pub returns : goal.returns
returns c =
    all_from_yields_List is_price _ _ _ c.all.ensures.ran (YieldsList-from_slice c.area.result (cc)) (λ x b q k. search (rules, tests))
    ∙ ap (list_all is_price) c.area.ensures
    ∙ all_quad is_price (table_of c.args.self.bytes.now c.args.area)
