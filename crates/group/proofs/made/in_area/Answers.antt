use Rattle.std.proofs.Common.{◌==◌, ◌∙◌, rules}
use borrow.Author.Tests.{tests}
use Rattle.std.proofs.lemmas.Iterator.{YieldsList-from_slice}
use Rattle.std.proofs.lemmas.Iterator.Search.{all_from_yields_List}
use Rattle.group.proofs.Areas.{in_area_is}
use Rattle.group.proofs.made.in_area.Goals as goal

pub returns : goal.returns
returns c =
    all_from_yields_List (λ b. b.fields.area == c.args.area) _ _ _ c.all.ensures.ran (YieldsList-from_slice c.args.bids.now cc) (λ x b q k. search (rules, tests))
    ∙ in_area_is c.args.area c.args.bids.now
