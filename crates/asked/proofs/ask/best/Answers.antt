use Rattle.lot.proofs.Bundled.{duties_of}
use Rattle.asked.proofs.Pricing.{ceils}
use Rattle.asked.proofs.ask.best.Goals as goal

pub returns-in_err-prices-clause-ceiling : goal.returns-in_err-prices-clause-ceiling
returns-in_err-prices-clause-ceiling g c = let x = c.args.lot.now in ceils (g.L.Lot.meaning x) (λ h. duties_of g.L.Lot x)

pub returns-clause-ceiling : goal.returns-clause-ceiling
returns-clause-ceiling g c = let x = c.args.lot.now in ceils (g.L.Lot.meaning x) (λ h. duties_of g.L.Lot x)
