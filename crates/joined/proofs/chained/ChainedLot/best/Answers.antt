use Rattle.std.proofs.Common.{rules, ◌∙◌, w64}
use Rattle.std.proofs.lemmas.Int.{to_z-of_z}
use Rattle.lot.specs.Page.{table_of}
use Rattle.lot.proofs.Splits.{priced_quoted}
use Rattle.joined.proofs.Walks.{best_can, best_fits, best_sum}
use Rattle.joined.proofs.chained.ChainedLot.best.Goals as goal

pub sum-requires-clause-can : goal.sum-requires-clause-can
sum-requires-clause-can g c = (tt, best_can g.C.Chain g.C.Link.Lot (table_of c.args.prices.bytes.now) _ c.map.ensures.source c.map.ensures.closure c.requires.few (λ x v h k. search rules) (λ x few. search rules))

pub sum-requires-clause-fits : goal.sum-requires-clause-fits
sum-requires-clause-fits g c = best_fits g.C.Chain g.C.Link.Lot _ _ c.map.ensures.source c.map.ensures.closure c.requires.few (λ x v h k. search rules) (priced_quoted _ c.args.prices.priced) c.args.prices.priced.capped

pub returns : goal.returns
returns g c = to_z-of_z w64 c.sum.result (search rules) ∙ c.sum.ensures.ran.2
    ∙ best_sum g.C.Chain g.C.Link.Lot _ _ c.map.ensures.source c.map.ensures.closure c.requires.few (λ x v h k. search rules) c.sum.ensures.ran.0 (c.sum.ensures.ran.1 tt)
