use Rattle.std.proofs.Common.{rules, ◌∙◌, w64}
use Rattle.std.proofs.lemmas.Int.{to_z-of_z}
use Rattle.joined.proofs.Walks.{net_can, net_fits, net_sum}
use Rattle.joined.proofs.chained.ChainedLot.net.Goals as goal

pub sum-requires-clause-can : goal.sum-requires-clause-can
sum-requires-clause-can g c = (tt, net_can g.C.Chain g.C.Link.Lot c.args.area c.args.quarter _ c.map.ensures.source c.map.ensures.closure c.parts.ensures.chain c.parts.ensures.rest c.requires.ready (λ x v h k. search rules) (λ x ready. search rules))

pub sum-requires-clause-fits : goal.sum-requires-clause-fits
sum-requires-clause-fits g c = net_fits g.C.Chain g.C.Link.Lot _ _ _ c.map.ensures.source c.map.ensures.closure c.parts.ensures.chain c.parts.ensures.rest c.requires.ready (λ x v h k. search rules) c.requires.area c.requires.quarter

pub returns : goal.returns
returns g c = to_z-of_z w64 c.sum.result (search rules) ∙ c.sum.ensures.ran.2
    ∙ net_sum g.C.Chain g.C.Link.Lot c.args.area c.args.quarter _ c.map.ensures.source c.map.ensures.closure c.parts.ensures.chain c.parts.ensures.rest c.requires.ready (λ x v h k. search rules) c.sum.ensures.ran.0 (c.sum.ensures.ran.1 tt)
