use Rattle.std.proofs.Common.{rules}
use Rattle.lot.proofs.Splits.{priced_quoted}
use Rattle.joined.proofs.Halves.{breaks}
use Rattle.joined.proofs.Walks.{named_can, named}
use Rattle.joined.proofs.chained.ChainedLot.broken_row.Goals as goal

pub find_map-requires-clause-callable : goal.find_map-requires-clause-callable
find_map-requires-clause-callable g c = named_can g.C.Chain g.C.Link.Lot (breaks _ (priced_quoted _ c.args.prices.priced)) _ _ _ c.parts.ensures.chain c.parts.ensures.rest c.parts.ensures.passed c.requires.ready (λ x r h k. search rules) (λ x ready below. let few = c.requires.ready.sized.few in search rules)

pub returns : goal.returns
returns g c = named g.C.Chain g.C.Link.Lot (breaks _ (priced_quoted _ c.args.prices.priced)) _ _ _ c.parts.ensures.chain c.parts.ensures.rest c.parts.ensures.passed c.requires.ready (λ x r h k. search rules) c.find_map.new.self c.find_map.result c.find_map.ensures.ran c.find_map.ensures.runs
