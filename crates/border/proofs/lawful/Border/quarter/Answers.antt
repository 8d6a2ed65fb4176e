use Rattle.border.proofs.Steps.{first_inside, second_inside, gap_fits, quarter_is}
use Rattle.border.proofs.lawful.Border.quarter.Goals as goal

pub price-first-requires : goal.price-first-requires
price-first-requires c = (c.requires, first_inside c.args.self.now c.from.ensures)

pub price-second-requires : goal.price-second-requires
price-second-requires c = (c.requires, second_inside c.args.self.now c.from-2.ensures)

pub overflow_sub-result : goal.overflow_sub-result
overflow_sub-result c = gap_fits c.args.self.now c.args.prices.bytes.now c.args.prices.priced c.from.ensures c.from-2.ensures c.args.quarter c.requires c.price-first.result c.price-second.result c.price-first.ensures c.price-second.ensures

pub returns : goal.returns
returns c = quarter_is c.args.self.now c.args.prices.bytes.now c.args.prices.priced c.from.ensures c.from-2.ensures c.args.quarter c.requires c.price-first.result c.price-second.result c.price-first.ensures c.price-second.ensures
