use Rattle.border.proofs.Steps.{first_inside, second_inside}
use Rattle.border.proofs.Rows.{row_long, prices_within, cells_within, gaps_within, amount_is}
use Rattle.border.proofs.as_lot.BorderLot.amount.Goals as goal

pub row-flow-requires : goal.row-flow-requires
row-flow-requires c = row_long c.args.self.now.fields c.args.cells.bytes.now c.requires.ready.sized

pub area-first-requires : goal.area-first-requires
area-first-requires c = first_inside c.args.self.now c.from.ensures

pub area-second-requires : goal.area-second-requires
area-second-requires c = second_inside c.args.self.now c.from-2.ensures

pub gains-gaps-requires : goal.gains-gaps-requires
gains-gaps-requires c = record {
  prices = prices_within c.args.prices.bytes.now c.args.prices.priced c.from-2.result (second_inside c.args.self.now c.from-2.ensures) c.area-second.result c.area-second.ensures;
  limits = prices_within c.args.prices.bytes.now c.args.prices.priced c.from.result (first_inside c.args.self.now c.from.ensures) c.area-first.result c.area-first.ensures;
}

pub dot-requires : goal.dot-requires
dot-requires c = record {
  quantities = cells_within c.args.self.now c.args.cells.bytes.now c.args.prices.bytes.now c.requires.ready c.args.prices.priced c.row-flow.result c.row-flow.ensures;
  prices = gaps_within c.args.self.now c.args.cells.bytes.now c.args.prices.bytes.now c.requires.ready c.args.prices.priced c.from.ensures c.from-2.ensures c.area-first.result c.area-second.result c.gains-gaps.result c.area-first.ensures c.area-second.ensures c.gains-gaps.ensures;
}

pub returns : goal.returns
returns c = amount_is c.args.self.now c.args.cells.bytes.now c.args.prices.bytes.now c.requires.ready c.args.prices.priced c.from.ensures c.from-2.ensures c.area-first.result c.area-second.result c.gains-gaps.result c.area-first.ensures c.area-second.ensures c.gains-gaps.ensures
    c.args.row c.row-flow.result c.row-flow.ensures c.dot.result c.dot.ensures
