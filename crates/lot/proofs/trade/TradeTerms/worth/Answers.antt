use Rattle.std.proofs.Common.{◌∙◌, lit<}
use Rattle.lot.proofs.Terms.{worth_within, worth_same, neg_fits, neg_back}
use Rattle.lot.proofs.trade.TradeTerms.worth.Goals as goal

pub overflow_sub-result : goal.overflow_sub-result
overflow_sub-result c = neg_fits (worth_within c.args.self.now c.args.quantities.now c.nets.result c.nets.ensures c.requires c.dot.ensures) (lit< tt)

pub returns : goal.returns
returns c =
    neg_back (worth_within c.args.self.now c.args.quantities.now c.nets.result c.nets.ensures c.requires c.dot.ensures) (lit< tt)
    ∙ worth_same c.args.self.now c.args.quantities.now c.nets.result c.nets.ensures c.requires c.dot.ensures
