use Rattle.std.proofs.Common.{sym, ◌∙◌, subst, lit≤, w64, rules}
use Rattle.std.proofs.lemmas.Int.{to_z-of_z}
use Rattle.lot.specs.Page.{AllWithin}
use Rattle.lot.proofs.Terms.{nets_small, prices_within, all_more, amount_same}
use Rattle.lot.proofs.trade.TradeTerms.amount.Goals as goal

pub dot-requires : goal.dot-requires
dot-requires c = record {
  quantities = nets_small c.args.self.now c.args.quantities.now c.nets.result c.nets.ensures c.requires;
  prices = subst (AllWithin 19999998) (sym c.area.ensures) (all_more (prices_within c.args.prices.bytes.now c.args.prices.priced c.args.self.now.area c.args.self.now.fair.inside) (lit≤ tt));
}

pub returns : goal.returns
returns c =
    to_z-of_z w64 c.dot.result (search rules)
    ∙ amount_same c.args.self.now c.args.quantities.now c.nets.result c.area.result c.args.prices.bytes.now c.nets.ensures c.area.ensures c.dot.result c.dot.ensures
