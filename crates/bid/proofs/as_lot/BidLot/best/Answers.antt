use Rattle.std.proofs.Common.{sym, subst}
use Rattle.lot.specs.Page.{Within}
use Rattle.lot.proofs.Machine.{dot_within}
use Rattle.lot.proofs.Terms.{earned}
use Rattle.lot.proofs.Alone.{best_of_lem}
use Rattle.bid.specs.Bidding.{bid_trade, most}
use Rattle.bid.proofs.as_lot.BidLot.best.Goals as goal

pub dot-requires : goal.dot-requires
dot-requires c = record { quantities = c.maxima.ensures.within; prices = c.gains.ensures.within }

pub returns : goal.returns
returns c =
    let b = c.args.self.now in
    best_of_lem
    (subst (Within 7999919200008) (sym c.dot.ensures) (dot_within c.maxima.ensures.within c.gains.ensures.within))
    c.max.ensures.value
    (earned (bid_trade b.fields) c.terms.result c.terms.ensures c.args.prices.bytes.now c.gains.result c.gains.ensures.same (most b.fields) c.maxima.result c.maxima.ensures.same c.dot.result c.dot.ensures)
