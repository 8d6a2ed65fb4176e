use Rattle.std.proofs.Common.{◌<◌, sym, subst}
use Rattle.bid.proofs.Trades.{inside}
use Rattle.bid.proofs.lawful.Bid.terms.Goals as goal

pub invariant_of-result : goal.invariant_of-result
invariant_of-result c = record { fair = record { inside = subst (λ a. a < 32) (sym c.from.ensures) (inside c.args.self.now); priced = c.limits.ensures.within } }
