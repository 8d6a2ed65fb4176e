use Rattle.std.proofs.Common.{◌-ℤ◌, sym, ap, ◌∙◌, subst}
use Rattle.lot.specs.Page.{at, four, AllWithin}
use Rattle.lot.specs.Trade.{turned}
use Rattle.lot.specs.Direction.{sells}
use Rattle.lot.proofs.Terms.{gains_within}
use Rattle.lot.proofs.trade.TradeTerms.gains.Goals as goal

pub returns-clause-within : goal.returns-clause-within
returns-clause-within c =
    let x = c.args.self.now in
    subst (AllWithin 19999998) (sym (c.gains.ensures ∙ ap (λ ps. four (λ t. turned (sells x.direction) (at ps t -ℤ at x.limits t))) c.area.ensures)) (gains_within x c.args.prices.bytes.now c.args.prices.priced)
