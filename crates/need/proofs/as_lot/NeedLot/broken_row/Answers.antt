use Rattle.std.proofs.Common.{cond, Some, None, ap, ◌∙◌}
use Rattle.lot.proofs.Terms.{gains_are}
use Rattle.lot.proofs.Alone.{alone_long, unless}
use Rattle.need.specs.Needing.{need_trade, needing}
use Rattle.need.proofs.Trades.{rule_is}
use Rattle.need.proofs.as_lot.NeedLot.broken_row.Goals as goal

pub row-requires : goal.row-requires
row-requires c = alone_long (needing c.args.self.now.fields) c.args.cells.bytes.now c.requires.ready.sized

pub returns : goal.returns
returns c =
    let b = c.args.self.now in
    let p = c.args.prices.bytes.now in
    c.then_some.ensures
    ∙ unless c.no_loss_in-kept.result
    ∙ ap (λ v. cond v None (Some 0)) (rule_is b c.args.cells.bytes.now p c.row.result c.gains.result c.row.ensures (gains_are (need_trade b.fields) c.terms.result c.terms.ensures p c.gains.result c.gains.ensures.same) c.no_loss_in-kept.ensures)
