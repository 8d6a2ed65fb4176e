use Rattle.std.proofs.Common.{◌<◌, sym, subst}
use Rattle.lot.specs.Page.{AllWithin}
use Rattle.lot.proofs.Machine.{all_within}
use Rattle.need.specs.Needing.{need_trade}
use Rattle.need.proofs.Trades.{inside, priced}
use Rattle.need.proofs.lawful.Need.terms.Goals as goal

pub invariant_of-result : goal.invariant_of-result
invariant_of-result c =
    let b = c.args.self.now in
    record { fair = record { inside = subst (λ a. a < 32) (sym c.from.ensures) (inside b); priced = subst (AllWithin 9999999) (sym c.limits.ensures) (all_within (need_trade b.fields).limit (priced b)) } }
