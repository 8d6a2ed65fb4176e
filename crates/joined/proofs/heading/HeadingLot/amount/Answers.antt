use Rattle.std.proofs.Common.{pos, sym, refl}
use Rattle.lot.specs.Laws.Joins.{money_zero}
use Rattle.joined.proofs.heading.HeadingLot.amount.Goals as goal

pub returns : goal.returns
returns c = sym (money_zero (λ a t. pos 0) _ (λ a t _ _. refl))
