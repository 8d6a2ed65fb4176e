use Rattle.std.proofs.Common.{pos, ◌*ℤ◌, ap, ◌∙◌, ap₂, w64, rules}
use Rattle.std.specs.Int.{int_max}
use Rattle.std.proofs.lemmas.Int.{to_z-of_z}
use Rattle.lot.specs.Page.{table_of, at}
use Rattle.lot.specs.Trade.{gain}
use Rattle.lot.specs.Laws.Sums.{sum_same}
use Rattle.lot.proofs.Terms.{gains_are, four_at}
use Rattle.need.specs.Needing.{need_trade, wanted}
use Rattle.need.proofs.as_lot.NeedLot.best.Goals as goal

pub most_earned_in-requires : goal.most_earned_in-requires
most_earned_in-requires c = record { maxima = c.maxima.ensures.small; gains = c.gains.ensures.within }

pub returns : goal.returns
returns c =
    let b = c.args.self.now in
    let f = wanted b.fields in
    let g = gain (need_trade b.fields) (table_of c.args.prices.bytes.now) in
    let eg = gains_are (need_trade b.fields) c.terms.result c.terms.ensures c.args.prices.bytes.now c.gains.result c.gains.ensures.same in
    to_z-of_z w64 c.most_earned_in.result (search rules)
    ∙ c.most_earned_in.ensures
    ∙ sum_same 4 (λ t. int_max (pos 0) (at c.maxima.result t *ℤ at c.gains.result t)) (λ t. int_max (pos 0) (f t *ℤ g t))
    (λ t l. ap (int_max (pos 0)) (ap₂ ◌*ℤ◌ (ap (λ ys. at ys t) c.maxima.ensures.same ∙ four_at f t l) (ap (λ ys. at ys t) eg ∙ four_at g t l)))
