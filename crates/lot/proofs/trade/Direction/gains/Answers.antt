use Rattle.std.proofs.Common.{◌-ℤ◌, w32, SFits, to_z, of_z, lit<, lit≤, rules, tests}
use Rattle.lot.specs.Page.{Within, at}
use Rattle.lot.specs.Trade.{turned}
use Rattle.lot.specs.Direction.{sells}
use Rattle.lot.proofs.Chains.{serves_below, from_quad}
use Rattle.lot.proofs.Machine.{fits_at, passed_at}
use Rattle.lot.proofs.trade.Direction.gains.Goals as goal

pub from_fn-requires : goal.from_fn-requires
from_fn-requires c = (
  lit< tt,
  serves_below _ _ _ (λ x q k. search (rules, tests)) 4 (λ k l.
      let p : Within 9999999 (to_z w32 (of_z w32 (at c.args.prices.now k))) = passed_at c.requires.prices k l (lit≤ tt) (lit< tt) in
      let q : Within 9999999 (to_z w32 (of_z w32 (at c.args.limits.now k))) = passed_at c.requires.limits k l (lit≤ tt) (lit< tt) in
      search rules),
)

pub returns : goal.returns
returns c = from_quad _ _ c.from_fn.result (λ t. turned (sells c.args.self) (at c.args.prices.now t -ℤ at c.args.limits.now t))
    (λ k l y q e.
    let f : SFits w32 (at c.args.prices.now k) = fits_at c.requires.prices k l (lit< tt) in
    let g : SFits w32 (at c.args.limits.now k) = fits_at c.requires.limits k l (lit< tt) in
    search (rules, tests))
    c.from_fn.ensures.items
