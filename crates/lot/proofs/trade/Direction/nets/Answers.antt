use Rattle.std.proofs.Common.{◌≡◌, length, pos, slice_index_or, w32, SFits, to_z, of_z, subst, lit<, lit≤, arith, rules, tests}
use Rattle.lot.specs.Page.{Within, at}
use Rattle.lot.specs.Trade.{turned}
use Rattle.lot.specs.Direction.{sells}
use Rattle.lot.proofs.Chains.{serves_list, maps_quad, same_at}
use Rattle.lot.proofs.Machine.{fits_at, passed_at}
use Rattle.lot.proofs.trade.Direction.nets.Goals as goal

pub map-requires : goal.map-requires
map-requires c =
    let q = c.args.quantities.now in
    let four : length q ≡ 4 = cc in (
      lit< tt,
      (
        lit< tt,
        (
          lit< tt,
          serves_list _ _ _ (λ x q k. search (rules, tests)) q (λ k l d.
              let same : at q k ≡ slice_index_or q k d = same_at q k (pos 0) d l in
              let small : Within 19999998 (to_z w32 (of_z w32 (slice_index_or q k d))) = subst (λ z. Within 19999998 (to_z w32 (of_z w32 z))) same (passed_at c.requires k (omega arith) (lit≤ tt) (lit< tt)) in
              search rules),
        ),
      ),
    )

pub returns : goal.returns
returns c = maps_quad _ _ c.args.quantities.now c.map.result (pos 0) (λ t. turned (sells c.args.self) (at c.args.quantities.now t))
    (λ k l y q e. let f : SFits w32 (at c.args.quantities.now k) = fits_at c.requires k l (lit< tt) in search (rules, tests))
    c.map.ensures.items
