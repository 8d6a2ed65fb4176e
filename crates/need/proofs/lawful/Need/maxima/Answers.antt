use Rattle.std.proofs.Common.{◌≡◌, pos, slice_index_or, w32, SFits, sym, subst, lit<, arith, rules, tests}
use Rattle.lot.specs.Page.{four, AllWithin}
use Rattle.lot.proofs.Machine.{all_within}
use Rattle.lot.proofs.Chains.{serves_list, maps_quad, same_at}
use Rattle.need.specs.Needing.{wanted}
use Rattle.need.proofs.Trades.{few, wanted_fits}
use Rattle.need.proofs.lawful.Need.maxima.Goals as goal

pub map-requires : goal.map-requires
map-requires c =
    let b = c.args.self.now in
    let qs = b.fields.quarters in
    let four = b.four in (
      lit< tt,
      (
        lit< tt,
        (
          lit< tt,
          serves_list _ _ _ (λ x q k. search (rules, tests)) qs (λ k l d.
              let small : SFits w32 (pos (slice_index_or qs k d).maximum) = subst (λ q. SFits w32 (pos q.maximum)) (same_at qs k (record { maximum = 0; price = pos 0 }) d l) (wanted_fits b k (omega arith)) in
              search rules),
        ),
      ),
    )

pub returns : goal.returns
returns c =
    let b = c.args.self.now in
    let f = wanted b.fields in
    let same : c.map.result ≡ four f = maps_quad _ _ b.fields.quarters c.map.result (record { maximum = 0; price = pos 0 }) f (λ k l y q e. let h : SFits w32 (f k) = wanted_fits b k l in search (rules, tests)) c.map.ensures.items in
    record { same = same; small = subst (AllWithin 99999) (sym same) (all_within f (few b)) }
