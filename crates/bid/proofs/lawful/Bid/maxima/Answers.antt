use Rattle.std.proofs.Common.{◌≡◌, ℕ, ◌<◌, pos, slice_index_or, w32, SFits, sym, subst, lit<, arith, rules, tests}
use Rattle.std.proofs.lemmas.Int.{ints}
use Rattle.lot.specs.Page.{four, AllWithin}
use Rattle.lot.proofs.Machine.{all_within}
use Rattle.lot.proofs.Chains.{serves_list, maps_quad, same_at}
use Rattle.bid.specs.declared.lawful.Bid.{Bid}
use Rattle.bid.specs.Bidding.{most}
use Rattle.bid.specs.Laws.Bids.{fine_quarters}
use Rattle.bid.proofs.lawful.Bid.maxima.Goals as goal

most_fits : (b : Bid) (t : ℕ) → t < 4 → SFits w32 (most b.fields t)
most_fits b t l = let h = (fine_quarters b.fields.quarters b.fine t l).few in omega (arith, ints)

pub map-requires : goal.map-requires
map-requires c =
    let b = c.args.self.now in
    let qs = b.fields.quarters in
    let four = b.four in (
      lit< tt,
      (
        lit< tt,
        (
          lit< tt,
          serves_list _ _ _ (λ x q k. search (rules, tests)) qs (λ k l d.
              let small : SFits w32 (pos (slice_index_or qs k d).maximum) = subst (λ q. SFits w32 (pos q.maximum)) (same_at qs k (record { minimum = 0; maximum = 0; price = pos 0 }) d l) (most_fits b k (omega arith)) in
              search rules),
        ),
      ),
    )

pub returns : goal.returns
returns c =
    let b = c.args.self.now in
    let f = most b.fields in
    let same : c.map.result ≡ four f = maps_quad _ _ b.fields.quarters c.map.result (record { minimum = 0; maximum = 0; price = pos 0 }) f (λ k l y q e. let h : SFits w32 (f k) = most_fits b k l in search (rules, tests)) c.map.ensures.items in
    record { same = same; within = subst (AllWithin 99999) (sym same) (all_within f (λ t l. (fine_quarters b.fields.quarters b.fine t l).few)) }
