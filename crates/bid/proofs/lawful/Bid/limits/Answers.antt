use Rattle.std.proofs.Common.{◌≡◌, ℕ, ◌<◌, pos, w32, SFits, sym, subst, arith, rules, tests}
use Rattle.std.proofs.lemmas.Int.{ints}
use Rattle.lot.specs.Page.{four, AllWithin}
use Rattle.lot.proofs.Machine.{all_within}
use Rattle.lot.proofs.Chains.{maps_quad}
use Rattle.bid.specs.declared.lawful.Bid.{Bid}
use Rattle.bid.specs.Bidding.{bid_trade}
use Rattle.bid.specs.Laws.Bids.{fine_quarters}
use Rattle.bid.proofs.lawful.Bid.limits.Goals as goal

limit_fits : (b : Bid) (t : ℕ) → t < 4 → SFits w32 ((bid_trade b.fields).limit t)
limit_fits b t l = let h = (fine_quarters b.fields.quarters b.fine t l).priced in omega (arith, ints)

pub returns : goal.returns
returns c =
    let b = c.args.self.now in
    let f = (bid_trade b.fields).limit in
    let same : c.map.result ≡ four f = maps_quad _ _ b.fields.quarters c.map.result (record { minimum = 0; maximum = 0; price = pos 0 }) f (λ k l y q e. let h : SFits w32 (f k) = limit_fits b k l in search (rules, tests)) c.map.ensures.items in
    record { same = same; within = subst (AllWithin 9999999) (sym same) (all_within f (λ t l. (fine_quarters b.fields.quarters b.fine t l).priced)) }
