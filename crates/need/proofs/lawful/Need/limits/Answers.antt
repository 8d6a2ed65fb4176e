use Rattle.std.proofs.Common.{ℕ, ◌<◌, pos, w32, SFits, ap, ◌∙◌, sym, arith, rules, tests}
use Rattle.std.proofs.lemmas.Int.{ints}
use Rattle.lot.specs.Page.{four}
use Rattle.lot.proofs.Chains.{maps_quad}
use Rattle.need.specs.declared.lawful.Need.{Need}
use Rattle.need.specs.Fields.{need_quarter}
use Rattle.need.specs.Needing.{limit_of}
use Rattle.need.specs.Laws.Needs.{fine_quarters}
use Rattle.need.proofs.lawful.Need.limits.Goals as goal

price_fits : (b : Need) (t : ℕ) → t < 4 → SFits w32 (need_quarter b.fields.quarters t).price
price_fits b t l = let h = (fine_quarters b.fields.elasticity b.fields.quarters b.fine t l).priced in omega (arith, ints)

pub returns-in-Elastic : goal.returns-in-Elastic
returns-in-Elastic c =
    let b = c.args.self.now in
    let f : ℕ → _ = λ t. (need_quarter b.fields.quarters t).price in
    maps_quad _ _ b.fields.quarters c.map.result (record { maximum = 0; price = pos 0 }) f (λ k l y q e. let h : SFits w32 (f k) = price_fits b k l in search (rules, tests)) c.map.ensures.items
    ∙ ap (λ e. four (λ t. limit_of e b.fields.side (need_quarter b.fields.quarters t).price)) (sym c.in-Elastic.is)
