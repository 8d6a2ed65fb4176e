use Rattle.std.proofs.Common.{◌≡◌, sym, refl, ◌∙◌, rules, tests}
use Rattle.std.proofs.lemmas.Bool.{both_ways}
use Rattle.std.proofs.lemmas.Iterator.{YieldsList-from_range}
use Rattle.std.proofs.lemmas.Iterator.Search.{all_from_yields_List}
use Rattle.lot.specs.Sum.{every}
use Rattle.lot.proofs.Chains.{all_range}
use Rattle.lot.proofs.Pricing.{area_passes, priced_from, priced_passes, unpriced}
use Rattle.lot.proofs.views.Prices.capped.Goals.{else-self-eq-PRICE_BYTES-via-then-self-eq-PRICE_BYTES+else-all, else-self-eq-PRICE_BYTES-via-else-self-eq-PRICE_BYTES}
use Rattle.lot.proofs.views.Prices.capped.Goals as goal

pub invariant_of-result : goal.invariant_of-result
invariant_of-result c =
    let F = area_passes c.args.self.bytes.now in
    let all : c.all.result ≡ every 32 F = all_from_yields_List F _ _ _ c.all.ensures.ran (YieldsList-from_range 0 32 32 refl refl) (λ x b q k. search (rules, tests)) ∙ all_range 32 F in
    record { priced = priced_from c.args.self.bytes.now c.if-self-eq-PRICE_BYTES.true (sym all ∙ c.if-all.true) }

pub returns-else-self-eq-PRICE_BYTES-clause-when : goal.returns-else-self-eq-PRICE_BYTES-clause-when
returns-else-self-eq-PRICE_BYTES-clause-when c = unpriced c.args.self.bytes.now (λ p. elim c.else-self-eq-PRICE_BYTES.branch [
  | else-self-eq-PRICE_BYTES-via-then-self-eq-PRICE_BYTES+else-all w ↦
      let F = area_passes c.args.self.bytes.now in
      let all : w.all.result ≡ every 32 F = all_from_yields_List F _ _ _ w.all.ensures.ran (YieldsList-from_range 0 32 32 refl refl) (λ x b q k. search (rules, tests)) ∙ all_range 32 F in
      both_ways w.all.result w.if-all.false (all ∙ priced_passes _ p)
  | else-self-eq-PRICE_BYTES-via-else-self-eq-PRICE_BYTES w ↦ w.if-self-eq-PRICE_BYTES.false p.long
])
