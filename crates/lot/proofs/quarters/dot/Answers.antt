use Rattle.std.proofs.Common.{◌≡◌, length, ◌*ℤ◌, ◌∙◌, lit<, w64, rules, tests}
use Rattle.std.proofs.lemmas.Int.{to_z-of_z}
use Rattle.std.proofs.lemmas.Iterator.{YieldsList-from_slice, YieldsList-from_zip, YieldsList-from_map}
use Rattle.std.proofs.lemmas.Iterator.Consumers.{YieldsList-at}
use Rattle.lot.specs.Page.{at}
use Rattle.lot.specs.Laws.Ring.{abs_mul_le}
use Rattle.lot.proofs.Machine.{each_within}
use Rattle.lot.proofs.Dots.{sums_fit, sum_of_four, map_pairs}
use Rattle.lot.proofs.quarters.dot.Goals as goal

pub sum-requires-clause-fits : goal.sum-requires-clause-fits
sum-requires-clause-fits c =
    let q = c.args.quantities.now in
    let p = c.args.prices.now in
    let fq : length q ≡ 4 = cc in
    let fp : length p ≡ 4 = cc in
    sums_fit (λ t. at q t *ℤ at p t)
    (YieldsList-from_map _ (λ z. z.0 *ℤ z.1) (YieldsList-at c.map.ensures.source (YieldsList-from_zip (YieldsList-from_slice q (cc)) (YieldsList-from_slice p (cc)))) c.map.ensures.closure (λ x r q k. search (rules, tests)))
    (map_pairs (λ z. z.0 *ℤ z.1) q p fq fp) 1999979800002 (λ k l. abs_mul_le (at q k) (at p k) 99999 19999998 (each_within c.requires.quantities k l) (each_within c.requires.prices k l)) (lit< tt)

pub returns : goal.returns
returns c =
    let q = c.args.quantities.now in
    let p = c.args.prices.now in
    let fq : length q ≡ 4 = cc in
    let fp : length p ≡ 4 = cc in
    to_z-of_z w64 c.sum.result (search rules)
    ∙ sum_of_four (λ t. at q t *ℤ at p t)
    (YieldsList-from_map _ (λ z. z.0 *ℤ z.1) (YieldsList-at c.map.ensures.source (YieldsList-from_zip (YieldsList-from_slice q (cc)) (YieldsList-from_slice p (cc)))) c.map.ensures.closure (λ x r q k. search (rules, tests)))
    (map_pairs (λ z. z.0 *ℤ z.1) q p fq fp) c.sum.result c.sum.ensures.ran
