use Rattle.std.proofs.Common.{◌≡◌, ◌≤◌, length, ℤ, pos, ◌*ℤ◌, nat_abs, ◌∙◌, arith, lit<, w64, rules, tests}
use Rattle.std.specs.Int.{int_max}
use Rattle.std.proofs.lemmas.Int.{ints, clamps, to_z-of_z}
use Rattle.std.proofs.lemmas.Iterator.{YieldsList-from_slice, YieldsList-from_zip, YieldsList-from_map}
use Rattle.std.proofs.lemmas.Iterator.Consumers.{YieldsList-at}
use Rattle.lot.specs.Page.{at}
use Rattle.lot.specs.Laws.Ring.{abs_mul_le}
use Rattle.lot.proofs.Machine.{each_within}
use Rattle.lot.proofs.Dots.{sums_fit, sum_of_four, map_pairs}
use Rattle.need.proofs.as_lot.most_earned_in.Goals as goal

up : (z : ℤ) → nat_abs z ≤ 1999979800002 → nat_abs (int_max (pos 0) z) ≤ 1999979800002
up z h = omega (arith, ints, clamps)

pub sum-requires-clause-fits : goal.sum-requires-clause-fits
sum-requires-clause-fits c =
    let q = c.args.maxima.now in
    let p = c.args.gains.now in
    let fq : length q ≡ 4 = cc in
    let fp : length p ≡ 4 = cc in
    sums_fit (λ t. int_max (pos 0) (at q t *ℤ at p t))
    (YieldsList-from_map _ (λ z. int_max (pos 0) (z.0 *ℤ z.1)) (YieldsList-at c.map.ensures.source (YieldsList-from_zip (YieldsList-from_slice q (cc)) (YieldsList-from_slice p (cc)))) c.map.ensures.closure (λ x r q k. search (rules, tests)))
    (map_pairs (λ z. int_max (pos 0) (z.0 *ℤ z.1)) q p fq fp) 1999979800002
    (λ k l. up (at q k *ℤ at p k) (abs_mul_le (at q k) (at p k) 99999 19999998 (each_within c.requires.maxima k l) (each_within c.requires.gains k l))) (lit< tt)

pub returns : goal.returns
returns c =
    let q = c.args.maxima.now in
    let p = c.args.gains.now in
    let fq : length q ≡ 4 = cc in
    let fp : length p ≡ 4 = cc in
    to_z-of_z w64 c.sum.result (search rules)
    ∙ sum_of_four (λ t. int_max (pos 0) (at q t *ℤ at p t))
    (YieldsList-from_map _ (λ z. int_max (pos 0) (z.0 *ℤ z.1)) (YieldsList-at c.map.ensures.source (YieldsList-from_zip (YieldsList-from_slice q (cc)) (YieldsList-from_slice p (cc)))) c.map.ensures.closure (λ x r q k. search (rules, tests)))
    (map_pairs (λ z. int_max (pos 0) (z.0 *ℤ z.1)) q p fq fp) c.sum.result c.sum.ensures.ran
