use Rattle.std.proofs.Common.{◌≡◌, ℕ, ℤ, pos, ◌+ℤ◌, [], sym, refl, ap, ◌∙◌, arith, lit<, w64, rules, tests}
use Rattle.std.proofs.lemmas.Int.{ints, to_z-of_z}
use Rattle.std.proofs.lemmas.Iterator.{YieldsList-from_range, YieldsList-from_map}
use Rattle.lot.specs.Page.{table_of}
use Rattle.lot.specs.Laws.Sums.{sum_four}
use Rattle.lot.proofs.Dots.{sums_fit, sum_of_four}
use Rattle.border.specs.Flow.{blocks, sum_over, stretch}
use Rattle.border.specs.Stretch.{stretch_best}
use Rattle.border.proofs.Steps.{rented_quarter, rented_half, two_fit, rents_in_two}
use Rattle.border.proofs.lawful.Border.greatest_rent.Goals as goal

in_turn : (a b c d : ℤ) → a +ℤ b +ℤ c +ℤ d ≡ a +ℤ (b +ℤ (c +ℤ (d +ℤ pos 0)))
in_turn a b c d = omega (arith, ints)

pub sum-requires-clause-fits : goal.sum-requires-clause-fits
sum-requires-clause-fits c =
    let x = c.args.self.now in
    let b = c.args.prices.bytes.now in
    let h : ℕ → ℤ = λ t. stretch_best (stretch x.fields (table_of b) (t, [])) in
    sums_fit h (YieldsList-from_map _ h (YieldsList-from_range 0 4 4 c.map.ensures.source refl) c.map.ensures.closure (λ x r q k. search (rules, tests))) refl
    99999000000000 (λ k l. let r = rented_quarter x b c.args.prices.priced k l refl refl in r.near.size) (lit< tt)

pub overflow_add-result : goal.overflow_add-result
overflow_add-result c =
    let x = c.args.self.now in
    let b = c.args.prices.bytes.now in
    two_fit x b c.args.prices.priced
    (rented_half x b c.args.prices.priced 0 1 (lit< tt) (lit< tt) c.half.ensures c.best-former.ensures)
    (rented_half x b c.args.prices.priced 2 3 (lit< tt) (lit< tt) c.half-in-Two.ensures c.best-latter.ensures)

pub returns-in-One : goal.returns-in-One
returns-in-One c =
    let x = c.args.self.now in
    let b = c.args.prices.bytes.now in
    let h : ℕ → ℤ = λ t. stretch_best (stretch x.fields (table_of b) (t, [])) in
    to_z-of_z w64 c.sum.result (search rules)
    ∙ sum_of_four h (YieldsList-from_map _ h (YieldsList-from_range 0 4 4 c.map.ensures.source refl) c.map.ensures.closure (λ x r q k. search (rules, tests))) refl c.sum.result c.sum.ensures.ran
    ∙ sum_four h
    ∙ in_turn (h 0) (h 1) (h 2) (h 3)
    ∙ ap (λ s. sum_over (blocks s) (λ k. stretch_best (stretch x.fields (table_of b) k))) (sym c.in-One.is)

pub returns-in-Two : goal.returns-in-Two
returns-in-Two c =
    let x = c.args.self.now in
    let b = c.args.prices.bytes.now in
    rents_in_two x b c.args.prices.priced c.in-Two.is
    (rented_half x b c.args.prices.priced 0 1 (lit< tt) (lit< tt) c.half.ensures c.best-former.ensures)
    (rented_half x b c.args.prices.priced 2 3 (lit< tt) (lit< tt) c.half-in-Two.ensures c.best-latter.ensures)
