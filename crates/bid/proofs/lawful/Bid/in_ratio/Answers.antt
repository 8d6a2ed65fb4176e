use Rattle.std.proofs.Common.{ℕ, Bool, ◌*ℤ◌, refl, ap, ◌∙◌, arith, rules, tests}
use Rattle.std.proofs.lemmas.Iterator.{YieldsList-from_range}
use Rattle.std.proofs.lemmas.Iterator.Search.{all_from_yields_List}
use Rattle.lot.specs.Sum.{every, same_z}
use Rattle.lot.specs.Laws.Sums.{every_same}
use Rattle.lot.specs.Page.{four, at}
use Rattle.lot.proofs.Terms.{four_at}
use Rattle.lot.proofs.Chains.{all_range}
use Rattle.bid.specs.Bidding.{most}
use Rattle.bid.proofs.Trades.{pair, pairs_before}
use Rattle.bid.proofs.lawful.Bid.in_ratio.Goals as goal

pub returns : goal.returns
returns c =
    let f = c.args.self.now.fields in
    let q = at c.args.cells.now in
    let m = at c.maxima-most.result in
    let F : ℕ → Bool = λ t. every t (λ u. same_z (q t *ℤ m u) (q u *ℤ m t)) in
    all_from_yields_List F _ _ _ c.all.ensures.ran (YieldsList-from_range 0 4 4 refl refl) (λ x b q k. search (rules, tests))
    ∙ all_range 4 F
    ∙ ap (λ ys. every 4 (λ t. every t (λ u. same_z (q t *ℤ at ys u) (q u *ℤ at ys t)))) c.maxima-most.ensures.same
    ∙ every_same 4 (λ t. every t (λ u. same_z (q t *ℤ at (four (most f)) u) (q u *ℤ at (four (most f)) t))) (λ t. every t (pair f q t))
    (λ t l. every_same t (λ u. same_z (q t *ℤ at (four (most f)) u) (q u *ℤ at (four (most f)) t)) (pair f q t) (λ u k.
    λ i. same_z (q t *ℤ four_at (most f) u (omega arith) i) (q u *ℤ four_at (most f) t l i)))
    ∙ pairs_before f q
