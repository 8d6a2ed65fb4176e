use Rattle.std.proofs.Common.{ℕ, Bool, ◌*ℤ◌, refl, ◌∙◌, arith, rules, tests}
use Rattle.std.proofs.lemmas.Iterator.{YieldsList-from_range}
use Rattle.std.proofs.lemmas.Iterator.Search.{all_from_yields_List}
use Rattle.lot.specs.Sum.{same_z}
use Rattle.lot.specs.Page.{at}
use Rattle.lot.proofs.Chains.{all_range}
use Rattle.bid.proofs.as_lot.shares_before.Goals as goal

pub returns : goal.returns
returns c =
    let q = at c.args.cells.now in
    let m = at c.args.most.now in
    let t = c.args.t in
    let F : ℕ → Bool = λ u. same_z (q t *ℤ m u) (q u *ℤ m t) in
    all_from_yields_List F _ _ _ c.all.ensures.ran (YieldsList-from_range 0 t t refl (omega arith)) (λ x b q k. search (rules, tests))
    ∙ all_range t F
