use Rattle.std.proofs.Common.{◌≡◌, Bool, length, ℤ, pos, ◌*ℤ◌, ◌∙◌, rules, tests}
use lib.Signed.{le_z}
use Rattle.std.proofs.lemmas.Iterator.{YieldsList-from_slice, YieldsList-from_zip}
use Rattle.std.proofs.lemmas.Iterator.Search.{all_from_yields_List}
use Rattle.lot.proofs.Chains.{all_of_zip}
use Rattle.need.proofs.as_lot.no_loss_in.Goals as goal

pub returns : goal.returns
returns c =
    let q = c.args.cells.now in
    let g = c.args.gains.now in
    let fq : length q ≡ 4 = cc in
    let fg : length g ≡ 4 = cc in
    let test : ℤ × ℤ → Bool = λ p. le_z (pos 0) (p.0 *ℤ p.1) in
    all_from_yields_List test c.all.new.self _ c.all.result c.all.ensures.ran (YieldsList-from_zip (YieldsList-from_slice q (cc)) (YieldsList-from_slice g (cc))) (λ x b q k. search (rules, tests))
    ∙ all_of_zip test q g (pos 0) (pos 0) fq fg
