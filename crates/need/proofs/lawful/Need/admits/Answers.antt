use Rattle.std.proofs.Common.{◌≡◌, Bool, ◌&&◌, length, ℤ, pos, ap, ◌∙◌, rules, tests}
use lib.Signed.{le_z}
use Rattle.std.proofs.lemmas.Iterator.{YieldsList-from_slice, YieldsList-from_zip}
use Rattle.std.proofs.lemmas.Iterator.Search.{all_from_yields_List}
use Rattle.lot.specs.Page.{at}
use Rattle.lot.specs.Laws.Sums.{every_same}
use Rattle.lot.proofs.Terms.{four_at}
use Rattle.lot.proofs.Chains.{all_of_zip}
use Rattle.need.specs.Needing.{wanted}
use Rattle.need.proofs.lawful.Need.admits.Goals as goal

pub returns : goal.returns
returns c =
    let q = c.args.cells.now in
    let m = c.maxima.result in
    let f = wanted c.args.self.now.fields in
    let fq : length q ≡ 4 = cc in
    let fm : length m ≡ 4 = ap length c.maxima.ensures.same in
    let test : ℤ × ℤ → Bool = λ p. le_z (pos 0) p.0 && le_z p.0 p.1 in
    all_from_yields_List test c.all.new.self _ c.all.result c.all.ensures.ran (YieldsList-from_zip (YieldsList-from_slice q (cc)) (YieldsList-from_slice m (cc))) (λ x b q k. search (rules, tests))
    ∙ all_of_zip test q m (pos 0) (pos 0) fq fm
    ∙ every_same 4 (λ t. test (at q t, at m t)) (λ t. test (at q t, f t)) (λ t l. ap (λ z. test (at q t, z)) (ap (λ ys. at ys t) c.maxima.ensures.same ∙ four_at f t l))
