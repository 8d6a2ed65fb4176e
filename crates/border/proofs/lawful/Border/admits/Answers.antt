use Rattle.std.proofs.Common.{◌≡◌, Bool, ◌&&◌, length, ℤ, pos, sym, ap, ◌∙◌, rules, tests}
use Rattle.std.proofs.lemmas.Iterator.{YieldsList-from_slice, YieldsList-from_zip}
use Rattle.std.proofs.lemmas.Iterator.Search.{all_from_yields_List}
use Rattle.lot.specs.Sum.{every}
use Rattle.lot.specs.Page.{at}
use Rattle.lot.proofs.Chains.{all_of_zip}
use Rattle.border.specs.declared.fields.BorderQuarter.{BorderQuarter}
use Rattle.border.specs.Flow.{passes, forward_at, back_at}
use Rattle.border.proofs.lawful.Border.admits.Goals as goal

pub returns-then-steady : goal.returns-then-steady
returns-then-steady c =
    let q = c.args.flow.now in
    let f = c.args.self.now.fields in
    let four : length q ≡ 4 = cc in
    let test : ℤ × BorderQuarter → Bool = λ p. passes p.1.forward p.1.back p.0 in
    all_from_yields_List test c.all.new.self _ c.all.result c.all.ensures.ran (YieldsList-from_zip (YieldsList-from_slice q (cc)) (YieldsList-from_slice f.quarters (cc))) (λ x b q k. search (rules, tests))
    ∙ all_of_zip test q f.quarters (pos 0) (record { forward = 0; back = 0 }) four c.args.self.now.four
    ∙ ap (λ v. v && every 4 (λ t. passes (forward_at f t) (back_at f t) (at q t))) (sym c.if-steady.true ∙ c.steady.ensures)
