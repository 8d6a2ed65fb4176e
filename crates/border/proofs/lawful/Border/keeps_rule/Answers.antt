use Rattle.std.proofs.Common.{ℕ, Bool, [], sym, refl, ap, ◌∙◌, rules, tests}
use Rattle.std.proofs.lemmas.Iterator.{YieldsList-from_range}
use Rattle.std.proofs.lemmas.Iterator.Search.{all_from_yields_List}
use Rattle.lot.specs.Page.{at, table_of}
use Rattle.border.specs.Flow.{blocks, every_of, stretch}
use Rattle.border.specs.Stretch.{stretch_keeps}
use Rattle.border.proofs.lawful.Border.keeps_rule.Goals as goal

pub returns-in-One : goal.returns-in-One
returns-in-One c =
    let f = c.args.self.now.fields in
    let p = table_of c.args.prices.bytes.now in
    let q = at c.args.flow.now in
    let F : ℕ → Bool = λ t. stretch_keeps (stretch f p (t, [])) (q t) in
    all_from_yields_List F _ _ _ c.all.ensures.ran (YieldsList-from_range 0 4 4 refl refl) (λ x b q k. search (rules, tests))
    ∙ ap (λ s. every_of (blocks s) (λ k. stretch_keeps (stretch f p k) (q k.0))) (sym c.in-One.is)
