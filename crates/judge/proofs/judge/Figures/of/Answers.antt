use Rattle.std.proofs.Common.{ap₂, ◌∙◌, rules, w64}
use Rattle.std.proofs.lemmas.Int.{to_z-of_z}
use Rattle.lot.specs.Page.{table_of}
use Rattle.lot.proofs.Bundled.{duties_of}
use Rattle.lot.proofs.Splits.{priced_quoted}
use Rattle.judge.proofs.Accepted.{foregone_fits, passed_fits, passed_is}
use Rattle.judge.proofs.judge.Figures.of.Goals as goal

pub overflow_sub-result : goal.overflow_sub-result
overflow_sub-result g c =
    let x = c.args.lot.now in
    let p = c.args.proposal.prices in
    passed_fits (search rules) (search rules) c.best.ensures c.welfare-welfare.ensures
    (foregone_fits (g.L.Lot.meaning x) (table_of c.args.proposal.cells.bytes.now) (table_of p.bytes.now) (duties_of g.L.Lot x) c.requires.sized.few c.requires.feasible (priced_quoted p.bytes.now p.priced) p.priced.capped)

pub returns : goal.returns
returns g c =
    let x = c.args.lot.now in
    let p = c.args.proposal.prices in
    ap₂ (λ w f. record { welfare = w; foregone = f })
    (to_z-of_z w64 c.welfare-welfare.result (search rules) ∙ c.welfare-welfare.ensures)
    (passed_is (search rules) (search rules) c.best.ensures c.welfare-welfare.ensures
    (foregone_fits (g.L.Lot.meaning x) (table_of c.args.proposal.cells.bytes.now) (table_of p.bytes.now) (duties_of g.L.Lot x) c.requires.sized.few c.requires.feasible (priced_quoted p.bytes.now p.priced) p.priced.capped))
