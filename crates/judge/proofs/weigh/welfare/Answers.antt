use Rattle.std.proofs.Common.{◌∙◌, arith, w64, rules, tests}
use Rattle.std.proofs.lemmas.Int.{to_z-of_z}
use Rattle.std.proofs.lemmas.Iterator.{YieldsList-from_range, YieldsList-from_map}
use Rattle.lot.specs.Page.{table_of}
use Rattle.lot.proofs.Splits.{sized_fits}
use Rattle.judge.proofs.Worths.{rows_fit, rows_sum, worth_small}
use Rattle.judge.proofs.weigh.welfare.Goals as goal

pub sum-requires-clause-fits : goal.sum-requires-clause-fits
sum-requires-clause-fits g c =
    let m = g.L.Lot.meaning c.args.lot.now in
    let b = c.args.cells.bytes.now in
    let few = c.requires.sized.few in
    rows_fit (m.worth (table_of b)) m.rows
    (YieldsList-from_map _ (m.worth (table_of b)) (YieldsList-from_range 0 c.row_count.result m.rows c.map.ensures.source (omega (arith, c.row_count.ensures))) c.map.ensures.closure (λ x r q k. search (rules, tests)))
    10000000000000 (worth_small m (table_of b) (g.L.Lot.limited c.args.lot.now few) (sized_fits m b c.requires.sized) c.requires.admitted) (omega arith)

pub returns : goal.returns
returns g c =
    let m = g.L.Lot.meaning c.args.lot.now in
    let b = c.args.cells.bytes.now in
    let few = c.requires.sized.few in
    to_z-of_z w64 c.sum.result (search rules)
    ∙ rows_sum (m.worth (table_of b)) m.rows
    (YieldsList-from_map _ (m.worth (table_of b)) (YieldsList-from_range 0 c.row_count.result m.rows c.map.ensures.source (omega (arith, c.row_count.ensures))) c.map.ensures.closure (λ x r q k. search (rules, tests)))
    c.sum.result c.sum.ensures.ran
