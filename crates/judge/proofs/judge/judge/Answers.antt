use Rattle.std.proofs.Common.{◌≤◌, Ok, Err, sym, refl, ap, ◌∙◌, arith}
use Rattle.std.proofs.lemmas.Result.{err_from_is_err_and}
use Rattle.lot.specs.Meaning.{cell_rows}
use Rattle.lot.specs.Laws.Sums.{count_le}
use Rattle.lot.specs.Page.{table_of}
use Rattle.lot.proofs.Bundled.{duties_of}
use Rattle.judge.proofs.Accepted.{counted, sized_at, feasible_when, page_refuses, market_refuses, accepts, is_accepted, is_covered}
use Rattle.judge.proofs.judge.judge.Goals as goal

pub read-requires : goal.read-requires
read-requires g c =
    let m = g.L.Lot.meaning c.args.lot.now in
    let few : m.rows ≤ 4096 = omega arith in
    let cells : cell_rows m ≤ m.rows = count_le m.rows m.holds in
    omega arith

pub returns-in_err-proposal : goal.returns-in_err-proposal
returns-in_err-proposal g c =
    let m = g.L.Lot.meaning c.args.lot.now in
    let page = c.args.page.now in
    let r = c.from_residual.result in
    let few : m.rows ≤ 4096 = omega arith in
    let p = err_from_is_err_and r c.from_residual.ensures.1 in
    let e = page_refuses m page c.cell_row_count.result few (counted m c.cell_row_count.result few c.cell_row_count.ensures) r c.in_err-proposal.field-0.0 c.in_err-proposal.ensures.cases (p.1 ∙ ap Err p.2) in
    record { answer = e; accepted = is_accepted m page r e; ceiling = is_covered m page r (duties_of g.L.Lot c.args.lot.now) e }

pub weigh-requires : goal.weigh-requires
weigh-requires g c =
    let m = g.L.Lot.meaning c.args.lot.now in
    let few : m.rows ≤ 4096 = omega arith in
    let ok = c.in_ok-proposal.ensures in
    sized_at m c.args.page.now c.cell_row_count.result few (counted m c.cell_row_count.result few c.cell_row_count.ensures) c.in_ok-proposal.proposal.cells.bytes.now ok.cases.1 (ok.lawful.0 refl).0

pub returns-in_err-weigh : goal.returns-in_err-weigh
returns-in_err-weigh g c =
    let m = g.L.Lot.meaning c.args.lot.now in
    let page = c.args.page.now in
    let r = c.from_residual-in_err-weigh.result in
    let x = c.in_ok-proposal.proposal in
    let ok = c.in_ok-proposal.ensures.cases in
    let few : m.rows ≤ 4096 = omega arith in
    let count = counted m c.cell_row_count.result few c.cell_row_count.ensures in
    let p = err_from_is_err_and r c.from_residual-in_err-weigh.ensures.1 in
    let e = market_refuses m page c.cell_row_count.result few count x.cells.bytes.now x.prices.bytes.now ok.1 ok.2 ok.0 r c.in_err-weigh.field-0.0 c.in_err-weigh.ensures (p.1 ∙ ap Err p.2) in
    record { answer = e; accepted = is_accepted m page r e; ceiling = is_covered m page r (duties_of g.L.Lot c.args.lot.now) e }

pub of-requires : goal.of-requires
of-requires g c =
    let m = g.L.Lot.meaning c.args.lot.now in
    let x = c.in_ok-proposal.proposal in
    let ok = c.in_ok-proposal.ensures in
    let few : m.rows ≤ 4096 = omega arith in
    let count = counted m c.cell_row_count.result few c.cell_row_count.ensures in
    let sized = sized_at m c.args.page.now c.cell_row_count.result few count x.cells.bytes.now ok.cases.1 (ok.lawful.0 refl).0 in
    record { sized = sized; feasible = feasible_when m x.cells.bytes.now (table_of x.prices.bytes.now) sized (sym c.in_ok-weigh.ensures) }

pub returns : goal.returns
returns g c =
    let m = g.L.Lot.meaning c.args.lot.now in
    let page = c.args.page.now in
    let x = c.in_ok-proposal.proposal in
    let ok = c.in_ok-proposal.ensures.cases in
    let few : m.rows ≤ 4096 = omega arith in
    let count = counted m c.cell_row_count.result few c.cell_row_count.ensures in
    let e = accepts m page c.cell_row_count.result few count x.cells.bytes.now x.prices.bytes.now ok.1 ok.2 ok.0 c.of.result c.in_ok-weigh.ensures c.of.ensures in
    record { answer = e; accepted = is_accepted m page (Ok c.of.result) e; ceiling = is_covered m page (Ok c.of.result) (duties_of g.L.Lot c.args.lot.now) e }
