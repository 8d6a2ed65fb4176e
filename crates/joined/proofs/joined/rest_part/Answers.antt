use Rattle.std.proofs.Common.{◌≡◌, ◌*◌, drop, ap, ◌∙◌, arith}
use Rattle.lot.specs.Meaning.{cell_rows}
use Rattle.lot.specs.Laws.Sums.{count_le}
use Rattle.joined.proofs.joined.rest_part.Goals as goal

pub returns : goal.returns
returns g c =
    let m = g.L.Lot.meaning c.args.first.now in
    let le = count_le m.rows m.holds in
    let few = c.requires.few in
    let same : c.cell_row_count.result ≡ cell_rows m = omega arith in
    ◌∙◌ {b = drop (17 * c.cell_row_count.result) c.args.cells.bytes.now} c.rest.ensures (ap (λ k. drop (17 * k) c.args.cells.bytes.now) same)
