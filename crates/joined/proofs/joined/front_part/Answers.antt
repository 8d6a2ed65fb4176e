use Rattle.std.proofs.Common.{◌≡◌, ◌*◌, take, ap, ◌∙◌, arith}
use Rattle.lot.specs.Meaning.{cell_rows}
use Rattle.lot.specs.Laws.Sums.{count_le}
use Rattle.joined.proofs.joined.front_part.Goals as goal

pub returns : goal.returns
returns g c =
    let m = g.L.Lot.meaning c.args.first.now in
    let le = count_le m.rows m.holds in
    let few = c.requires.few in
    let same : c.cell_row_count.result ≡ cell_rows m = omega arith in
    ◌∙◌ {b = take (17 * c.cell_row_count.result) c.args.cells.bytes.now} c.front.ensures (ap (λ k. take (17 * k) c.args.cells.bytes.now) same)
