use Rattle.std.proofs.Common.{◌≡◌, ◌*◌, take, drop, ap, ◌∙◌, arith}
use Rattle.lot.specs.Meaning.{cell_rows}
use Rattle.lot.specs.Laws.Sums.{count_le}
use Rattle.joined.proofs.joined.both_parts.Goals as goal

pub returns : goal.returns
returns g c =
    let m = g.L.Lot.meaning c.args.first.now in
    let le = count_le m.rows m.holds in
    let few = c.requires.few in
    let same : c.cell_row_count-cell_rows.result ≡ cell_rows m = omega arith in
    record { front = c.front.ensures ∙ ap (λ k. take (17 * k) c.args.cells.bytes.now) same; rest = c.rest.ensures ∙ ap (λ k. drop (17 * k) c.args.cells.bytes.now) same }
