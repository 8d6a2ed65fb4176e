use Rattle.std.proofs.Common.{◌≡◌, ◌*◌, ◌≤◌, length, nat_eq, Ok, sym, ap, ◌∙◌, arith}
use Rattle.std.proofs.lemmas.Bool.{leb-true}
use Rattle.lot.specs.Meaning.{cell_rows}
use Rattle.lot.specs.Laws.Sums.{count_le}
use Rattle.asked.specs.declared.unasked.Unasked.TheVariants.{TooManyRows, OtherCells}
use Rattle.asked.specs.Asked.{may_ask, few, passes}
use Rattle.std.specs.Result.{result_and}
use Rattle.asked.proofs.Pricing.{test_passed}
use Rattle.asked.proofs.may.held.Goals as goal

pub returns : goal.returns
returns g c =
    let m = g.L.Lot.meaning c.args.lot.now in
    let b = c.args.cells.bytes.now in
    let ok : few m ≡ Ok tt = sym c.in_ok-few.ensures in
    let small : m.rows ≤ 4096 = leb-true m.rows 4096 (test_passed (may_ask m) TooManyRows ok) in
    let cells : cell_rows m ≤ m.rows = count_le m.rows m.holds in
    let read : c.cell_row_count.result ≡ cell_rows m = omega (arith, c.cell_row_count.ensures) in
    c.passed.ensures ∙ ap (λ n. passes (nat_eq (length b) (17 * n)) OtherCells) read ∙ sym (ap (λ x. result_and x (passes (nat_eq (length b) (17 * cell_rows m)) OtherCells)) ok)
