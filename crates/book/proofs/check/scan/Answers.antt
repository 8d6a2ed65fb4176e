use Rattle.std.proofs.Common.{◌≡◌, ◌≤◌, length, drop, Some, None, Ok, Err, sym, refl, ap, ◌∙◌, arith, length-drop, rules}
use Rattle.std.proofs.lemmas.List.{take_rest}
use Rattle.std.proofs.lemmas.Result.{err_from_is_err_and}
use Rattle.byte_layer.specs.Fault.{heard}
use Rattle.book.specs.Fault.{told_book}
use Rattle.book.specs.Rows.{row_size}
use Rattle.book.specs.Reading.{step_of, read_rows, ends, checked, decoded}
use Rattle.book.proofs.Steps.{step_moves, row_has, reads_on_lem, reads_seal, reads_fault, ends_push}
use Rattle.book.proofs.check.scan.Goals as goal
use Rattle.book.proofs.check.scan.Goals.{After-size}

pub loop-row-init : goal.loop-row-init
unfolding checked decoded
loop-row-init c = rw c.begin-s.ensures (length c.args.text.now, omega arith, omega arith, refl)

pub returns-in_err-row : goal.returns-in_err-row
returns-in_err-row c =
    let p = err_from_is_err_and c.from_residual.result c.from_residual.ensures.1 in
    let e : step_of c.loop-row.s c.loop-row.rest.now ≡ Err (told_book c.in_err-row.field-0.0) = sym c.step.ensures ∙ ap (heard told_book) c.in_err-row.was in
    let q = reads_fault c.loop-row.invariant.0 c.loop-row.s c.loop-row.rest.now (told_book c.in_err-row.field-0.0) e c.loop-row.invariant.1 in
    ap (heard told_book) (p.1 ∙ ap Err p.2) ∙ sym (ap ends q) ∙ c.loop-row.invariant.3

took : (c : goal.After-size) → step_of c.loop-row.s c.loop-row.rest.now ≡ Ok (Some (c.in-Some.row, c.in-Some.next))
took c = sym c.step.ensures ∙ ap (heard told_book) (c.in_ok-row.was ∙ ap Ok c.in-Some.is)

fits : (c : goal.After-size) → c.size.result ≤ length c.loop-row.rest.now
fits c = let m = (step_moves c.loop-row.s c.loop-row.rest.now c.in-Some.row c.in-Some.next (took c)).fits in omega (arith, c.size.ensures)

pub slice_bounds-rest-count : goal.slice_bounds-rest-count
slice_bounds-rest-count c = fits c

pub slice_bounds-rest-start : goal.slice_bounds-rest-start
slice_bounds-rest-start c = let h = fits c in search rules

pub loop-row-smaller : goal.loop-row-smaller
loop-row-smaller c = let d = (goal.at.loop-row-smaller c).After-size in let h = fits d in let k = row_has d.in-Some.row in rw (take_rest d.loop-row.rest.now d.size.result) (omega (arith, d.size.ensures, length-drop d.size.result d.loop-row.rest.now))

pub loop-row-preserved : goal.loop-row-preserved
loop-row-preserved c =
    let d = (goal.at.loop-row-preserved c).After-size in
    let t = d.loop-row.rest.now in
    let m = step_moves d.loop-row.s t d.in-Some.row d.in-Some.next (took d) in
    let z = reads_on_lem d.loop-row.invariant.0 d.loop-row.s t d.in-Some.row d.in-Some.next (took d) d.loop-row.invariant.1 in
    rw (take_rest t d.size.result) (rw d.size.ensures (z.0, z.1, omega (arith, m.at, m.fits, d.loop-row.invariant.2, length-drop (row_size d.in-Some.row) t), sym (ap ends z.2 ∙ ends_push d.in-Some.row (read_rows z.0 d.in-Some.next (drop (row_size d.in-Some.row) t))) ∙ d.loop-row.invariant.3))

pub returns : goal.returns
returns c =
    let e : step_of c.loop-row.s c.loop-row.rest.now ≡ Ok None = sym c.step.ensures ∙ ap (heard told_book) (c.in_ok-row.was ∙ ap Ok c.in_default.is) in
    let q = reads_seal c.loop-row.invariant.0 c.loop-row.s c.loop-row.rest.now e c.loop-row.invariant.1 in
    sym (ap ends q) ∙ c.loop-row.invariant.3
