use Rattle.std.proofs.Common.{◌≡◌, Some, None, Ok, Err, sym, ap, ◌∙◌, arith, rules}
use Rattle.std.proofs.lemmas.Result.{err_from_is_err_and}
use Rattle.byte_layer.specs.Fault.{heard, told_byte}
use Rattle.book.specs.Fault.{told_book}
use Rattle.book.specs.Command.{command_at}
use Rattle.book.specs.Rows.{row_read}
use Rattle.book.specs.Stands.{after}
use Rattle.book.specs.Reading.{step_of}
use Rattle.book.proofs.Steps.{command_size_lem, row_size_lem, row_some}
use Rattle.book.proofs.step.step.Goals as goal
use Rattle.book.proofs.step.step.Goals.{else-s-ge-MOST_ROWS-via-then-s-ge-MOST_ROWS+else-not-is_seal, else-s-ge-MOST_ROWS-via-else-s-ge-MOST_ROWS}

pub returns-in_err-command : goal.returns-in_err-command
unfolding step_of
returns-in_err-command c =
    let p = err_from_is_err_and c.from_residual.result c.from_residual.ensures.1 in
    let e : command_at c.args.s.at c.args.text.now ≡ Err (told_byte c.in_err-command.field-0.0) = sym c.at.ensures ∙ ap (heard told_byte) c.in_err-command.was in
    rw e (ap (heard told_book) (p.1 ∙ ap Err p.2))

pub returns-then-not-is_bid : goal.returns-then-not-is_bid
unfolding step_of
returns-then-not-is_bid c =
    let e : command_at c.args.s.at c.args.text.now ≡ Ok c.in_ok-command.command = sym c.at.ensures ∙ ap (heard told_byte) c.in_ok-command.was in
    rw e (search rules)

pub returns-then-not-is_seal : goal.returns-then-not-is_seal
unfolding step_of
returns-then-not-is_seal c =
    let e : command_at c.args.s.at c.args.text.now ≡ Ok c.in_ok-command.command = sym c.at.ensures ∙ ap (heard told_byte) c.in_ok-command.was in
    rw e (search rules)

pub returns-in_err-row : goal.returns-in_err-row
unfolding step_of
returns-in_err-row c =
    let p = err_from_is_err_and c.from_residual-in_err-row.result c.from_residual-in_err-row.ensures.1 in
    let e : command_at c.args.s.at c.args.text.now ≡ Ok c.in_ok-command.command = sym c.at.ensures ∙ ap (heard told_byte) c.in_ok-command.was in
    let f : row_read c.in_ok-command.command c.args.s.rows c.args.text.now ≡ Err (told_book c.in_err-row.field-0.0) = sym c.row.ensures ∙ ap (heard told_book) c.in_err-row.was in
    rw (e, f) (search rules)

pub after-requires : goal.after-requires
after-requires c =
    let e : command_at c.args.s.at c.args.text.now ≡ Ok c.in_ok-command.command = sym c.at.ensures ∙ ap (heard told_byte) c.in_ok-command.was in
    let f : row_read c.in_ok-command.command c.args.s.rows c.args.text.now ≡ Ok (Some c.in-Some.row) = sym c.row.ensures ∙ ap (heard told_book) (c.in_ok-row.was ∙ ap Ok c.in-Some.is) in
    let a = command_size_lem c.args.s.at c.args.text.now c.in_ok-command.command e in
    let b = row_size_lem c.in_ok-command.command c.args.s.rows c.args.text.now c.in-Some.row f in
    let g = row_some c.in_ok-command.command c.args.s.rows c.args.text.now c.in-Some.row f in (
      omega arith,
      elim c.else-s-ge-MOST_ROWS.branch [
        | else-s-ge-MOST_ROWS-via-then-s-ge-MOST_ROWS+else-not-is_seal w ↦ grind (arith, g)
        | else-s-ge-MOST_ROWS-via-else-s-ge-MOST_ROWS w ↦ omega arith
      ],
    )

pub returns-in_err-next : goal.returns-in_err-next
unfolding step_of
returns-in_err-next c =
    let p = err_from_is_err_and c.from_residual-in_err-next.result c.from_residual-in_err-next.ensures.1 in
    let e : command_at c.args.s.at c.args.text.now ≡ Ok c.in_ok-command.command = sym c.at.ensures ∙ ap (heard told_byte) c.in_ok-command.was in
    let f : row_read c.in_ok-command.command c.args.s.rows c.args.text.now ≡ Ok (Some c.in-Some.row) = sym c.row.ensures ∙ ap (heard told_book) (c.in_ok-row.was ∙ ap Ok c.in-Some.is) in
    let g : after c.args.s c.in-Some.row ≡ Err (told_book c.in_err-next.field-0.0) = sym c.after.ensures ∙ ap (heard told_book) c.in_err-next.was in
    rw (e, f, g) (search rules)

pub returns-in_default : goal.returns-in_default
unfolding step_of
returns-in_default c =
    let e : command_at c.args.s.at c.args.text.now ≡ Ok c.in_ok-command.command = sym c.at.ensures ∙ ap (heard told_byte) c.in_ok-command.was in
    let f : row_read c.in_ok-command.command c.args.s.rows c.args.text.now ≡ Ok None = sym c.row.ensures ∙ ap (heard told_book) (c.in_ok-row.was ∙ ap Ok c.in_default.is) in
    rw (e, f) (search rules)

pub returns : goal.returns
unfolding step_of
returns c =
    let e : command_at c.args.s.at c.args.text.now ≡ Ok c.in_ok-command.command = sym c.at.ensures ∙ ap (heard told_byte) c.in_ok-command.was in
    let f : row_read c.in_ok-command.command c.args.s.rows c.args.text.now ≡ Ok (Some c.in-Some.row) = sym c.row.ensures ∙ ap (heard told_book) (c.in_ok-row.was ∙ ap Ok c.in-Some.is) in
    let g : after c.args.s c.in-Some.row ≡ Ok c.in_ok-next.next = sym c.after.ensures ∙ ap (heard told_book) c.in_ok-next.was in
    rw (e, f, g) (search rules)
