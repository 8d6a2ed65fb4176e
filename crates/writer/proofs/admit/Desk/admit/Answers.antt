use Rattle.std.proofs.Common.{ℕ, Some, Err, Result, sym, ap, ◌∙◌, rules}
use Rattle.std.proofs.lemmas.Result.{err_from_is_err_and}
use Rattle.byte_layer.specs.Fault.{heard}
use Rattle.book.specs.declared.fault.BookFault.{BookFault}
use Rattle.book.specs.Fault.{told_book}
use Rattle.writer.specs.declared.lawful.LawfulRow.{LawfulRow}
use Rattle.writer.specs.Admit.{roomed, admitted}
use Rattle.writer.specs.Lawful.{row_of, row_in}
use Rattle.writer.proofs.Admits.{unlawful, short, fits}
use Rattle.writer.proofs.admit.Desk.admit.Goals as goal

pub returns-then-self-ge-MOST_ROWS : goal.returns-then-self-ge-MOST_ROWS
unfolding admitted
returns-then-self-ge-MOST_ROWS c = search rules

pub returns-in_err-lawful : goal.returns-in_err-lawful
returns-in_err-lawful c =
    let p = err_from_is_err_and c.from_residual.result c.from_residual.ensures.1 in
    ap (λ (r : Result LawfulRow BookFault). heard told_book (row_in r)) (p.1 ∙ ap Err p.2)
    ∙ sym (unlawful c.args.self.len c.args.self.at c.args.self.rows c.args.row (told_book c.in_err-lawful.field-0.0) c.if-self-ge-MOST_ROWS.false (sym c.in_err-lawful.ensures))

pub returns-in_err-room : goal.returns-in_err-room
returns-in_err-room c =
    let p = err_from_is_err_and c.from_residual-in_err-room.result c.from_residual-in_err-room.ensures.1 in
    ap (λ (r : Result LawfulRow BookFault). heard told_book (row_in r)) (p.1 ∙ ap Err p.2)
    ∙ sym (short c.args.self.len c.args.self.at c.args.self.rows c.args.row (Some (row_of c.in_ok-lawful.lawful)) (told_book c.in_err-room.field-0.0) c.if-self-ge-MOST_ROWS.false (sym c.in_ok-lawful.ensures) (ap (λ (n : ℕ). roomed c.args.self.len c.args.self.at c.args.self.rows n) (sym c.size.ensures) ∙ sym c.in_err-room.ensures))

pub returns : goal.returns
returns c =
    sym (fits c.args.self.len c.args.self.at c.args.self.rows c.args.row (Some (row_of c.in_ok-lawful.lawful)) c.if-self-ge-MOST_ROWS.false (sym c.in_ok-lawful.ensures) (ap (λ (n : ℕ). roomed c.args.self.len c.args.self.at c.args.self.rows n) (sym c.size.ensures) ∙ sym c.in_ok-room.ensures))
