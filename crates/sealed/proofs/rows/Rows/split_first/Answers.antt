use Rattle.std.proofs.Common.{◌≡◌, false, not, ◌&&◌, ltb, ◌∷◌, Some, Ok, sym, ap, ◌∙◌, subst, ap₂}
use Rattle.book.specs.Stands.{due_of}
use Rattle.book.specs.declared.command.Command.{Command}
use Rattle.book.specs.Command.{is_bid}
use Rattle.book.specs.Fault.{told_book}
use Rattle.book.specs.Reading.{step_of}
use Rattle.book.proofs.Steps.{step_took}
use Rattle.sealed.specs.Ahead.{ahead}
use Rattle.sealed.proofs.Turns.{seal_rows, no_fault, on_rows, command_of_lem}
use Rattle.sealed.proofs.rows.Rows.split_first.Goals as goal

pub unreachable-requires : goal.unreachable-requires
unreachable-requires c = let x = c.args.self in no_fault x.stand x.rest.now (told_book c.in_default.field-0) (sym c.in_default.ensures) x.sound

pub returns-in_err-row : goal.returns-in_err-row
returns-in_err-row c =
    let x = c.args.self in
    rw c.from_residual.ensures (seal_rows x.stand x.rest.now (sym c.in-Ok.ensures ∙ ap Ok c.in_err-row.was))

pub returns : goal.returns
returns c =
    let x = c.args.self in
    let t = x.rest.now in
    let r = c.in_ok-row.row in
    let n = c.in_ok-row.next in
    let e : step_of x.stand t ≡ Ok (Some (r, n)) = sym c.in-Ok.ensures ∙ ap Ok c.in_ok-row.was in
    record {
      ahead = on_rows x.stand t r n e x.sound ∙ ap₂ (λ s u. r ∷ ahead s u) (sym c.behind.ensures.stand) (sym c.behind.ensures.rest);
      due = let k = step_took x.stand t r n e in subst (λ (d : Command). (ltb 0 (due_of x.stand) && not (is_bid d)) ≡ false) (command_of_lem k.command x.stand.rows t r k.row) k.due;
      after = (step_took x.stand t r n e).next ∙ ap Ok (sym c.behind.ensures.stand);
    }
