use Rattle.std.proofs.Common.{length, subst, MatchResult}
use Rattle.book.specs.declared.row.Row.{Row}
use Rattle.writer.specs.Admit.{admitted}
use Rattle.writer.specs.Calls.{RowFiled, Unchanged}
use Rattle.writer.proofs.Filing.{cases_made, filed_holds}
use Rattle.writer.proofs.state.OpenBook.file.Goals as goal

pub returns : goal.returns
returns g c =
    let b = c.args.self in
    let t = c.args.text.now in
    let u = c.file_row.new.text in
    let row = g.F.Fields.as_row c.args.fields in
    let o = subst (λ (r : Row). MatchResult c.file_row.result (λ p. RowFiled b t r p u) (λ p. Unchanged b t (admitted (length t) b.length b.rows r) p u)) c.row-row.ensures.row c.file_row.ensures in
    record { outcome = o; holds = cases_made c.file_row.result _ _ _ o (λ p f. filed_holds b t u row p c.row-row.ensures.single c.row-row.ensures.four f) }
