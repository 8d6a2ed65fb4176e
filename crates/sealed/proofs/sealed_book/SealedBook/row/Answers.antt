use Rattle.std.proofs.Common.{sym, ◌∙◌, arith}
use Rattle.std.proofs.lemmas.Option.{slice_get_past}
use Rattle.std.proofs.lemmas.Iterator.Adapters.{option_map_id}
use Rattle.std.proofs.lemmas.Iterator.Consumers.{YieldsList-from_first, nth_from_yields_List}
use Rattle.book.specs.Reading.{checked, rows_in}
use Rattle.sealed.specs.Left.{rows_left}
use Rattle.sealed.proofs.Found.{kept_rows, passed_is}
use Rattle.sealed.proofs.sealed_book.SealedBook.row.Goals as goal

pub returns-then-i-self : goal.returns-then-i-self
returns-then-i-self c =
    let b = c.args.self.now in
    let k = kept_rows b.text.now b.found (passed_is (checked b.text.now) b.found b.passed b.tells) in
    sym (slice_get_past (rows_in b.text.now) c.args.i (omega arith))

pub returns : goal.returns
returns c =
    let rs = rows_in c.args.self.now.text.now in
    sym (option_map_id c.nth.result) ∙ nth_from_yields_List c.nth.result c.nth.new.self c.args.i c.nth.ensures.ran (YieldsList-from_first (λ r. r) rows_left rs c.iter.ensures.rows)
