use Rattle.book.specs.Reading.{checked}
use Rattle.sealed.proofs.Found.{kept_rows, passed_is}
use Rattle.sealed.proofs.sealed_book.SealedBook.rows.Goals as goal

pub returns : goal.returns
returns c = let b = c.args.self.now in kept_rows b.text.now b.found (passed_is (checked b.text.now) b.found b.passed b.tells)
