use Rattle.std.proofs.Common.{ℕ, Ok, ap, ◌∙◌}
use Rattle.book.specs.Reading.{checked}
use Rattle.sealed.proofs.Found.{kept_rows, passed_is}
use Rattle.sealed.proofs.sealed_book.SealedBook.length.Goals as goal

pub returns : goal.returns
returns c =
    let b = c.args.self.now in
    passed_is (checked b.text.now) b.found b.passed b.tells ∙ ap (λ (n : ℕ). Ok (record { length = b.found.length; rows = n })) (kept_rows b.text.now b.found (passed_is (checked b.text.now) b.found b.passed b.tells))
