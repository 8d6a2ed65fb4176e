use Rattle.std.proofs.Common.{ap}
use Rattle.sealed.specs.Book.{passes, found_in}
use Rattle.sealed.proofs.Found.{seal_checks}
use Rattle.sealed.proofs.Turns.{seal_lawful}
use Rattle.sealed.proofs.sealed_book.SealedBook.empty.Goals as goal

pub invariant_of-result : goal.invariant_of-result
invariant_of-result c = record { passed = ap passes seal_checks; tells = ap found_in seal_checks; lawful = seal_lawful }
