use Rattle.std.proofs.Common.{refl}
use Rattle.book.proofs.Trip.{begins_none}
use Rattle.writer.proofs.state.OpenBook.start.Goals as goal

pub returns : goal.returns
returns c = record { empty = refl; holds = begins_none }
