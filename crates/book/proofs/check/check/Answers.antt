use Rattle.book.proofs.Trip.{made_written}
use Rattle.book.proofs.check.check.Goals as goal

pub returns : goal.returns
returns c = record { found = c.scan.ensures; written = made_written c.args.text.now c.scan.result c.are_octets.ensures c.scan.ensures }
