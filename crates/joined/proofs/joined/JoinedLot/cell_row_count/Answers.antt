use Rattle.std.proofs.Common.{arith}
use Rattle.joined.proofs.Halves.{both, cell_rows_of}
use Rattle.joined.proofs.joined.JoinedLot.cell_row_count.Goals as goal

pub returns : goal.returns
returns g c = let e = cell_rows_of (both g.A.Lot g.B.Lot c.args.self.now.0 c.args.self.now.1) in omega arith
