use Rattle.std.proofs.Common.{◌+◌, ◌*◌}
use Rattle.lot.specs.Page.{table_of}
use Rattle.judge.proofs.Balance.{BalancedTo}
use Rattle.judge.proofs.weigh.unbalanced.Given as goal

abbrev pub invariant-loop-quarter : goal.invariant-loop-quarter
invariant-loop-quarter g l = BalancedTo (g.L.Lot.meaning l.lot) (table_of l.cells.bytes.now) (4 * l.area + l.quarter)

abbrev pub invariant-loop-area : goal.invariant-loop-area
invariant-loop-area g l = BalancedTo (g.L.Lot.meaning l.lot) (table_of l.cells.bytes.now) (4 * l.area)
