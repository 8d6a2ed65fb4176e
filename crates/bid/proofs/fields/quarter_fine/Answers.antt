use Rattle.std.proofs.Common.{rules}
use Rattle.bid.specs.Fields.{quarter_fine}
use Rattle.units.specs.Limit.{is_zero}
use Rattle.bid.proofs.fields.quarter_fine.Goals as goal

pub returns-then-q-gt0 : goal.returns-then-q-gt0
unfolding quarter_fine is_zero
returns-then-q-gt0 c = search rules

pub returns-else-q-gt0 : goal.returns-else-q-gt0
unfolding quarter_fine is_zero
returns-else-q-gt0 c = search rules

pub returns-else-is_price : goal.returns-else-is_price
unfolding quarter_fine is_zero
returns-else-is_price c = search rules
