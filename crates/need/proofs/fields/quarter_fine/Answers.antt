use Rattle.std.proofs.Common.{rules}
use Rattle.need.specs.Fields.{need_quarter_fine}
use Rattle.units.specs.Limit.{is_zero}
use Rattle.need.proofs.fields.quarter_fine.Goals as goal

pub returns-then-may_price : goal.returns-then-may_price
unfolding need_quarter_fine is_zero
returns-then-may_price c = search rules

pub returns-else-may_price : goal.returns-else-may_price
unfolding need_quarter_fine is_zero
returns-else-may_price c = search rules

pub returns-else-is_price : goal.returns-else-is_price
unfolding need_quarter_fine is_zero
returns-else-is_price c = search rules
