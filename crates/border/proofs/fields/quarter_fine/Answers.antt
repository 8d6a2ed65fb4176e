use Rattle.std.proofs.Common.{rules}
use Rattle.border.specs.Fields.{border_quarter_fine}
use Rattle.border.proofs.fields.quarter_fine.Goals as goal

pub returns-then-is_quantity : goal.returns-then-is_quantity
unfolding border_quarter_fine
returns-then-is_quantity c = search rules

pub returns-else-is_quantity : goal.returns-else-is_quantity
unfolding border_quarter_fine
returns-else-is_quantity c = search rules
