use Rattle.std.proofs.Common.{rules}
use Rattle.border.specs.Fields.{border_placed}
use Rattle.border.proofs.fields.border_placed.Goals as goal

pub returns-then-is_area-2 : goal.returns-then-is_area-2
unfolding border_placed
returns-then-is_area-2 c = search rules

pub returns-else-is_area-2 : goal.returns-else-is_area-2
unfolding border_placed
returns-else-is_area-2 c = search rules
