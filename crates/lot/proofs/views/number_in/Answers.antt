use Rattle.std.proofs.Common.{◌∙◌, w32, rules}
use Rattle.std.proofs.lemmas.Int.{to_z-of_z}
use Rattle.std.proofs.lemmas.Bool.{cond_below}
use Rattle.lot.specs.Page.{table_of}
use Rattle.lot.proofs.views.number_in.Goals as goal

pub returns : goal.returns
unfolding table_of
returns c = to_z-of_z w32 c.read.result (search rules) ∙ c.read.ensures.value ∙ cond_below c.args.quarter 4 _ _ c.requires.0
