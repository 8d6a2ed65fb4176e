use Rattle.std.proofs.Common.{rules}
use Rattle.border.proofs.Stretches.{minus_fits, best_is}
use Rattle.border.proofs.stretch.Stretch.best.Goals as goal

pub overflow_sub-back : goal.overflow_sub-back
overflow_sub-back c = minus_fits c.args.self.back c.args.self.gap (search rules) (search rules) c.rent-back.result c.rent-back.ensures

pub returns : goal.returns
returns c = best_is c.args.self (search rules) (search rules) (search rules) c.rent-forward.result c.rent-back.result c.max.result c.rent-forward.ensures c.rent-back.ensures c.max.ensures.value
