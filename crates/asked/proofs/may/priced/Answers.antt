use Rattle.asked.proofs.Pricing.{priced_or}
use Rattle.asked.proofs.may.priced.Goals as goal

pub returns : goal.returns
returns c = rw c.ok_or.ensures.value (priced_or c.args.prices.bytes.now c.capped.result c.capped.ensures.when c.capped.ensures.same)
