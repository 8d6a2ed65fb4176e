use Rattle.std.proofs.Common.{[], arith}
use Rattle.border.proofs.Steps.{gap_near}
use Rattle.border.proofs.lawful.Border.half.Goals as goal

pub and-requires : goal.and-requires
and-requires c =
    let near = gap_near c.args.self.now c.args.prices.bytes.now c.args.prices.priced in
    (near (_, []) (omega arith, tt) (omega arith) _ c.quarter-former.ensures, near (_, []) (c.requires, tt) (omega arith) _ c.quarter-latter.ensures)
