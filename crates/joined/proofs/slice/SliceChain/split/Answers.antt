use Rattle.std.proofs.Common.{arith}
use Rattle.joined.proofs.Halves.{together_first}
use Rattle.joined.proofs.slice.SliceChain.split.Goals as goal

pub returns : goal.returns
returns g c =
    let k = c.in_ok-first.ensures.cases in
    record { less = omega arith; step = together_first g.L.Lot.meaning k.0 }
