use Rattle.std.proofs.Common.{arith}
use Rattle.joined.proofs.Halves.{asks, next_sized, rows_of_lem}
use Rattle.joined.proofs.parts.PartsIterator.next.Goals as goal

pub both_parts-requires-clause-long : goal.both_parts-requires-clause-long
both_parts-requires-clause-long g c = (asks c.in_ok-lot.ensures.step c.args.self.now.sized).long

pub invariant_of-self : goal.invariant_of-self
invariant_of-self g c =
    let x = c.args.self.now in
    let e = rows_of_lem c.in_ok-lot.ensures.step in
    let k = x.few in
    record { sized = next_sized c.in_ok-lot.ensures.step c.both_parts.ensures.rest x.sized; few = omega arith }
