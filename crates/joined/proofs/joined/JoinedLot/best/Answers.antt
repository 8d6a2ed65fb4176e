use Rattle.std.proofs.Common.{arith}
use Rattle.std.proofs.lemmas.Int.{ints}
use Rattle.lot.specs.Page.{table_of}
use Rattle.lot.proofs.Splits.{priced_quoted}
use Rattle.lot.proofs.Limits.{best_low}
use Rattle.lot.proofs.Bundled.{duties_of}
use Rattle.joined.proofs.joined.JoinedLot.best.Goals as goal

pub overflow_add-result : goal.overflow_add-result
overflow_add-result g c =
    let m = g.A.Lot.meaning c.args.self.now.0 in
    let n = g.B.Lot.meaning c.args.self.now.1 in
    let p = table_of c.args.prices.bytes.now in
    let d = duties_of g.A.Lot c.args.self.now.0 in
    let e = duties_of g.B.Lot c.args.self.now.1 in
    let quoted = priced_quoted c.args.prices.bytes.now c.args.prices.priced in
    let few = c.requires.few in
    let low-m = best_low m d (omega arith) p quoted in
    let low-n = best_low n e (omega arith) p quoted in
    let high-m = (d.limited (omega arith)).best p quoted c.args.prices.priced.capped in
    let high-n = (e.limited (omega arith)).best p quoted c.args.prices.priced.capped in
    omega (arith, ints)

pub returns : goal.returns
returns g c = let fits = overflow_add-result g c in omega (arith, ints)
