use Rattle.std.proofs.Common.{arith}
use Rattle.std.proofs.lemmas.Int.{ints}
use Rattle.lot.proofs.Limits.{net_limit}
use Rattle.lot.proofs.Bundled.{duties_of}
use Rattle.joined.proofs.Halves.{both, asks, rows_of_lem, first_ready, next_ready, net_of_lem}
use Rattle.joined.proofs.joined.JoinedLot.net.Goals as goal

pub front_part-requires : goal.front_part-requires
front_part-requires g c = asks (both g.A.Lot g.B.Lot c.args.self.now.0 c.args.self.now.1) c.requires.ready.sized

pub net-requires : goal.net-requires
net-requires g c = record { ready = first_ready (both g.A.Lot g.B.Lot c.args.self.now.0 c.args.self.now.1) c.front_part.ensures c.requires.ready; area = c.requires.area; quarter = c.requires.quarter }

pub rest_part-requires : goal.rest_part-requires
rest_part-requires g c = asks (both g.A.Lot g.B.Lot c.args.self.now.0 c.args.self.now.1) c.requires.ready.sized

pub net-requires-2 : goal.net-requires-2
net-requires-2 g c = record { ready = next_ready (both g.A.Lot g.B.Lot c.args.self.now.0 c.args.self.now.1) c.rest_part.ensures c.requires.ready; area = c.requires.area; quarter = c.requires.quarter }

pub overflow_add-result : goal.overflow_add-result
overflow_add-result g c =
    let e = both g.A.Lot g.B.Lot c.args.self.now.0 c.args.self.now.1 in
    let few = c.requires.ready.sized.few in
    let size = rows_of_lem e in
    let lm = net_limit _ (duties_of g.A.Lot c.args.self.now.0) _ (first_ready e c.front_part.ensures c.requires.ready) _ _ c.requires.area c.requires.quarter in
    let ln = net_limit _ (duties_of g.B.Lot c.args.self.now.1) _ (next_ready e c.rest_part.ensures c.requires.ready) _ _ c.requires.area c.requires.quarter in
    let em = c.net.ensures in
    let en = c.net-2.ensures in
    omega (arith, ints)

pub returns : goal.returns
returns g c =
    let fits = overflow_add-result g c in
    let em = c.net.ensures in
    let en = c.net-2.ensures in
    let e = net_of_lem (both g.A.Lot g.B.Lot c.args.self.now.0 c.args.self.now.1) c.args.cells.bytes.now _ _ c.front_part.ensures c.rest_part.ensures c.args.area c.args.quarter in
    omega (arith, ints)
