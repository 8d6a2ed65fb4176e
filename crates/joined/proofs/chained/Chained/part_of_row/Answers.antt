use Rattle.std.proofs.Common.{rules, ap}
use Rattle.joined.proofs.Walks.{standing_can, stands}
use Rattle.joined.proofs.chained.Chained.part_of_row.Goals as goal

pub find-requires-clause-callable : goal.find-requires-clause-callable
find-requires-clause-callable g c = standing_can g.C.Chain g.C.Link.Lot c.args.row _ _ _ c.parts.ensures.chain c.parts.ensures.rest c.parts.ensures.passed c.requires.ready c.requires.row (λ x r h k. search rules) (λ x from. search rules)

pub unreachable-requires : goal.unreachable-requires
unreachable-requires g c = stands g.C.Chain g.C.Link.Lot c.args.row _ _ _ c.parts.ensures.chain c.parts.ensures.rest c.parts.ensures.passed c.requires.ready c.requires.row (λ x r h k. search rules) c.find.new.self c.find.ensures.ran c.in_default.is

pub returns : goal.returns
returns g c =
    let o = stands g.C.Chain g.C.Link.Lot c.args.row _ _ _ c.parts.ensures.chain c.parts.ensures.rest c.parts.ensures.passed c.requires.ready c.requires.row (λ x r h k. search rules) c.find.new.self c.find.ensures.ran c.in-Some.is in
    record { ready = o.ready; before = o.before; row = o.inside; worth = ap (λ x. x.0) o.same; net = ap (λ x. x.1) o.same }
