use Rattle.std.proofs.Common.{◌≡◌, ℕ, min, rules, refl}
use Rattle.joined.proofs.Halves.{both, asks, first_sized, next_sized, refusals, named_below, named_or}
use Rattle.joined.proofs.joined.JoinedLot.refused_row.Goals as goal

pub both_parts-requires-clause-long : goal.both_parts-requires-clause-long
both_parts-requires-clause-long g c = (asks (both g.A.Lot g.B.Lot c.args.self.now.0 c.args.self.now.1) c.requires).long

pub refused_row-requires : goal.refused_row-requires
refused_row-requires g c = first_sized (both g.A.Lot g.B.Lot c.args.self.now.0 c.args.self.now.1) c.both_parts.ensures.front c.requires

pub or_else-requires : goal.or_else-requires
or_else-requires g c =
    let sized = next_sized (both g.A.Lot g.B.Lot c.args.self.now.0 c.args.self.now.1) c.both_parts.ensures.rest c.requires in
    let below = λ (l : ℕ) (e : l ≡ min (g.A.Lot.meaning c.args.self.now.0).rows 4097). named_below refusals (both g.A.Lot g.B.Lot c.args.self.now.0 c.args.self.now.1) c.args.cells.bytes.now _ c.both_parts.ensures.rest c.requires e in
    search rules

pub returns : goal.returns
returns g c = named_or refusals (both g.A.Lot g.B.Lot c.args.self.now.0 c.args.self.now.1) c.args.cells.bytes.now _ c.both_parts.ensures.rest c.requires {l = min (g.A.Lot.meaning c.args.self.now.0).rows 4097} refl _ c.both_parts.ensures.front c.refused_row.result c.refused_row.ensures c.or_else.ensures (λ p. search rules)
