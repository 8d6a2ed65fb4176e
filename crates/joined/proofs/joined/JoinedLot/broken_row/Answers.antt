use Rattle.std.proofs.Common.{◌≡◌, ℕ, min, rules, refl}
use Rattle.lot.proofs.Splits.{priced_quoted}
use Rattle.joined.proofs.Halves.{both, asks, first_ready, next_ready, breaks, named_below, named_or}
use Rattle.joined.proofs.joined.JoinedLot.broken_row.Goals as goal

pub both_parts-requires-clause-long : goal.both_parts-requires-clause-long
both_parts-requires-clause-long g c = (asks (both g.A.Lot g.B.Lot c.args.self.now.0 c.args.self.now.1) c.requires.ready.sized).long

pub broken_row-requires : goal.broken_row-requires
broken_row-requires g c = record { ready = first_ready (both g.A.Lot g.B.Lot c.args.self.now.0 c.args.self.now.1) c.both_parts.ensures.front c.requires.ready }

pub or_else-requires : goal.or_else-requires
or_else-requires g c =
    let ready = next_ready (both g.A.Lot g.B.Lot c.args.self.now.0 c.args.self.now.1) c.both_parts.ensures.rest c.requires.ready in
    let below = λ (l : ℕ) (e : l ≡ min (g.A.Lot.meaning c.args.self.now.0).rows 4097). named_below (breaks _ (priced_quoted _ c.args.prices.priced)) (both g.A.Lot g.B.Lot c.args.self.now.0 c.args.self.now.1) c.args.cells.bytes.now _ c.both_parts.ensures.rest c.requires.ready e in
    search rules

pub returns : goal.returns
returns g c = named_or (breaks _ (priced_quoted _ c.args.prices.priced)) (both g.A.Lot g.B.Lot c.args.self.now.0 c.args.self.now.1) c.args.cells.bytes.now _ c.both_parts.ensures.rest c.requires.ready {l = min (g.A.Lot.meaning c.args.self.now.0).rows 4097} refl _ c.both_parts.ensures.front c.broken_row.result c.broken_row.ensures c.or_else.ensures (λ p. search rules)
