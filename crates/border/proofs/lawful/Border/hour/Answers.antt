use Rattle.std.proofs.Common.{[], ◌∷◌, lit<, lit≤}
use Rattle.border.proofs.Steps.{gap_near, later_near}
use Rattle.border.proofs.lawful.Border.hour.Goals as goal

pub and-requires : goal.and-requires
and-requires c =
    let near = gap_near c.args.self.now c.args.prices.bytes.now c.args.prices.priced in
    (near (1, []) (lit< tt, tt) (lit≤ tt) _ c.quarter-second.ensures, near (2, 3 ∷ []) (lit< tt, (lit< tt, tt)) (lit≤ tt) _ c.half-latter.ensures)

pub and-requires-2 : goal.and-requires-2
and-requires-2 c = (
  gap_near c.args.self.now c.args.prices.bytes.now c.args.prices.priced (0, []) (lit< tt, tt) (lit≤ tt) _ c.quarter-first.ensures,
  later_near c.args.self.now c.args.prices.bytes.now c.args.prices.priced _ _ _ c.and.ensures c.quarter-second.ensures c.half-latter.ensures,
)
