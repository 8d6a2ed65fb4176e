-- A stretch: quarters of a border that flow as one, with the smallest of their ATCs forward and back and the sum of their
-- gaps, a gap being the second price minus the first.
use Rattle.std.specs.Prelude.{min, Bool, not, ◌&&◌, ◌||◌, ℤ, pos, ◌+ℤ◌, ◌*ℤ◌, neg_ℤ, int_le, int_lt}
use Rattle.std.specs.Int.{int_max}
use Rattle.border.specs.declared.stretch.Stretch.{Stretch}

-- two stretches as one
abbrev pub both : Stretch → Stretch → Stretch
both s r = record { forward = min s.forward r.forward; back = min s.back r.back; gap = s.gap +ℤ r.gap }

-- the greatest rent: all that may flow, forward or back
abbrev pub stretch_best : Stretch → ℤ
stretch_best s = int_max (pos s.forward *ℤ s.gap) (neg_ℤ (pos s.back *ℤ s.gap))

-- the price rule with the flow x: where x is less than may flow forward the gap is not positive, and where x is more than
-- minus what may flow back the gap is not negative
abbrev pub stretch_keeps : Stretch → ℤ → Bool
stretch_keeps s x = (not (int_lt x (pos s.forward)) || int_le s.gap (pos 0)) && (not (int_lt (neg_ℤ (pos s.back)) x) || int_le (pos 0) s.gap)
