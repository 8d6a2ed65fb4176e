use Rattle.std.proofs.Common.{◌≡◌, ℕ, ◌+◌, ◌≤◌, length}
use Rattle.book.specs.Reading.{read_rows, ends, checked}
use Rattle.book.proofs.check.scan.Given as goal

-- what is left to read decides the check
abbrev pub invariant-loop-row : goal.invariant-loop-row
invariant-loop-row l = (f : ℕ) × (length l.rest ≤ f) × (l.s.at + length l.rest ≡ length l.text) × (ends (read_rows f l.s l.rest) ≡ checked l.text)

abbrev pub decreases-loop-row : goal.decreases-loop-row
decreases-loop-row l = length l.rest
