use Rattle.std.proofs.Common.{◌≤◌, rules, arith}
use Rattle.lot.specs.Meaning.{cell_rows}
use Rattle.joined.proofs.Halves.{nothing_cells, cell_rows_of}
use Rattle.joined.proofs.Turns.{asked}
use Rattle.joined.proofs.Walks.{counted}
use Rattle.joined.proofs.chained.ChainedLot.cell_row_count.Goals as goal

pub fold-requires-clause-callable : goal.fold-requires-clause-callable
fold-requires-clause-callable g c = asked _ _ (λ s p. p.1 ≤ 4097) (λ s t x p q j e k. search rules) (omega arith) (λ s t x p j e. search rules)

pub returns : goal.returns
returns g c = counted g.C.Chain g.C.Link.Lot cell_rows _ (λ p x q k. search rules) c.fold.ensures.ran (λ T m n e. cell_rows_of e) nothing_cells
