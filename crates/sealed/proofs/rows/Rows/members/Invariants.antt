use Rattle.sealed.proofs.Gathering.{Filling}
use Rattle.sealed.proofs.rows.Rows.members.Given as goal

abbrev pub invariant-loop-slot : goal.invariant-loop-slot
invariant-loop-slot l = Filling l.self.stand l.self.rest.now l.size l.slot-index l.slot-items l.rows.stand l.rows.rest.now
