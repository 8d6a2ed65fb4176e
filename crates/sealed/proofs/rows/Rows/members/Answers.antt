use Rattle.std.proofs.Common.{arith, length-drop, length-take, length-append}
use Rattle.sealed.proofs.Gathering.{filling_none, filling_due, filling_next, filling_end}
use Rattle.sealed.proofs.rows.Rows.members.Goals as goal

pub loop-slot-init : goal.loop-slot-init
loop-slot-init c = filling_none c.member.result.0 _ c.requires.begun c.member.ensures.stands c.member.ensures.ahead (simp length-take (omega arith))

pub member-requires-in-loop-slot : goal.member-requires-in-loop-slot
member-requires-in-loop-slot c = filling_due c.loop-slot.invariant (omega arith)

pub loop-slot-preserved : goal.loop-slot-preserved
loop-slot-preserved c = filling_next c.loop-slot.invariant (omega arith) _ c.member-in-loop-slot.ensures.stands c.member-in-loop-slot.ensures.ahead

pub returns : goal.returns
returns c = filling_end c.loop-slot.invariant (omega arith) c.member.result.0 c.member.ensures.ahead _ (let l = c.loop-slot.invariant.long in simp (length-append, length-drop) (omega arith))
