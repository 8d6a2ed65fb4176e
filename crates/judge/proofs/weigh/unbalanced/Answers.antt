use Rattle.std.proofs.Common.{◌≡◌, ◌*◌, refl, arith}
use Rattle.judge.proofs.Balance.{balanced_until, balanced_all, not_zero}
use Rattle.judge.proofs.weigh.unbalanced.Goals as goal

pub returns-then-net-ne0 : goal.returns-then-net-ne0
returns-then-net-ne0 g c = balanced_until c.loop-area.area c.loop-quarter.quarter c.loop-quarter-test.true c.loop-area-test.true refl c.loop-quarter.invariant (not_zero _ c.net.result c.net.ensures c.if-net-ne0.true)

pub returns-after-loop-area : goal.returns-after-loop-area
returns-after-loop-area g c =
    let e : 4 * c.loop-area.area ≡ 128 = omega (arith, c.loop-area-test.false, c.loop-area.auto.area-end) in
    balanced_all (rw e at c.loop-area.invariant)
