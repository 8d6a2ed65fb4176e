use Rattle.std.proofs.Common.{◌≡◌, ◌-ℤ◌, neg_ℤ, pos, w64, Fits, w32, to_z, of_z, rules, tests}
use Rattle.border.proofs.Stretches.{minus_is}
use Rattle.border.proofs.flow.passes.Goals as goal

pub returns : goal.returns
returns c =
    let f : Fits w32 c.args.quarter.now.back = search rules in
    let low : to_z w64 (of_z w64 (pos 0 -ℤ to_z w64 (of_z w64 c.from.result))) ≡ neg_ℤ (pos c.args.quarter.now.back) = minus_is _ _ f c.from.ensures in
    search (rules, tests)
