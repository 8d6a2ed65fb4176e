use Rattle.std.proofs.Common.{◌≡◌, ◌-ℤ◌, neg_ℤ, pos, w64, Fits, w32, to_z, of_z, rules, tests}
use Rattle.border.proofs.Stretches.{minus_is}
use Rattle.border.proofs.stretch.Stretch.keeps.Goals as goal

pub returns-then-full_back : goal.returns-then-full_back
returns-then-full_back c =
    let f : Fits w32 c.args.self.back = search rules in
    let low : to_z w64 (of_z w64 (pos 0 -ℤ to_z w64 (of_z w64 c.from-4.result))) ≡ neg_ℤ (pos c.args.self.back) = minus_is _ _ f c.from-4.ensures in
    search (rules, tests)
