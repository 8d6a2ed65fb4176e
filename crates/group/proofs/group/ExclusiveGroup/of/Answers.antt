use Rattle.std.proofs.Common.{◌≡◌, false, ◌&&◌, length, sym, ap, ◌∙◌, rules}
use Rattle.bid.specs.Group.{group_fine}
use Rattle.group.specs.Group.{one_area, may_group}
use Rattle.group.proofs.Areas.{size_made, none_made}
use Rattle.group.proofs.group.ExclusiveGroup.of.Goals as goal

pub grouped-requires : goal.grouped-requires
grouped-requires c =
    let k : c.in_ok-count.count ≡ length c.args.bids.now = search rules in
    size_made c.try_from-2.result c.in_ok-count.count (c.try_from-2.ensures 0) c.in_ok-size.size (sym c.ok-2.ensures.value ∙ c.in_ok-size.was) ∙ k

pub returns-in_err-size : goal.returns-in_err-size
returns-in_err-size c =
    let k : c.in_ok-count.count ≡ length c.args.bids.now = search rules in
    let none = none_made c.try_from-2.result c.in_ok-count.count (c.try_from-2.ensures 0) (sym c.ok-2.ensures.value ∙ c.in_err-size.was) in
    let e : may_group c.args.bids.now ≡ false = ap (λ n. group_fine n && one_area c.args.bids.now) (sym k) ∙ ap (λ b. b && one_area c.args.bids.now) none in
    rw c.from_residual-in_err-size.ensures e
