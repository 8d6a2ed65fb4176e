use Rattle.std.proofs.Common.{◌≡◌, ◌∙◌, map, ℤ, pos, w64, rules}
use borrow.Author.Tests.{tests}
use Rattle.std.specs.Int.{int_max}
use Rattle.std.specs.List.{fold}
use Rattle.std.proofs.lemmas.Int.{to_z-of_z}
use Rattle.std.proofs.lemmas.Iterator.{YieldsList-from_slice, YieldsList-from_map}
use Rattle.std.proofs.lemmas.Iterator.Consumers.{YieldsList-at, fold_from_yields_List}
use Rattle.lot.specs.Page.{table_of}
use Rattle.group.specs.Group.{member_of}
use Rattle.group.proofs.Members.{largest_is}
use Rattle.group.proofs.as_lot.largest_best.Goals as goal

pub returns : goal.returns
returns c =
    let p = table_of c.args.prices.bytes.now in
    let e : c.fold.result ≡ fold (λ top best. int_max best top) (pos 0) (map (λ b. (member_of b).best p) c.args.bids.now) =
    fold_from_yields_List _ (λ (top best : ℤ). int_max best top) (pos 0) _ c.fold.ensures.ran (YieldsList-from_map _ (λ b. (member_of b).best p) (YieldsList-at c.map.ensures.source (YieldsList-from_slice c.args.bids.now cc)) c.map.ensures.closure (λ x r q k. search rules)) (λ a x b q k. search (rules, tests)) in
    to_z-of_z w64 c.fold.result (search rules) ∙ e ∙ largest_is p c.args.bids.now
