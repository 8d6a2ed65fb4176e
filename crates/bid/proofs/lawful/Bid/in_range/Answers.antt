use Rattle.std.proofs.Common.{◌≡◌, Bool, ◌&&◌, length, ℤ, pos, ◌∙◌, rules, tests}
use lib.Signed.{le_z}
use Rattle.std.proofs.lemmas.Iterator.{YieldsList-from_slice, YieldsList-from_zip}
use Rattle.std.proofs.lemmas.Iterator.Search.{all_from_yields_List}
use Rattle.lot.proofs.Chains.{all_of_zip}
use Rattle.bid.specs.declared.fields.BidQuarter.{BidQuarter}
use Rattle.bid.proofs.lawful.Bid.in_range.Goals as goal

pub returns : goal.returns
returns c =
    let q = c.args.cells.now in
    let qs = c.args.self.now.fields.quarters in
    let four : length q ≡ 4 = cc in
    let test : ℤ × BidQuarter → Bool = λ p. le_z (pos p.1.minimum) p.0 && le_z p.0 (pos p.1.maximum) in
    all_from_yields_List test c.all.new.self _ c.all.result c.all.ensures.ran (YieldsList-from_zip (YieldsList-from_slice q (cc)) (YieldsList-from_slice qs (cc))) (λ x b q k. search (rules, tests))
    ∙ all_of_zip test q qs (pos 0) (record { minimum = 0; maximum = 0; price = pos 0 }) four c.args.self.now.four
