use Rattle.std.proofs.Common.{◌∙◌, ap₂, rules}
use Rattle.lot.specs.Sum.{same_z}
use Rattle.lot.proofs.Machine.{passed_product, eq_tests}
use Rattle.bid.proofs.as_lot.share.Goals as goal

pub returns : goal.returns
returns c =
    eq_tests {x = c.product.result} {y = c.product-2.result} (search rules) (search rules)
    ∙ ap₂ same_z (passed_product c.ranges.cell c.ranges.other_most c.product.ensures) (passed_product c.ranges.other c.ranges.most c.product-2.ensures)
