-- What an order means as a lot: what the lot of its kind means.
use Rattle.std.specs.Prelude.{List, take}
use Rattle.lot.specs.Meaning.{Meaning}
use Rattle.lot.specs.Single.{single}
use Rattle.bid.specs.declared.lawful.Bid.{Bid}
use Rattle.bid.specs.Bidding.{bidding}
use Rattle.group.specs.declared.group.ExclusiveGroup.{ExclusiveGroup}
use Rattle.group.specs.Group.{grouping}
use Rattle.need.specs.Needing.{needing}
use Rattle.border.specs.Flow.{flowing}
use Rattle.order.specs.declared.order.Order.{Order}
use Rattle.order.specs.declared.order.Order.TheVariants as kind

-- the members of a group
abbrev pub members_of : ExclusiveGroup → List Bid
members_of g = take g.size.members g.members

abbrev pub order_meaning : Order → Meaning
order_meaning (kind.Bid b) = single (bidding b.fields)
order_meaning (kind.Group g) = grouping (members_of g)
order_meaning (kind.Need n) = single (needing n.fields)
order_meaning (kind.Border b) = single (flowing b.fields)
