-- Every order keeps the duties of a lot.
use Rattle.lot.specs.Duties.{Duties}
use Rattle.lot.specs.Laws.Singles.{single_duties}
use Rattle.bid.specs.Bidding.{bidding}
use Rattle.bid.specs.Laws.Bids.{bid_duties}
use Rattle.group.specs.Laws.Groups.{grouping_duties}
use Rattle.need.specs.Needing.{needing}
use Rattle.need.specs.Laws.Needs.{need_duties}
use Rattle.border.specs.Flow.{flowing}
use Rattle.border.specs.Laws.Flows.{border_duties}
use Rattle.order.specs.declared.order.Order.{Order}
use Rattle.order.specs.declared.order.Order.TheVariants as kind
use Rattle.order.specs.Order.{members_of, order_meaning}

pub order_duties : (o : Order) → Duties (order_meaning o)
order_duties (kind.Bid b) = single_duties (bidding b.fields) (bid_duties b.fields b.placed b.fine)
order_duties (kind.Group g) = grouping_duties (members_of g)
order_duties (kind.Need n) = single_duties (needing n.fields) (need_duties n.fields n.placed n.fine)
order_duties (kind.Border b) = single_duties (flowing b.fields) (border_duties b.fields b.placed b.fine)
