-- A group of lawful bids keeps the duties of a lot.
use Rattle.std.specs.Prelude.{◌≡◌, List, [], ◌∷◌, map, refl}
use Rattle.std.proofs.Common.{ap}
use Rattle.std.specs.List.{AllByRecursion}
use Rattle.lot.specs.Duties.{Duties}
use Rattle.lot.specs.Join.{join, blank, together}
use Rattle.lot.specs.Single.{single, headed}
use Rattle.lot.specs.Laws.Singles.{SingleDuties}
use Rattle.lot.specs.Laws.Exclusives.{group_duties}
use Rattle.bid.specs.declared.lawful.Bid.{Bid}
use Rattle.bid.specs.Laws.Bids.{bid_duties}
use Rattle.group.specs.Group.{member_of, bid_meaning, grouping}

pub members_owe : (bs : List Bid) → AllByRecursion SingleDuties (map member_of bs)
members_owe [] = tt
members_owe (b ∷ bs) = (bid_duties b.fields b.placed b.fine, members_owe bs)

pub grouping_duties : (bs : List Bid) → Duties (grouping bs)
grouping_duties bs = group_duties (map member_of bs) (members_owe bs)

-- the members, each as a lot, are the rows of the group
pub members_joined : (bs : List Bid) → together single (map member_of bs) ≡ together bid_meaning bs
unfolding together
members_joined [] = refl
members_joined (b ∷ bs) = ap (join (bid_meaning b)) (members_joined bs)

pub headed_is : (bs : List Bid) → headed (map member_of bs) ≡ join (blank 1) (together bid_meaning bs)
headed_is bs = ap (join (blank 1)) (members_joined bs)
