-- An exclusive group of lawful bids: two to eight, of one area.
use Rattle.std.specs.Prelude.{ℕ, Bool, true, ◌&&◌, List, [], ◌∷◌, map, length, ◌==◌}
use Rattle.lot.specs.Meaning.{Meaning}
use Rattle.lot.specs.Single.{Single, single, exclusive}
use Rattle.bid.specs.declared.lawful.Bid.{Bid}
use Rattle.bid.specs.Bidding.{bidding}
use Rattle.bid.specs.Group.{group_fine}

abbrev pub member_of : Bid → Single
member_of b = bidding b.fields

-- what a bid means by itself
abbrev pub bid_meaning : Bid → Meaning
bid_meaning b = single (member_of b)

-- all are of an area
abbrev pub in_area : ℕ → List Bid → Bool
in_area area [] = true
in_area area (b ∷ bs) = b.fields.area == area && in_area area bs

-- all are of the first's area
abbrev pub one_area : List Bid → Bool
one_area [] = true
one_area (b ∷ bs) = in_area b.fields.area bs

-- bids that may be the members of a group
abbrev pub may_group : List Bid → Bool
may_group bs = group_fine (length bs) && one_area bs

abbrev pub grouping : List Bid → Meaning
grouping bs = exclusive (map member_of bs)
