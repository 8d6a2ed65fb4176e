-- A book as a lot: its rows joined in order. A group's row is a row without cells, and its members are the rows after it.
use Rattle.std.specs.Prelude.{Bool, true, false, ◌&&◌, List, [], ◌∷◌, map, take, drop}
use Rattle.units.specs.Limit.{is_area}
use Rattle.lot.specs.Meaning.{Meaning}
use Rattle.lot.specs.Join.{together}
use Rattle.lot.specs.Single.{single, exclusive}
use Rattle.bid.specs.declared.fields.BidFields.{BidFields}
use Rattle.bid.specs.Fields.{bid_fine}
use Rattle.bid.specs.Group.{group_fine}
use Rattle.bid.specs.Bidding.{bidding}
use Rattle.need.specs.declared.fields.NeedFields.{NeedFields}
use Rattle.need.specs.Fields.{need_fine}
use Rattle.need.specs.Needing.{needing}
use Rattle.border.specs.declared.fields.BorderFields.{BorderFields}
use Rattle.border.specs.Fields.{border_placed, border_fine}
use Rattle.border.specs.Flow.{flowing}
use Rattle.book.specs.declared.row.Row.{Row}
use Rattle.book.specs.declared.row.Row.TheVariants as kind

-- what the rows of a book stand for: a row by itself, or a group with its members
pub data Filed : Type 0 where
  bid : BidFields → Filed
  group : List BidFields → Filed
  need : NeedFields → Filed
  border : BorderFields → Filed

-- the bids among them
abbrev pub bids_among : List Filed → List BidFields
bids_among [] = []
bids_among (bid f ∷ os) = f ∷ bids_among os
bids_among (group fs ∷ os) = bids_among os
bids_among (need f ∷ os) = bids_among os
bids_among (border f ∷ os) = bids_among os

-- a group of n members takes what stands in the n rows after it
unfoldable pub filed : List Row → List Filed
filed [] = []
filed (kind.Bid f ∷ rs) = bid f ∷ filed rs
filed (kind.Group n ∷ rs) = group (bids_among (take n (filed rs))) ∷ drop n (filed rs)
filed (kind.Need f ∷ rs) = need f ∷ filed rs
filed (kind.Border f ∷ rs) = border f ∷ filed rs

abbrev pub filed_meaning : Filed → Meaning
filed_meaning (bid f) = single (bidding f)
filed_meaning (group fs) = exclusive (map bidding fs)
filed_meaning (need f) = single (needing f)
filed_meaning (border f) = single (flowing f)

-- the meaning of a book, from the list of its rows
abbrev pub book_meaning : List Row → Meaning
book_meaning rs = together filed_meaning (filed rs)

-- the fields of a row keep their rules
abbrev pub lawful_row : Row → Bool
lawful_row (kind.Bid f) = is_area f.area && bid_fine f.quarters
lawful_row (kind.Group n) = group_fine n
lawful_row (kind.Need f) = is_area f.area && need_fine f.elasticity f.quarters
lawful_row (kind.Border f) = border_placed f.from f.to && border_fine f.quarters

unfoldable pub lawful_rows : List Row → Bool
lawful_rows [] = true
lawful_rows (r ∷ rs) = lawful_row r && lawful_rows rs

abbrev pub is_group : Row → Bool
is_group (kind.Bid f) = false
is_group (kind.Group n) = true
is_group (kind.Need f) = false
is_group (kind.Border f) = false
