-- What reading a group's members tells.
use Rattle.std.specs.Prelude.{◌≡◌, ℕ, ◌+◌, ◌<◌, true, List, [], ◌∷◌, ◌++◌, length, take}
use Rattle.bid.specs.declared.lawful.Bid.{Bid}
use Rattle.book.specs.declared.row.Row.{Row}
use Rattle.book.specs.declared.row.Row.TheVariants as kind
use Rattle.book.specs.declared.stand.Stand.{Stand}
use Rattle.book.specs.declared.stand.Areas.TheVariants.{Unknown}
use Rattle.book.specs.Stands.{member_on, due_of, areas_of, same_of}
use Rattle.group.specs.Group.{one_area}
use Rattle.sealed.specs.Ahead.{ahead}

-- bids as rows
abbrev pub bid_rows : List Bid → List Row
bid_rows [] = []
bid_rows (b ∷ bs) = kind.Bid b.fields ∷ bid_rows bs

-- one member on: from s to n, by a bid of an area
pub record MemberOn (s : Stand) (area : ℕ) (n : Stand) : Type 0 where
  pub due : due_of n + 1 ≡ due_of s
  pub on : 0 < due_of n → n ≡ member_on s area
  pub closes : due_of n ≡ 0 → same_of (member_on s area) ≡ true

-- a group of n members was just begun
pub record Begun (s : Stand) (n : ℕ) : Type 0 where
  pub due : due_of s ≡ n
  pub areas : areas_of s ≡ Unknown

-- from (s, t) on, the first n bids of a list were read, all of one area, and (e, u) is left
pub record Gathered (s : Stand) (t : List ℕ) (n : ℕ) (all : List Bid) (e : Stand) (u : List ℕ) : Type 0 where
  pub long : length all ≡ 8
  pub rows : ahead s t ≡ bid_rows (take n all) ++ ahead e u
  pub area : one_area (take n all) ≡ true
  pub whole : due_of e ≡ 0
