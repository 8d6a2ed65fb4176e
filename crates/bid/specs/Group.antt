-- The rules of an exclusive group: two to eight members, all of one area.
use Rattle.std.specs.Prelude.{ℕ, Bool, true, ◌&&◌, Option, Result, ◌==◌, nat_le}
use Rattle.std.specs.Option.{unwrap_or}
use Rattle.byte_layer.specs.declared.fault.Told.{Told}
use Rattle.units.specs.Field.{judged}

abbrev pub fewest_members : ℕ
fewest_members = 2

abbrev pub most_members : ℕ
most_members = 8

abbrev pub group_fine : ℕ → Bool
group_fine members = nat_le fewest_members members && nat_le members most_members

-- the number of members, or what it tells in a row: a group's command names no area
abbrev pub group_judged : ℕ → ℕ → Result ℕ Told
group_judged row members = judged row true (group_fine members) members

-- a member of this area beside the first member's area, if there is one yet
abbrev pub same_area : Option ℕ → ℕ → Bool
same_area first area = area == unwrap_or first area
