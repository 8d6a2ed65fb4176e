-- The shape of a page, a proposed clearing for a lot of k cell rows: a command byte, a row for each cell row, and a row
-- for each of the 32 areas' prices, a row being a command byte and four signed numbers of 4 bytes.
use Rattle.std.specs.Prelude.{◌≡◌, ℕ, ◌+◌, ◌-◌, ◌*◌, ◌/◌, ◌%◌, ◌<◌, Bool, cond, not, ◌&&◌, List, length, take, drop, Some, None, Option, ◌==◌, nat_le, nat_lt, min, slice_index, find}
use Rattle.std.specs.List.{range_with_len}
use Rattle.std.specs.Option.{option_map, option_or}
use Rattle.units.specs.Limit.{is_price}
use Rattle.lot.specs.Page.{table_of}
use Rattle.page.specs.declared.fault.PageFault.{PageFault}
use Rattle.page.specs.declared.fault.PageFault.TheVariants.{Shape, Price}

abbrev pub page_length : ℕ → ℕ
page_length k = 545 + 17 * k

-- its cells and its prices
abbrev pub cell_part : ℕ → List ℕ → List ℕ
cell_part k t = take (17 * k) (drop 1 t)

abbrev pub price_part : ℕ → List ℕ → List ℕ
price_part k t = drop (1 + 17 * k) t

-- its commands are numbered: 0 opens the page, 1 to k stand before cells, and one more before each area's prices
abbrev pub place_of : ℕ → ℕ
place_of i = 17 * i - 16

abbrev pub sign_of : ℕ → ℕ → ℕ
sign_of k i = cond (i == 0) 0x50 (cond (nat_le i k) 0x51 0x43)

-- a command that the text has, and is another byte
abbrev pub wrong_at : ℕ → List ℕ → ℕ → Bool
wrong_at k t i = nat_lt (place_of i) (length t) && not (slice_index t (place_of i) == sign_of k i)

-- the least number below n that passes a test
abbrev pub least : ℕ → (ℕ → Bool) → Option ℕ
least n test = find test (range_with_len 0 n)

-- where the shape is another: at the first wrong command, else at the shorter of the text's length and a page's
abbrev pub length_fault : ℕ → List ℕ → Option ℕ
length_fault k t = cond (length t == page_length k) None (Some (min (length t) (page_length k)))

abbrev pub shape_fault : ℕ → List ℕ → Option ℕ
shape_fault k t = option_or (option_map place_of (least (33 + k) (wrong_at k t))) (length_fault k t)

-- the smallest place, 4 × area + quarter, whose price is beyond the cap
abbrev pub price_fault : List ℕ → Option ℕ
price_fault q = least 128 (λ j. not (is_price (table_of q (j / 4) (j % 4))))

-- what a page has wrong, its shape first
abbrev pub page_fault : ℕ → List ℕ → Option PageFault
page_fault k t = option_or (option_map Shape (shape_fault k t)) (option_map Price (price_fault (price_part k t)))

-- the shape in plain words, with no order
pub record Shaped (k : ℕ) (t : List ℕ) : Type 0 where
  pub long : length t ≡ page_length k
  pub opens : slice_index t 0 ≡ 0x50
  pub rows : (i : ℕ) → i < k → slice_index t (1 + 17 * i) ≡ 0x51
  pub areas : (a : ℕ) → a < 32 → slice_index t (1 + 17 * k + 17 * a) ≡ 0x43
