-- A book of lawful rows keeps the duties of a lot.
use Rattle.std.specs.Prelude.{◌≡◌, ℕ, zero, suc, true, List, [], ◌∷◌, map, length, take, drop, refl}
use Rattle.std.proofs.Common.{◌∙◌, arith}
use Rattle.std.specs.List.{AllByRecursion}
use Rattle.std.proofs.lemmas.Bool.{and_parts}
use Rattle.units.specs.Limit.{is_area}
use Rattle.lot.specs.Duties.{Duties}
use Rattle.lot.specs.Join.{nothing, together}
use Rattle.lot.specs.Laws.Joins.{join_duties, blank_duties}
use Rattle.lot.specs.Laws.Singles.{SingleDuties, single_duties}
use Rattle.lot.specs.Laws.Exclusives.{group_duties}
use Rattle.bid.specs.Fields.{bid_fine}
use Rattle.bid.specs.Bidding.{bidding}
use Rattle.bid.specs.Laws.Bids.{bid_duties}
use Rattle.need.specs.Fields.{need_fine}
use Rattle.need.specs.Needing.{needing}
use Rattle.need.specs.Laws.Needs.{need_duties}
use Rattle.border.specs.Fields.{border_placed, border_fine}
use Rattle.border.specs.Flow.{flowing}
use Rattle.border.specs.Laws.Flows.{border_duties}
use Rattle.book.specs.declared.row.Row.{Row}
use Rattle.book.specs.declared.row.Row.TheVariants as kind
use Rattle.sealed.specs.Lot.{Filed, bid, group, need, border, bids_among, filed, filed_meaning, book_meaning, lawful_row, lawful_rows}

-- what each row, or group, shows
abbrev Owes : Filed → Type 0
Owes (bid f) = SingleDuties (bidding f)
Owes (group fs) = AllByRecursion SingleDuties (map bidding fs)
Owes (need f) = SingleDuties (needing f)
Owes (border f) = SingleDuties (flowing f)

all_take : {A : Type 0} (P : A → Type 0) (n : ℕ) (xs : List A) → AllByRecursion P xs → AllByRecursion P (take n xs)
all_take P zero xs h = tt
all_take P (suc n) [] h = tt
all_take P (suc n) (x ∷ xs) h = (h.0, all_take P n xs h.1)

all_drop : {A : Type 0} (P : A → Type 0) (n : ℕ) (xs : List A) → AllByRecursion P xs → AllByRecursion P (drop n xs)
all_drop P zero xs h = h
all_drop P (suc n) [] h = tt
all_drop P (suc n) (x ∷ xs) h = all_drop P n xs h.1

bids_owe : (os : List Filed) → AllByRecursion Owes os → AllByRecursion SingleDuties (map bidding (bids_among os))
bids_owe [] h = tt
bids_owe (bid f ∷ os) h = (h.0, bids_owe os h.1)
bids_owe (group fs ∷ os) h = bids_owe os h.1
bids_owe (need f ∷ os) h = bids_owe os h.1
bids_owe (border f ∷ os) h = bids_owe os h.1

filed_owe : (rs : List Row) → lawful_rows rs ≡ true → AllByRecursion Owes (filed rs)
unfolding filed lawful_rows
filed_owe [] h = tt
filed_owe (kind.Bid f ∷ rs) h =
    let both = and_parts (lawful_row (kind.Bid f)) (lawful_rows rs) h in
    let fine = and_parts (is_area f.area) (bid_fine f.quarters) both.0 in
    (bid_duties f fine.0 fine.1, filed_owe rs both.1)
filed_owe (kind.Group n ∷ rs) h =
    let both = and_parts (lawful_row (kind.Group n)) (lawful_rows rs) h in
    let rest = filed_owe rs both.1 in
    (bids_owe (take n (filed rs)) (all_take Owes n (filed rs) rest), all_drop Owes n (filed rs) rest)
filed_owe (kind.Need f ∷ rs) h =
    let both = and_parts (lawful_row (kind.Need f)) (lawful_rows rs) h in
    let fine = and_parts (is_area f.area) (need_fine f.elasticity f.quarters) both.0 in
    (need_duties f fine.0 fine.1, filed_owe rs both.1)
filed_owe (kind.Border f ∷ rs) h =
    let both = and_parts (lawful_row (kind.Border f)) (lawful_rows rs) h in
    let fine = and_parts (border_placed f.from f.to) (border_fine f.quarters) both.0 in
    (border_duties f fine.0 fine.1, filed_owe rs both.1)

one_duties : (o : Filed) → Owes o → Duties (filed_meaning o)
one_duties (bid f) h = single_duties (bidding f) h
one_duties (group fs) h = group_duties (map bidding fs) h
one_duties (need f) h = single_duties (needing f) h
one_duties (border f) h = single_duties (flowing f) h

all_duties : (os : List Filed) → AllByRecursion Owes os → Duties (together filed_meaning os)
unfolding together
all_duties [] h = blank_duties 0
all_duties (o ∷ os) h = join_duties (filed_meaning o) (together filed_meaning os) (one_duties o h.0) (all_duties os h.1)

pub book_duties : (rs : List Row) → lawful_rows rs ≡ true → Duties (book_meaning rs)
book_duties rs h = all_duties (filed rs) (filed_owe rs h)

-- no rows are the lot of no rows
pub book_none : (rs : List Row) → length rs ≡ 0 → book_meaning rs ≡ nothing
unfolding filed together
book_none [] h = refl
book_none (r ∷ rs) h = absurd (let z : ◌≡◌ {A = ℕ} 0 1 = cc in omega arith)

pub orders_end : (rs : List Row) (n : ℕ) → length rs ≡ n → n ≡ 0 → book_meaning rs ≡ nothing
orders_end rs n e h = book_none rs (e ∙ h)
