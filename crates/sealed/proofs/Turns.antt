-- A reader that goes on: the next row, and the rows after it.
use Rattle.std.proofs.Common.{◌≡◌, ℕ, zero, suc, ◌+◌, ◌-◌, ◌<◌, ◌≤◌, Bool, true, false, cond, not, ◌&&◌, eqb, ltb, List, [], ◌∷◌, length, get_or, drop, Some, None, Ok, Err, Option, Result, sym, refl, ap, ◌∙◌, subst, arith, length-drop, ltb-false}
use Rattle.std.proofs.lemmas.Bool.{and_parts, and_from, eqb-true, eq-eqb, both_ways}
use Rattle.byte_layer.specs.declared.fault.Told.{Told}
use Rattle.byte_layer.specs.Fault.{fault}
use Rattle.units.specs.Limit.{is_area}
use Rattle.units.specs.Field.{judged}
use Rattle.units.proofs.Judged.{no_err}
use Rattle.bid.specs.declared.fields.BidFields.{BidFields}
use Rattle.bid.specs.Fields.{bid_fine}
use Rattle.bid.specs.Format.{bid_read}
use Rattle.bid.specs.Group.{group_fine}
use Rattle.need.specs.Fields.{need_fine}
use Rattle.need.specs.Format.{need_read}
use Rattle.border.specs.Fields.{border_placed, border_fine}
use Rattle.border.specs.Format.{border_read}
use Rattle.book.specs.declared.command.Command.{Command}
use Rattle.book.specs.declared.command.Command.TheVariants as command
use Rattle.book.specs.declared.row.Row.{Row}
use Rattle.book.specs.declared.row.Row.TheVariants as kind
use Rattle.book.specs.declared.stand.Stand.{Stand}
use Rattle.book.specs.Command.{is_bid}
use Rattle.book.specs.Rows.{command_of, row_size, rowed, row_read, row_judged}
use Rattle.book.specs.Writing.{Runs, none, more, Written}
use Rattle.book.specs.Stands.{due_of, row_of, same_of, fresh, begin, onward, member_on, closed, after}
use Rattle.book.specs.Reading.{step_of, push, read_rows, decoded, ends, checked, rows_of, rows_in}
use Rattle.book.proofs.Trip.{seal_is}
use Rattle.book.proofs.Steps.{cond_case, no_none, step_moves, row_has, step_ended, reads_seal, reads_fault}
use Rattle.sealed.specs.Book.{passes}
use Rattle.sealed.specs.Lot.{lawful_row, lawful_rows}
use Rattle.sealed.specs.Ahead.{reads, reads_on, ahead}
use Rattle.sealed.specs.Members.{MemberOn}

-- one turn
turn : (f : ℕ) (s : Stand) (t : List ℕ) (r : Row) (n : Stand) → step_of s t ≡ Ok (Some (r, n)) → read_rows (suc f) s t ≡ push r (read_rows f n (drop (row_size r) t))
unfolding read_rows
turn f s t r n e = rw e

-- steps enough are enough
fuel_at : (f g : ℕ) (s : Stand) (t : List ℕ) → length t ≤ suc f → length t ≤ suc g → (x : Result (Option (Row × Stand)) Told) → step_of s t ≡ x
    → ((n : Stand) (u : List ℕ) → length u ≤ f → length u ≤ g → read_rows f n u ≡ read_rows g n u) → read_rows (suc f) s t ≡ read_rows (suc g) s t
fuel_at f g s t h k (Err x) e ih = reads_fault (suc f) s t x e h ∙ sym (reads_fault (suc g) s t x e k)
fuel_at f g s t h k (Ok None) e ih = reads_seal (suc f) s t e h ∙ sym (reads_seal (suc g) s t e k)
fuel_at f g s t h k (Ok (Some p)) e ih =
    let m = step_moves s t p.0 p.1 e in
    let b = row_has p.0 in
    let l = length-drop (row_size p.0) t in
    turn f s t p.0 p.1 e ∙ ap (push p.0) (ih p.1 (drop (row_size p.0) t) (omega (arith, m.fits)) (omega (arith, m.fits))) ∙ sym (turn g s t p.0 p.1 e)

nothing_left : (g : ℕ) (s : Stand) (t : List ℕ) → length t ≤ 0 → read_rows 0 s t ≡ read_rows g s t
unfolding read_rows step_of
nothing_left g s [] h = sym (reads_fault g s [] (fault 11 s.at) refl (omega arith))
nothing_left g s (y ∷ t) h = absurd (omega arith)

fuel : (f g : ℕ) (s : Stand) (t : List ℕ) → length t ≤ f → length t ≤ g → read_rows f s t ≡ read_rows g s t
fuel zero g s t h k = nothing_left g s t h
fuel (suc f) zero s t h k = sym (nothing_left (suc f) s t k)
fuel (suc f) (suc g) s t h k = fuel_at f g s t h k (step_of s t) refl (λ n u a b. fuel f g n u a b)

reads_push : (r : Row) (x : Result (List Row × Stand) Told) → reads (push r x) ≡ reads x
reads_push r (Ok p) = refl
reads_push r (Err e) = refl

rows_push : (r : Row) (x : Result (List Row × Stand) Told) → reads x ≡ true → rows_of (push r x) ≡ r ∷ rows_of x
rows_push r (Ok p) h = refl
rows_push r (Err e) h = let z : ◌≡◌ {A = ℕ} 0 1 = cc in absurd (omega arith)

-- a step that gives a row, and what is left to read then
module _ (s : Stand) (t : List ℕ) (r : Row) (n : Stand) (e : step_of s t ≡ Ok (Some (r, n))) where
  on_turn : read_rows (length t) s t ≡ push r (read_rows (length (drop (row_size r) t)) n (drop (row_size r) t))
  on_turn = by_length (length t) refl
    where
      by_length : (k : ℕ) → length t ≡ k → read_rows (length t) s t ≡ push r (read_rows (length (drop (row_size r) t)) n (drop (row_size r) t))
      by_length zero h = let b = row_has r in let f : row_size r ≤ length t = (step_moves s t r n e).fits in absurd (omega arith)
      by_length (suc k) h =
          let b = row_has r in
          let f : row_size r ≤ length t = (step_moves s t r n e).fits in
          let l = length-drop (row_size r) t in
          ap (λ j. read_rows j s t) h ∙ turn k s t r n e ∙ ap (push r) (fuel k (length (drop (row_size r) t)) n (drop (row_size r) t) (omega arith) (omega arith))

  pub on_reads : reads_on s t ≡ true → reads_on n (drop (row_size r) t) ≡ true
  on_reads h = sym (reads_push r (read_rows (length (drop (row_size r) t)) n (drop (row_size r) t))) ∙ ap reads (sym on_turn) ∙ h

  pub on_rows : reads_on s t ≡ true → ahead s t ≡ r ∷ ahead n (drop (row_size r) t)
  unfolding ahead
  on_rows h = ap rows_of on_turn ∙ rows_push r (read_rows (length (drop (row_size r) t)) n (drop (row_size r) t)) (on_reads h)

-- at the seal no row is left, and a reader of a sound text meets no fault
pub seal_rows : (s : Stand) (t : List ℕ) → step_of s t ≡ Ok None → ahead s t ≡ []
unfolding ahead
seal_rows s t e = ap rows_of (reads_seal (length t) s t e (omega arith))

fault_reads : (s : Stand) (t : List ℕ) (x : Told) → step_of s t ≡ Err x → reads_on s t ≡ false
fault_reads s t x e = ap reads (reads_fault (length t) s t x e (omega arith))

pub no_fault : {P : Type 0} (s : Stand) (t : List ℕ) (x : Told) → step_of s t ≡ Err x → reads_on s t ≡ true → P
no_fault s t x e h = let z : true ≡ false = sym h ∙ fault_reads s t x e in let w : ◌≡◌ {A = ℕ} 0 1 = cc in absurd (omega arith)

-- while a member is due there is a row
due_at : (s : Stand) (t : List ℕ) → reads_on s t ≡ true → 0 < (due_of s) → (x : Result (Option (Row × Stand)) Told) → step_of s t ≡ x → 0 < length (ahead s t)
due_at s t h d (Err x) e = no_fault s t x e h
due_at s t h d (Ok None) e =
    let m = step_ended s t e in
    let i = seal_is m.command m.seal in
    let z = subst (λ (c : Command). (ltb 0 (due_of s) && not (is_bid c)) ≡ false) i m.due in
    let none = ltb-false 0 (due_of s) (front (ltb 0 (due_of s)) z) in
    absurd (omega arith)
  where
    front : (b : Bool) → (b && true) ≡ false → b ≡ false
    front true e = e
    front false e = refl
due_at s t h d (Ok (Some p)) e = let l = ap length (on_rows s t p.0 p.1 e h) in omega arith

pub due_left : (s : Stand) (t : List ℕ) → reads_on s t ≡ true → 0 < (due_of s) → 0 < length (ahead s t)
due_left s t h d = due_at s t h d (step_of s t) refl

-- the rows of a whole text
pub begin_rows : (t : List ℕ) → ahead begin t ≡ rows_in t
unfolding ahead rows_in decoded
begin_rows t = refl

-- lawful rows
pub lawful_first : (r : Row) (rs : List Row) → lawful_rows (r ∷ rs) ≡ true → lawful_row r ≡ true
unfolding lawful_rows
lawful_first r rs h = (and_parts (lawful_row r) (lawful_rows rs) h).0

pub lawful_rest : (r : Row) (rs : List Row) → lawful_rows (r ∷ rs) ≡ true → lawful_rows rs ≡ true
unfolding lawful_rows
lawful_rest r rs h = (and_parts (lawful_row r) (lawful_rows rs) h).1

-- ---- rows that may be filed are lawful
taken_lawful : {X : Type 0} (f : X → Row) (row : ℕ) (areas others : Bool) (x : X) (r : Row) → rowed f (judged row areas others x) ≡ Ok (Some r) → (areas && others) ≡ true
taken_lawful f row true true x r e = refl
taken_lawful f row true false x r e = no_err (fault 24 row) (Some r) e
taken_lawful f row false others x r e = no_err (fault 23 row) (Some r) e

row_lawful : (row : ℕ) (r q : Row) → row_judged row r ≡ Ok (Some q) → lawful_row r ≡ true
row_lawful row (kind.Bid f) q e = taken_lawful kind.Bid row (is_area f.area) (bid_fine f.quarters) f q e
row_lawful row (kind.Group n) q e = taken_lawful kind.Group row true (group_fine n) n q e
row_lawful row (kind.Need f) q e = taken_lawful kind.Need row (is_area f.area) (need_fine f.elasticity f.quarters) f q e
row_lawful row (kind.Border f) q e = taken_lawful kind.Border row (border_placed f.from f.to) (border_fine f.quarters) f q e

runs_lawful : {s n : Stand} {rs : List Row} → Runs s rs n → lawful_rows rs ≡ true
unfolding lawful_rows
runs_lawful none = refl
runs_lawful {s} (more {r = r} {rs = rs} w k) = and_from (lawful_row r) (lawful_rows rs) (row_lawful s.rows r r w.fine) (runs_lawful k)

pub written_lawful : (t : List ℕ) (n : ℕ) (rs : List Row) → Written t n rs → lawful_rows rs ≡ true
written_lawful t n rs w = runs_lawful w.begins.runs

-- a seal alone has no rows
pub seal_lawful : lawful_rows (rows_in (0x53 ∷ [])) ≡ true
unfolding rows_in decoded read_rows step_of row_read lawful_rows
seal_lawful = refl

-- a book that passed its check is read with no fault
pub passed_reads : (t : List ℕ) → passes (checked t) ≡ true → reads_on begin t ≡ true
unfolding checked decoded
passed_reads t h = whole (read_rows (length t) begin t) h
  where
    whole : (x : Result (List Row × Stand) Told) → passes (ends x) ≡ true → reads x ≡ true
    whole (Ok p) h = refl
    whole (Err e) h = h

-- ---- the command that a row was
rowed_of : {X : Type 0} (f : X → Row) (k : Command) → ((x : X) → k ≡ command_of (f x)) → (y : Result X Told) (r : Row) → rowed f y ≡ Ok (Some r) → k ≡ command_of r
rowed_of f k h (Ok x) r e = let q : f x ≡ r = cc in h x ∙ ap command_of q
rowed_of f k h (Err x) r e = no_err x (Some r) e

pub command_of_lem : (k : Command) (n : ℕ) (t : List ℕ) (r : Row) → row_read k n t ≡ Ok (Some r) → k ≡ command_of r
unfolding row_read
command_of_lem command.Bid n t r e = rowed_of kind.Bid command.Bid (λ x. refl) (bid_read n (drop 1 t)) r e
command_of_lem command.Group n t r e = rowed_of kind.Group command.Group (λ x. refl) (judged n true (group_fine (get_or t 1 0)) (get_or t 1 0)) r e
command_of_lem command.Need n t r e = rowed_of kind.Need command.Need (λ x. refl) (need_read n (drop 1 t)) r e
command_of_lem command.Border n t r e = rowed_of kind.Border command.Border (λ x. refl) (border_read n (drop 1 t)) r e
command_of_lem command.Seal n t r e = no_none r e

-- ---- members
pub no_member : {P : Type 0} → false ≡ true → P
no_member e = let z : ◌≡◌ {A = ℕ} 0 1 = cc in absurd (omega arith)

pub same_stand : (a b : Stand) → ◌≡◌ {A = Result Stand Told} (Ok a) (Ok b) → a ≡ b
same_stand a b e = cc

pub member_on_lem : (s : Stand) (f : BidFields) (n : Stand) → after s (kind.Bid f) ≡ Ok n → 0 < (due_of s) → MemberOn s f.area n
unfolding after
member_on_lem s f n e d =
    let next = member_on s f.area in
    let last = fresh (s.at + 51) (s.rows + 1) in
    cond_case (eqb (due_of s) 0) (Ok (onward s (kind.Bid f))) (closed next) (Ok n) e
    (λ z _. absurd (omega (arith, eqb-true (due_of s) 0 z)))
    (λ _ p. cond_case (eqb (due_of next) 0) (cond (same_of next) (Ok last) (Err (fault 25 (row_of s)))) (Ok next) (Ok n) p
    (λ z x. cond_case (same_of next) (Ok last) (Err (fault 25 (row_of s))) (Ok n) x
    (λ w y. let q : last ≡ n = same_stand last n y in let u = ap due_of q in let v = eqb-true ((due_of s) - 1) 0 z in record { due = omega arith; on = λ h. absurd (omega arith); closes = λ _. w })
    (λ _ y. no_err (fault 25 (row_of s)) n y))
    (λ z x. let q : next ≡ n = same_stand next n x in let u = ap due_of q in record { due = omega arith; on = λ _. sym q; closes = λ h. absurd (both_ways (eqb ((due_of s) - 1) 0) z (eq-eqb ((due_of s) - 1) 0 (u ∙ h))) }))

-- fields that keep their rules are taken
pub refused_lawful : {P X : Type 0} (e : Told) (areas others : Bool) (x : X) → Err e ≡ judged 0 areas others x → (areas && others) ≡ true → P
refused_lawful e true true x h k = no_err e x h
refused_lawful e true false x h k = no_member k
refused_lawful e false others x h k = no_member k
