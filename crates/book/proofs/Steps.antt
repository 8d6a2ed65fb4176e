-- What the steps of a reader tell of sizes and counts.
use Rattle.std.proofs.Common.{◌≡◌, ℕ, zero, suc, ◌+◌, ◌≤◌, Bool, true, false, cond, not, ◌&&◌, eqb, ltb, leb, List, [], ◌∷◌, length, get_or, drop, Some, None, Ok, Err, Option, Result, sym, refl, ap, ◌∙◌, subst, arith, length-drop, leb-true}
use Rattle.byte_layer.specs.declared.fault.Told.{Told}
use Rattle.byte_layer.specs.Fault.{fault}
use Rattle.units.specs.Field.{judged}
use Rattle.units.proofs.Judged.{no_err}
use Rattle.bid.specs.Format.{bid_read}
use Rattle.bid.specs.Group.{group_fine}
use Rattle.need.specs.Format.{need_read}
use Rattle.border.specs.Format.{border_read}
use Rattle.book.specs.declared.command.Command.{Command}
use Rattle.book.specs.declared.command.Command.TheVariants as command
use Rattle.book.specs.declared.row.Row.{Row}
use Rattle.book.specs.declared.row.Row.TheVariants as kind
use Rattle.book.specs.declared.stand.Stand.{Stand}
use Rattle.book.specs.Fault.{most_rows}
use Rattle.book.specs.Command.{command_size, command_for, command_at, whole, is_bid, is_seal}
use Rattle.book.specs.Rows.{rowed, row_read, row_size}
use Rattle.book.specs.Stands.{due_of, row_of, same_of, fresh, onward, member_on, group_on, closed, after}
use Rattle.book.specs.Reading.{stood, step_taken, step_row, step_command, step_of, push, ends, stepped, read_rows}

-- a test that came out one way or the other
pub cond_case : {X : Type 0} {P : Type 0} (b : Bool) (x y z : X) → cond b x y ≡ z → (b ≡ true → x ≡ z → P) → (b ≡ false → y ≡ z → P) → P
cond_case true x y z e f g = f refl e
cond_case false x y z e f g = g refl e

pub no_none : {X E P : Type 0} (x : X) → ◌≡◌ {A = Result (Option X) E} (Ok None) (Ok (Some x)) → P
no_none x p = let z : ◌≡◌ {A = ℕ} 0 1 = cc in absurd (omega arith)

some_none : {X E P : Type 0} (x : X) → ◌≡◌ {A = Result (Option X) E} (Ok (Some x)) (Ok None) → P
some_none x p = let z : ◌≡◌ {A = ℕ} 0 1 = cc in absurd (omega arith)

rowed_size : {X : Type 0} (f : X → Row) (x : Result X Told) (n : ℕ) → ((y : X) → row_size (f y) ≡ n) → (r : Row) → rowed f x ≡ Ok (Some r) → row_size r ≡ n
rowed_size f (Ok y) n h r e = let q : f y ≡ r = cc in sym (ap row_size q) ∙ h y
rowed_size f (Err y) n h r e = no_err y (Some r) e

pub row_size_lem : (k : Command) (n : ℕ) (t : List ℕ) (r : Row) → row_read k n t ≡ Ok (Some r) → row_size r ≡ command_size k
unfolding row_read
row_size_lem command.Bid n t r e = rowed_size kind.Bid (bid_read n (drop 1 t)) 51 (λ y. refl) r e
row_size_lem command.Group n t r e = let m = get_or t 1 0 in rowed_size kind.Group (judged n true (group_fine m) m) 2 (λ y. refl) r e
row_size_lem command.Need n t r e = rowed_size kind.Need (need_read n (drop 1 t)) 36 (λ y. refl) r e
row_size_lem command.Border n t r e = rowed_size kind.Border (border_read n (drop 1 t)) 36 (λ y. refl) r e
row_size_lem command.Seal n t r e = no_none r e

whole_size : (at n : ℕ) (o : Option Command) (k : Command) → whole at n o ≡ Ok k → command_size k ≤ n
whole_size at n None k e = no_err (fault 12 at) k e
whole_size at n (Some j) k e = cond_case (leb (command_size j) n) (Ok j) (Err (fault 11 at)) (Ok k) e (λ h q. let i : j ≡ k = cc in subst (λ x. command_size x ≤ n) i (leb-true (command_size j) n h)) (λ _ q. no_err (fault 11 at) k q)

pub command_size_lem : (at : ℕ) (t : List ℕ) (k : Command) → command_at at t ≡ Ok k → command_size k ≤ length t
command_size_lem at [] k e = no_err (fault 11 at) k e
command_size_lem at (b ∷ bs) k e = whole_size at (length (b ∷ bs)) (command_for b) k e

-- what a step that gives a row tells
pub record Moved (s : Stand) (t : List ℕ) (r : Row) (n : Stand) : Type 0 where
  pub fits : row_size r ≤ length t
  pub at : n.at ≡ s.at + row_size r
  pub rows : n.rows ≡ s.rows + 1

-- the reader has moved by a row
pub record Stepped (s : Stand) (r : Row) (n : Stand) : Type 0 where
  pub at : n.at ≡ s.at + row_size r
  pub rows : n.rows ≡ s.rows + 1

stepped_at : (s m : Stand) (r : Row) (n : Stand) → m.at ≡ s.at + row_size r → m.rows ≡ s.rows + 1 → ◌≡◌ {A = Result Stand Told} (Ok m) (Ok n) → Stepped s r n
stepped_at s m r n a b e = let z : m ≡ n = cc in record { at = sym (ap (λ (x : Stand). x.at) z) ∙ a; rows = sym (ap (λ (x : Stand). x.rows) z) ∙ b }

pub after_at : (s : Stand) (r : Row) (n : Stand) → after s r ≡ Ok n → Stepped s r n
unfolding after
after_at s (kind.Bid b) n e =
    let next = member_on s b.area in
    let last = fresh (s.at + 51) (s.rows + 1) in
    let row = kind.Bid b in
    cond_case (eqb (due_of s) 0) (Ok (onward s row)) (closed next) (Ok n) e
    (λ _ p. stepped_at s (onward s row) row n refl refl p)
    (λ _ p. cond_case (eqb (due_of next) 0) (cond (same_of next) (Ok last) (Err (fault 25 (row_of s)))) (Ok next) (Ok n) p
    (λ _ x. cond_case (same_of next) (Ok last) (Err (fault 25 (row_of s))) (Ok n) x
    (λ _ y. stepped_at s last row n refl refl y)
    (λ _ y. no_err (fault 25 (row_of s)) n y))
    (λ _ x. stepped_at s next row n refl refl x))
after_at s (kind.Group k) n e = stepped_at s (group_on s k) (kind.Group k) n refl refl e
after_at s (kind.Need k) n e = stepped_at s (onward s (kind.Need k)) (kind.Need k) n refl refl e
after_at s (kind.Border k) n e = stepped_at s (onward s (kind.Border k)) (kind.Border k) n refl refl e

-- a step that gives a row, taken apart
pub record Took (s : Stand) (t : List ℕ) (r : Row) (n : Stand) : Type 0 where
  pub command : Command
  pub whole : command_at s.at t ≡ Ok command
  pub due : (ltb 0 (due_of s) && not (is_bid command)) ≡ false
  pub few : leb most_rows s.rows ≡ false
  pub row : row_read command s.rows t ≡ Ok (Some r)
  pub next : after s r ≡ Ok n

stood_is : (q r : Row) (y : Result Stand Told) (n : Stand) → stood q y ≡ Ok (Some (r, n)) → (q ≡ r) × (y ≡ Ok n)
stood_is q r (Err x) n e = no_err x (Some (r, n)) e
stood_is q r (Ok m) n e = let z : ◌≡◌ {A = Row × Stand} (q, m) (r, n) = cc in (ap (λ (p : Row × Stand). p.0) z, ap (λ (p : Row × Stand). Ok p.1) z)

stood_some : {P : Type 0} (q : Row) (y : Result Stand Told) → stood q y ≡ Ok None → P
stood_some q (Err x) e = no_err x None e
stood_some q (Ok m) e = some_none (q, m) e

taken_took : (s : Stand) (y : Result (Option Row) Told) (r : Row) (n : Stand) → step_taken s y ≡ Ok (Some (r, n)) → (y ≡ Ok (Some r)) × (after s r ≡ Ok n)
taken_took s (Err x) r n e = no_err x (Some (r, n)) e
taken_took s (Ok None) r n e = no_none (r, n) e
taken_took s (Ok (Some q)) r n e = let z = stood_is q r (after s q) n e in (ap (λ (x : Row). Ok (Some x)) z.0, subst (λ (x : Row). after s x ≡ Ok n) z.0 z.1)

pub front_false : (b : Bool) → (b && true) ≡ false → b ≡ false
front_false true e = e
front_false false e = refl

-- a command that gives a row is not the seal
pub row_some : (k : Command) (n : ℕ) (t : List ℕ) (r : Row) → row_read k n t ≡ Ok (Some r) → is_seal k ≡ false
unfolding row_read
row_some command.Bid n t r e = refl
row_some command.Group n t r e = refl
row_some command.Need n t r e = refl
row_some command.Border n t r e = refl
row_some command.Seal n t r e = no_none r e

command_took : (s : Stand) (t : List ℕ) (x : Result Command Told) → command_at s.at t ≡ x → (r : Row) (n : Stand) → step_command s t x ≡ Ok (Some (r, n)) → Took s t r n
command_took s t (Err x) h r n e = no_err x (Some (r, n)) e
command_took s t (Ok k) h r n e =
    cond_case (ltb 0 (due_of s) && not (is_bid k)) (Err (fault 21 s.rows)) (step_row s t k) (Ok (Some (r, n))) e
    (λ _ p. no_err (fault 21 s.rows) (Some (r, n)) p)
    (λ d p. cond_case (leb most_rows s.rows && not (is_seal k)) (Err (fault 22 most_rows)) (step_taken s (row_read k s.rows t)) (Ok (Some (r, n))) p
    (λ _ u. no_err (fault 22 most_rows) (Some (r, n)) u)
    (λ f u. let z = taken_took s (row_read k s.rows t) r n u in record { command = k; whole = h; due = d; few = front_false (leb most_rows s.rows) (subst (λ b. (leb most_rows s.rows && not b) ≡ false) (row_some k s.rows t r z.0) f); row = z.0; next = z.1 }))

pub step_took : (s : Stand) (t : List ℕ) (r : Row) (n : Stand) → step_of s t ≡ Ok (Some (r, n)) → Took s t r n
unfolding step_of
step_took s t r n e = command_took s t (command_at s.at t) refl r n e

pub step_moves : (s : Stand) (t : List ℕ) (r : Row) (n : Stand) → step_of s t ≡ Ok (Some (r, n)) → Moved s t r n
step_moves s t r n e =
    let k = step_took s t r n e in
    let a = command_size_lem s.at t k.command k.whole in
    let b = row_size_lem k.command s.rows t r k.row in
    let c = after_at s r n k.next in
    record { fits = omega arith; at = c.at; rows = c.rows }

rowed_some : {X P : Type 0} (f : X → Row) (x : Result X Told) → rowed f x ≡ Ok None → P
rowed_some f (Ok y) e = some_none (f y) e
rowed_some f (Err y) e = no_err y None e

-- a command that gives no row is the seal
row_none : (k : Command) (n : ℕ) (t : List ℕ) → row_read k n t ≡ Ok None → is_seal k ≡ true
unfolding row_read
row_none command.Bid n t e = rowed_some kind.Bid (bid_read n (drop 1 t)) e
row_none command.Group n t e = let m = get_or t 1 0 in rowed_some kind.Group (judged n true (group_fine m) m) e
row_none command.Need n t e = rowed_some kind.Need (need_read n (drop 1 t)) e
row_none command.Border n t e = rowed_some kind.Border (border_read n (drop 1 t)) e
row_none command.Seal n t e = refl

taken_none : (s : Stand) (y : Result (Option Row) Told) → step_taken s y ≡ Ok None → y ≡ Ok None
taken_none s (Err x) e = no_err x None e
taken_none s (Ok None) e = refl
taken_none s (Ok (Some q)) e = stood_some q (after s q) e

-- a step at the seal: the command is the seal, and no member is due
pub record Ended (s : Stand) (t : List ℕ) : Type 0 where
  pub command : Command
  pub whole : command_at s.at t ≡ Ok command
  pub due : (ltb 0 (due_of s) && not (is_bid command)) ≡ false
  pub seal : is_seal command ≡ true

command_ended : (s : Stand) (t : List ℕ) (x : Result Command Told) → command_at s.at t ≡ x → step_command s t x ≡ Ok None → Ended s t
command_ended s t (Err x) h e = no_err x None e
command_ended s t (Ok k) h e =
    cond_case (ltb 0 (due_of s) && not (is_bid k)) (Err (fault 21 s.rows)) (step_row s t k) (Ok None) e
    (λ _ p. no_err (fault 21 s.rows) None p)
    (λ d p. cond_case (leb most_rows s.rows && not (is_seal k)) (Err (fault 22 most_rows)) (step_taken s (row_read k s.rows t)) (Ok None) p
    (λ _ u. no_err (fault 22 most_rows) None u)
    (λ _ u. record { command = k; whole = h; due = d; seal = row_none k s.rows t (taken_none s (row_read k s.rows t) u) }))

pub step_ended : (s : Stand) (t : List ℕ) → step_of s t ≡ Ok None → Ended s t
unfolding step_of
step_ended s t e = command_ended s t (command_at s.at t) refl e

command_has : (k : Command) → 1 ≤ command_size k
command_has command.Bid = omega arith
command_has command.Group = omega arith
command_has command.Need = omega arith
command_has command.Border = omega arith
command_has command.Seal = omega arith

pub row_has : (r : Row) → 1 ≤ row_size r
row_has (kind.Bid b) = omega arith
row_has (kind.Group b) = omega arith
row_has (kind.Need b) = omega arith
row_has (kind.Border b) = omega arith

pub ends_push : (r : Row) (x : Result (List Row × Stand) Told) → ends (push r x) ≡ ends x
ends_push r (Ok p) = refl
ends_push r (Err e) = refl

-- one turn of a reader, with steps enough
pub reads_on_lem : (f : ℕ) (s : Stand) (t : List ℕ) (r : Row) (n : Stand) → step_of s t ≡ Ok (Some (r, n)) → length t ≤ f → (g : ℕ) × (length (drop (row_size r) t) ≤ g) × (read_rows f s t ≡ push r (read_rows g n (drop (row_size r) t)))
unfolding read_rows
reads_on_lem zero s t r n e h = let m = step_moves s t r n e in let k = row_has r in absurd (omega (arith, m.fits))
reads_on_lem (suc g) s t r n e h = let k = row_has r in let m = step_moves s t r n e in (g, rw length-drop (omega (arith, m.fits)), rw e)

pub seal_fits : (s : Stand) (t : List ℕ) → step_of s t ≡ Ok None → 1 ≤ length t
seal_fits s t e = let m = step_ended s t e in let a = command_size_lem s.at t m.command m.whole in let b = command_has m.command in omega arith

pub reads_seal : (f : ℕ) (s : Stand) (t : List ℕ) → step_of s t ≡ Ok None → length t ≤ f → read_rows f s t ≡ Ok ([], s)
unfolding read_rows
reads_seal zero s t e h = let k = seal_fits s t e in absurd (omega arith)
reads_seal (suc g) s t e h = rw e

pub reads_fault : (f : ℕ) (s : Stand) (t : List ℕ) (x : Told) → step_of s t ≡ Err x → length t ≤ f → read_rows f s t ≡ Err x
unfolding read_rows step_of
reads_fault zero s [] x e h = let i : fault 11 s.at ≡ x = cc in ap Err i
reads_fault zero s (y ∷ ys) x e h = absurd (omega arith)
reads_fault (suc g) s t x e h = rw e

pub push_ok : (r : Row) (y : Result (List Row × Stand) Told) (rs : List Row) (n : Stand) → push r y ≡ Ok (rs, n) → (qs : List Row) × (y ≡ Ok (qs, n)) × (rs ≡ r ∷ qs)
push_ok r (Ok p) rs n e = let z : ◌≡◌ {A = List Row × Stand} (r ∷ p.0, p.1) (rs, n) = cc in (p.0, ap (λ (m : Stand). Ok (p.0, m)) (ap (λ (q : List Row × Stand). q.1) z), sym (ap (λ (q : List Row × Stand). q.0) z))
push_ok r (Err x) rs n e = no_err x (rs, n) e

counted : (f : ℕ) (s : Stand) (t : List ℕ) (x : Result (Option (Row × Stand)) Told) → step_of s t ≡ x → ((m : Stand) (u : List ℕ) (rs : List Row) (n : Stand) → read_rows f m u ≡ Ok (rs, n) → n.rows ≡ m.rows + length rs) → (rs : List Row) (n : Stand) → stepped s x (λ r m. read_rows f m (drop (row_size r) t)) ≡ Ok (rs, n) → n.rows ≡ s.rows + length rs
counted f s t (Err x) h ih rs n e = no_err x (rs, n) e
counted f s t (Ok None) h ih rs n e = let z : ◌≡◌ {A = List Row × Stand} ([], s) (rs, n) = cc in let a = ap (λ (q : List Row × Stand). length q.0) z in let b = ap (λ (q : List Row × Stand). q.1.rows) z in omega arith
counted f s t (Ok (Some p)) h ih rs n e = let m = step_moves s t p.0 p.1 h in let z = push_ok p.0 (read_rows f p.1 (drop (row_size p.0) t)) rs n e in let i = ih p.1 (drop (row_size p.0) t) z.0 n z.1 in let l = ap length z.2 in omega (arith, m.rows)

pub reads_count : (f : ℕ) (s : Stand) (t : List ℕ) (rs : List Row) (n : Stand) → read_rows f s t ≡ Ok (rs, n) → n.rows ≡ s.rows + length rs
unfolding read_rows
reads_count zero s t rs n e = no_err (fault 11 s.at) (rs, n) e
reads_count (suc f) s t rs n e = counted f s t (step_of s t) refl (λ m u qs k h. reads_count f m u qs k h) rs n e
