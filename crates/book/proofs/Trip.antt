-- Writing and reading undo each other.
use Rattle.std.proofs.Common.{◌≡◌, ℕ, zero, suc, ◌+◌, ◌-◌, ◌<◌, ◌≤◌, Bool, true, false, not, ◌&&◌, eqb, ltb, leb, List, [], ◌∷◌, ◌++◌, length, get_or, take, drop, IfOk, Some, None, Ok, Err, Option, Result, sym, refl, ap, ◌∙◌, subst, append_assoc, zero-add, arith, length-append, take-append-drop, ltb-false, le-ltb, eqb-true, le-leb, leb-false}
use borrow.Author.Tests.{lt-leb}
use Rattle.std.proofs.lemmas.List.{drop_at, take_at, take-append-le, take-take, length-take-le, append-nil, get_or-drop, drop-drop}
use Rattle.byte_layer.specs.declared.fault.Told.{Told}
use Rattle.byte_layer.specs.Fault.{fault, heard}
use Rattle.byte_layer.specs.Number.{placed, Octets}
use Rattle.units.specs.Field.{judged}
use Rattle.units.proofs.Judged.{no_err, no_some, judged_ok}
use Rattle.bid.specs.declared.fields.BidFields.{BidFields}
use Rattle.bid.specs.Fields.{bid_judged}
use Rattle.bid.specs.Format.{bid_read}
use Rattle.bid.specs.Group.{group_fine}
use Rattle.bid.proofs.Operands.{length_bid, bid_back, bid_forth}
use Rattle.need.specs.declared.fields.NeedFields.{NeedFields}
use Rattle.need.specs.Fields.{need_judged}
use Rattle.need.specs.Format.{need_read}
use Rattle.need.proofs.Operands.{length_need, need_back, need_forth}
use Rattle.border.specs.declared.fields.BorderFields.{BorderFields}
use Rattle.border.specs.Fields.{border_judged}
use Rattle.border.specs.Format.{border_read}
use Rattle.border.proofs.Operands.{length_border, border_back, border_forth}
use Rattle.book.specs.declared.check.Checked.{Checked}
use Rattle.book.specs.declared.command.Command.{Command}
use Rattle.book.specs.declared.command.Command.TheVariants as command
use Rattle.book.specs.declared.row.Row.{Row}
use Rattle.book.specs.declared.row.Row.TheVariants as kind
use Rattle.book.specs.declared.stand.Stand.{Stand}
use Rattle.book.specs.declared.fault.BookFault.{BookFault}
use Rattle.book.specs.Fault.{most_rows, told_book}
use Rattle.book.specs.Command.{command_byte, command_size, command_for, whole, command_at, is_bid, is_seal}
use Rattle.book.specs.Rows.{command_of, row_size, operands, row_bytes, encode, rowed, row_read, row_judged, Four}
use Rattle.book.specs.Stands.{due_of, begin}
use Rattle.book.specs.Reading.{stood, step_of, push, stepped, read_rows, decoded, ends, checked, rows_of, rows_in}
use Rattle.book.specs.Writing.{Files, Runs, none, more, Begins, Written}
use Rattle.book.proofs.Steps.{cond_case, front_false, no_none, command_size_lem, row_has, after_at, step_took, step_moves, step_ended, reads_on_lem, reads_seal, reads_count, push_ok}

-- fields that were taken as a row
rowed_in : {X : Type 0} (f : X → Row) (x : Result X Told) (y : X) → ((a b : X) → f a ≡ f b → a ≡ b) → rowed f x ≡ Ok (Some (f y)) → x ≡ Ok y
rowed_in f (Ok z) y inj e = let q : f z ≡ f y = cc in ap Ok (inj z y q)
rowed_in f (Err z) y inj e = no_err z (Some (f y)) e

bid_in : (a b : BidFields) → kind.Bid a ≡ kind.Bid b → a ≡ b
bid_in a b e = cc

need_in : (a b : NeedFields) → kind.Need a ≡ kind.Need b → a ≡ b
need_in a b e = cc

border_in : (a b : BorderFields) → kind.Border a ≡ kind.Border b → a ≡ b
border_in a b e = cc

pub size_back : (r : Row) → length (row_bytes r) ≡ row_size r
size_back (kind.Bid f) = ap suc (length_bid f)
size_back (kind.Group n) = refl
size_back (kind.Need f) = ap suc (length_need f)
size_back (kind.Border f) = ap suc (length_border f)

-- a lawful row that was written is read again
row_back : (row : ℕ) (r : Row) (t : List ℕ) → Four r → row_judged row r ≡ Ok (Some r) → row_read (command_of r) row (row_bytes r ++ t) ≡ Ok (Some r)
unfolding row_read
row_back row (kind.Bid f) t l e = ap (rowed kind.Bid) (bid_back row f t l (rowed_in kind.Bid (bid_judged row f) f bid_in e))
row_back row (kind.Group n) t l e = e
row_back row (kind.Need f) t l e = ap (rowed kind.Need) (need_back row f t l (rowed_in kind.Need (need_judged row f) f need_in e))
row_back row (kind.Border f) t l e = ap (rowed kind.Border) (border_back row f t l (rowed_in kind.Border (border_judged row f) f border_in e))

long : (r : Row) (t : List ℕ) → leb (row_size r) (length (row_bytes r ++ t)) ≡ true
long r t = le-leb (row_size r) (length (row_bytes r ++ t)) (omega (arith, length-append (row_bytes r) t, size_back r))

command_back : (r : Row) (a : ℕ) (t : List ℕ) → command_at a (row_bytes r ++ t) ≡ Ok (command_of r)
command_back (kind.Bid f) a t = rw (long (kind.Bid f) t)
command_back (kind.Group n) a t = rw (long (kind.Group n) t)
command_back (kind.Need f) a t = rw (long (kind.Need f) t)
command_back (kind.Border f) a t = rw (long (kind.Border f) t)

step_back : (s n : Stand) (r : Row) (t : List ℕ) → Files s r n → step_of s (row_bytes r ++ t) ≡ Ok (Some (r, n))
unfolding step_of
step_back s n r t f = rw (command_back r s.at t, f.due, lt-leb most_rows s.rows f.few, row_back s.rows r t f.four f.fine) (ap (stood r) f.next)

seal_back : (s : Stand) (t : List ℕ) → due_of s ≡ 0 → step_of s (0x53 ∷ t) ≡ Ok None
unfolding step_of row_read
seal_back s t e = rw (le-leb 1 (length (0x53 ∷ t)) (omega arith), le-ltb 0 (due_of s) (omega arith), no_fault (leb most_rows s.rows)) refl
  where
    no_fault : (b : Bool) → (b && false) ≡ false
    no_fault true = refl
    no_fault false = refl

-- rows that were encoded and sealed are read again, whatever follows
pub trip : {s n : Stand} {rs : List Row} → Runs s rs n → due_of n ≡ 0 → (t : List ℕ) (f : ℕ) → length (encode rs ++ (0x53 ∷ t)) ≤ f → read_rows f s (encode rs ++ (0x53 ∷ t)) ≡ Ok (rs, n)
trip {s} none d t f h = reads_seal f s (0x53 ∷ t) (seal_back s t d) h
trip {s} {n} (more {m = m} {r = r} {rs = rs} w k) d t f h =
    let u = encode rs ++ (0x53 ∷ t) in
    let a : (row_bytes r ++ encode rs) ++ (0x53 ∷ t) ≡ row_bytes r ++ u = append_assoc (row_bytes r) (encode rs) (0x53 ∷ t) in
    let l : length (row_bytes r ++ u) ≤ f = subst (λ x. length x ≤ f) a h in
    let z = reads_on_lem f s (row_bytes r ++ u) r m (step_back s m r u w) l in
    let e : drop (row_size r) (row_bytes r ++ u) ≡ u = drop_at (row_bytes r) u (row_size r) (size_back r) in
    let i = trip k d t z.0 (subst (λ x. length x ≤ z.0) e z.1) in
    ap (read_rows f s) a ∙ z.2 ∙ ap (λ x. push r (read_rows z.0 m x)) e ∙ ap (push r) i

encode_push : (rs : List Row) (r : Row) → encode (rs ++ r ∷ []) ≡ encode rs ++ row_bytes r
encode_push [] r = append-nil (row_bytes r)
encode_push (q ∷ rs) r = ap (λ x. row_bytes q ++ x) (encode_push rs r) ∙ sym (append_assoc (row_bytes q) (encode rs) (row_bytes r))

runs_push : {s m : Stand} {rs : List Row} → Runs s rs m → (r : Row) (n : Stand) → Files m r n → Runs s (rs ++ r ∷ []) n
runs_push none r n f = more f none
runs_push (more w k) r n f = more w (runs_push k r n f)

pub begins_none : (t : List ℕ) → Begins t begin []
begins_none t = record { runs = none; bytes = refl; within = omega arith }

-- one row more in the text
pub begins_more : (t u : List ℕ) (s n : Stand) (rs : List Row) (r : Row) → Begins t s rs → Files s r n → s.at + row_size r ≤ length t → u ≡ placed t s.at (row_bytes r) → Begins u n (rs ++ r ∷ [])
begins_more t u s n rs r w f h e =
    let p = after_at s r n f.next in
    let a = take s.at t in
    let la : length a ≡ s.at = length-take-le s.at t w.within in
    let rest = drop (s.at + length (row_bytes r)) t in
    let v : u ≡ (a ++ row_bytes r) ++ rest = e ∙ sym (append_assoc a (row_bytes r) rest) in
    let lb : length (a ++ row_bytes r) ≡ n.at = omega (arith, length-append a (row_bytes r), size_back r, p.at, la) in
    record { runs = runs_push w.runs r n f; bytes = ap (take n.at) v ∙ take_at (a ++ row_bytes r) rest n.at lb ∙ ap (λ x. x ++ row_bytes r) w.bytes ∙ sym (encode_push rs r); within = omega (arith, ap length v, length-append (a ++ row_bytes r) rest, lb) }

-- what was written stays where a later write begins no earlier
pub begins_stays : (t u : List ℕ) (s : Stand) (rs : List Row) (a : ℕ) (bs : List ℕ) → Begins t s rs → s.at ≤ a → a ≤ length t → u ≡ placed t a bs → Begins u s rs
begins_stays t u s rs a bs w h k e =
    let la : length (take a t) ≡ a = length-take-le a t k in
    let rest = bs ++ drop (a + length bs) t in
    let x : take s.at u ≡ take s.at t = ap (take s.at) e ∙ take-append-le s.at (take a t) rest (omega arith) ∙ take-take s.at a t h in
    record { runs = w.runs; bytes = x ∙ w.bytes; within = omega (arith, ap length e, length-append (take a t) rest, la) }

sealed_reads : (t u : List ℕ) (s : Stand) (rs : List Row) → Begins t s rs → due_of s ≡ 0 → u ≡ placed t s.at (0x53 ∷ []) → decoded u ≡ Ok (rs, s)
unfolding decoded
sealed_reads t u s rs w d e =
    let rest = drop (s.at + 1) t in
    let v : u ≡ encode rs ++ (0x53 ∷ rest) = e ∙ ap (λ x. x ++ (0x53 ∷ rest)) w.bytes in
    ap (λ x. read_rows (length x) begin x) v ∙ trip w.runs d rest (length (encode rs ++ (0x53 ∷ rest))) (omega arith)

-- rows that were written and sealed: the check gives the length and their number, and they are read again
pub sealed_checks : (t u : List ℕ) (s : Stand) (rs : List Row) → Begins t s rs → due_of s ≡ 0 → u ≡ placed t s.at (0x53 ∷ []) → (checked u ≡ Ok (record { length = s.at + 1; rows = length rs })) × (rows_in u ≡ rs)
unfolding checked rows_in decoded
sealed_checks t u s rs w d e =
    let z = sealed_reads t u s rs w d e in
    let n : s.rows ≡ length rs = rows_of_lem u z in
    (ap ends z ∙ ap (λ (k : ℕ). Ok (record { length = s.at + 1; rows = k })) n, ap rows_of z)
  where
    rows_of_lem : (v : List ℕ) → decoded v ≡ Ok (rs, s) → s.rows ≡ length rs
    rows_of_lem v h = reads_count (length v) begin v rs s h ∙ zero-add (length rs)

-- the other way: a byte that names a command is the command's byte
named : (b : ℕ) (k : Command) → command_for b ≡ Some k → command_byte k ≡ b
named b k e =
    cond_case (eqb b 0x42) (Some command.Bid) _ (Some k) e (λ h p. is command.Bid p (eqb-true b 0x42 h))
    (λ _ p. cond_case (eqb b 0x45) (Some command.Group) _ (Some k) p (λ h q. is command.Group q (eqb-true b 0x45 h))
    (λ _ q. cond_case (eqb b 0x4E) (Some command.Need) _ (Some k) q (λ h u. is command.Need u (eqb-true b 0x4E h))
    (λ _ u. cond_case (eqb b 0x4C) (Some command.Border) _ (Some k) u (λ h v. is command.Border v (eqb-true b 0x4C h))
    (λ _ v. cond_case (eqb b 0x53) (Some command.Seal) None (Some k) v (λ h w. is command.Seal w (eqb-true b 0x53 h))
    (λ _ w. no_some k w)))))
  where
    is : (j : Command) → Some j ≡ Some k → b ≡ command_byte j → command_byte k ≡ b
    is j p h = let q : j ≡ k = cc in sym (h ∙ ap command_byte q)

whole_named : (at n : ℕ) (o : Option Command) (k : Command) → whole at n o ≡ Ok k → o ≡ Some k
whole_named at n None k e = no_err (fault 12 at) k e
whole_named at n (Some j) k e = cond_case (leb (command_size j) n) (Ok j) (Err (fault 11 at)) (Ok k) e (λ _ q. let i : j ≡ k = cc in ap Some i) (λ _ q. no_err (fault 11 at) k q)

command_forth : (a : ℕ) (t : List ℕ) (k : Command) → command_at a t ≡ Ok k → t ≡ command_byte k ∷ drop 1 t
command_forth a [] k e = no_err (fault 11 a) k e
command_forth a (b ∷ bs) k e = ap (λ (x : ℕ). x ∷ bs) (sym (named b k (whole_named a (length (b ∷ bs)) (command_for b) k e)))

octets_drop : (k : ℕ) (t : List ℕ) → Octets t → Octets (drop k t)
octets_drop k t o i = subst (λ (x : ℕ). x < 256) (sym (get_or-drop k t i 0)) (o (k + i))

-- what a row that was read tells of its bytes
record Read (row : ℕ) (k : Command) (t : List ℕ) (r : Row) : Type 0 where
  pub same : k ≡ command_of r
  pub fine : row_judged row r ≡ Ok (Some r)
  pub four : Four r
  pub bytes : operands r ≡ take (row_size r - 1) (drop 1 t)

rowed_forth : {X : Type 0} (f : X → Row) (x : Result X Told) (r : Row) → rowed f x ≡ Ok (Some r) → (y : X) × (x ≡ Ok y) × (f y ≡ r)
rowed_forth f (Ok y) r e = (y, refl, (let q : f y ≡ r = cc in q))
rowed_forth f (Err y) r e = no_err y (Some r) e

rest : (t : List ℕ) (n : ℕ) → suc n ≤ length t → n ≤ length (drop 1 t)
rest [] n h = absurd (omega arith)
rest (x ∷ t) n h = omega arith

second : (t : List ℕ) → 2 ≤ length t → get_or t 1 0 ∷ [] ≡ take 1 (drop 1 t)
second [] h = absurd (omega arith)
second (x ∷ []) h = absurd (omega arith)
second (x ∷ y ∷ t) h = refl

row_forth : (row : ℕ) (k : Command) (t : List ℕ) (r : Row) → Octets t → command_size k ≤ length t → row_read k row t ≡ Ok (Some r) → Read row k t r
unfolding row_read
row_forth row command.Bid t r o h e =
    let z = rowed_forth kind.Bid (bid_read row (drop 1 t)) r e in
    let b = bid_forth row (drop 1 t) z.0 (octets_drop 1 t o) (rest t 50 h) z.1 in
    subst (λ (x : Row). Read row command.Bid t x) z.2 (record { same = refl; fine = ap (rowed kind.Bid) b.lawful; four = b.four; bytes = b.bytes })
row_forth row command.Group t r o h e =
    let n = get_or t 1 0 in
    let z = rowed_forth kind.Group (judged row true (group_fine n) n) r e in
    let j = judged_ok row true (group_fine n) n z.0 z.1 in
    subst (λ (x : Row). Read row command.Group t x) (ap kind.Group j.same ∙ z.2) (record { same = refl; fine = ap (rowed kind.Group) (z.1 ∙ ap Ok (sym j.same)); four = tt; bytes = second t h })
row_forth row command.Need t r o h e =
    let z = rowed_forth kind.Need (need_read row (drop 1 t)) r e in
    let b = need_forth row (drop 1 t) z.0 (octets_drop 1 t o) (rest t 35 h) z.1 in
    subst (λ (x : Row). Read row command.Need t x) z.2 (record { same = refl; fine = ap (rowed kind.Need) b.lawful; four = b.four; bytes = b.bytes })
row_forth row command.Border t r o h e =
    let z = rowed_forth kind.Border (border_read row (drop 1 t)) r e in
    let b = border_forth row (drop 1 t) z.0 (octets_drop 1 t o) (rest t 35 h) z.1 in
    subst (λ (x : Row). Read row command.Border t x) z.2 (record { same = refl; fine = ap (rowed kind.Border) b.lawful; four = b.four; bytes = b.bytes })
row_forth row command.Seal t r o h e = no_none r e

-- the bytes of a row's command are those that stood at the front
bytes_forth : (s : Stand) (t : List ℕ) (r : Row) (n : Stand) → Octets t → step_of s t ≡ Ok (Some (r, n)) → Files s r n × (t ≡ row_bytes r ++ drop (row_size r) t)
bytes_forth s t r n o e =
    let k = step_took s t r n e in
    let h = command_size_lem s.at t k.command k.whole in
    let b = row_forth s.rows k.command t r o h k.row in
    let f : Files s r n = record { few = leb-false most_rows s.rows k.few; due = subst (λ (c : Command). (ltb 0 (due_of s) && not (is_bid c)) ≡ false) b.same k.due; fine = b.fine; four = b.four; next = k.next } in
    let c : t ≡ command_byte (command_of r) ∷ drop 1 t = command_forth s.at t k.command k.whole ∙ ap (λ (c : Command). command_byte c ∷ drop 1 t) b.same in
    (f, c ∙ ap (λ x. command_byte (command_of r) ∷ x) (sym (take-append-drop (row_size r - 1) (drop 1 t)) ∙ ap (λ x. x ++ drop (row_size r - 1) (drop 1 t)) (sym b.bytes) ∙ ap (λ x. operands r ++ x) (behind r t)))
  where
    behind : (r : Row) (t : List ℕ) → drop (row_size r - 1) (drop 1 t) ≡ drop (row_size r) t
    behind r t = drop-drop (row_size r - 1) 1 t ∙ ap (λ (m : ℕ). drop m t) (let k = row_has r in omega arith)

-- a text that was read is the rows' bytes, the seal, and whatever follows
record Reads (s : Stand) (t : List ℕ) (rs : List Row) (n : Stand) : Type 0 where
  pub rest : List ℕ
  pub bytes : t ≡ encode rs ++ (0x53 ∷ rest)
  pub at : n.at ≡ s.at + length (encode rs)
  pub runs : Runs s rs n
  pub due : due_of n ≡ 0

pub seal_is : (k : Command) → is_seal k ≡ true → k ≡ command.Seal
seal_is command.Bid e = let w : ◌≡◌ {A = ℕ} 0 1 = cc in absurd (omega arith)
seal_is command.Group e = let w : ◌≡◌ {A = ℕ} 0 1 = cc in absurd (omega arith)
seal_is command.Need e = let w : ◌≡◌ {A = ℕ} 0 1 = cc in absurd (omega arith)
seal_is command.Border e = let w : ◌≡◌ {A = ℕ} 0 1 = cc in absurd (omega arith)
seal_is command.Seal e = refl

not_due : (n : ℕ) → (ltb 0 n && true) ≡ false → n ≡ 0
not_due n e = let h = ltb-false 0 n (front_false (ltb 0 n) e) in omega arith

ended_reads : (s : Stand) (t : List ℕ) → step_of s t ≡ Ok None → Reads s t [] s
ended_reads s t e =
    let m = step_ended s t e in
    let i = seal_is m.command m.seal in
    record { rest = drop 1 t; bytes = command_forth s.at t m.command m.whole ∙ ap (λ (c : Command). command_byte c ∷ drop 1 t) i; at = omega arith; runs = none; due = not_due (due_of s) (subst (λ (c : Command). (ltb 0 (due_of s) && not (is_bid c)) ≡ false) i m.due) }

row_reads : (s : Stand) (t : List ℕ) (r : Row) (m : Stand) (rs : List Row) (n : Stand) → Octets t → step_of s t ≡ Ok (Some (r, m)) → Reads m (drop (row_size r) t) rs n → Reads s t (r ∷ rs) n
row_reads s t r m rs n o e i =
    let b = bytes_forth s t r m o e in
    let v = step_moves s t r m e in
    record { rest = i.rest; bytes = b.1 ∙ ap (λ x. row_bytes r ++ x) i.bytes ∙ sym (append_assoc (row_bytes r) (encode rs) (0x53 ∷ i.rest)); at = omega (arith, i.at, v.at, length-append (row_bytes r) (encode rs), size_back r); runs = more b.0 i.runs; due = i.due }

reads_step : (f : ℕ) (s : Stand) (t : List ℕ) (x : Result (Option (Row × Stand)) Told) → step_of s t ≡ x → Octets t → ((m : Stand) (u : List ℕ) (rs : List Row) (n : Stand) → Octets u → read_rows f m u ≡ Ok (rs, n) → Reads m u rs n) → (rs : List Row) (n : Stand) → stepped s x (λ r m. read_rows f m (drop (row_size r) t)) ≡ Ok (rs, n) → Reads s t rs n
reads_step f s t (Err x) h o ih rs n e = no_err x (rs, n) e
reads_step f s t (Ok None) h o ih rs n e =
    let z : ◌≡◌ {A = List Row × Stand} ([], s) (rs, n) = cc in
    subst (λ (p : List Row × Stand). Reads s t p.0 p.1) z (ended_reads s t h)
reads_step f s t (Ok (Some p)) h o ih rs n e =
    let z = push_ok p.0 (read_rows f p.1 (drop (row_size p.0) t)) rs n e in
    let i = ih p.1 (drop (row_size p.0) t) z.0 n (octets_drop (row_size p.0) t o) z.1 in
    subst (λ (qs : List Row). Reads s t qs n) (sym z.2) (row_reads s t p.0 p.1 z.0 n o h i)

reads_all : (f : ℕ) (s : Stand) (t : List ℕ) (rs : List Row) (n : Stand) → Octets t → read_rows f s t ≡ Ok (rs, n) → Reads s t rs n
unfolding read_rows
reads_all zero s t rs n o e = no_err (fault 11 s.at) (rs, n) e
reads_all (suc f) s t rs n o e = reads_step f s t (step_of s t) refl o (λ m u qs k p h. reads_all f m u qs k p h) rs n e

-- a text that checks is, up to its length, the rows that it tells, as a writer files them, and the seal
pub checked_written : (t : List ℕ) (k : Checked) → Octets t → checked t ≡ Ok k → Written t k.length (rows_in t)
unfolding checked rows_in decoded
checked_written t k o e = all (read_rows (length t) begin t) refl e
  where
    whole_of : (rs : List Row) (n : Stand) → Reads begin t rs n → Written t (n.at + 1) rs
    whole_of rs n w =
        let a : n.at ≡ length (encode rs) = w.at ∙ zero-add (length (encode rs)) in
        let l : length t ≡ length (encode rs) + suc (length w.rest) = ap length w.bytes ∙ length-append (encode rs) (0x53 ∷ w.rest) in
        let b : t ≡ (encode rs ++ (0x53 ∷ [])) ++ w.rest = w.bytes ∙ sym (append_assoc (encode rs) (0x53 ∷ []) w.rest) in
        record { end = n; begins = record { runs = w.runs; bytes = ap (take n.at) w.bytes ∙ take_at (encode rs) (0x53 ∷ w.rest) n.at (sym a); within = omega arith }; whole = w.due; size = refl; seal = ap (take (n.at + 1)) b ∙ take_at (encode rs ++ (0x53 ∷ [])) w.rest (n.at + 1) (omega (arith, length-append (encode rs) (0x53 ∷ []))) }

    all : (x : Result (List Row × Stand) Told) → read_rows (length t) begin t ≡ x → ends x ≡ Ok k → Written t k.length (rows_of x)
    all (Ok p) h f = let z : ◌≡◌ {A = Checked} (record { length = p.1.at + 1; rows = p.1.rows }) k = cc in subst (λ (c : Checked). Written t c.length p.0) z (whole_of p.0 p.1 (reads_all (length t) begin t p.0 p.1 o h))
    all (Err x) h f = no_err x k f

pub made_written : (t : List ℕ) (r : Result Checked BookFault) → Octets t → heard told_book r ≡ checked t → IfOk r (λ k. Written t k.length (rows_in t))
made_written t (Ok k) o e = checked_written t k o (sym e)
made_written t (Err x) o e = tt
