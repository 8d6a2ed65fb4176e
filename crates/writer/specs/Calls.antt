-- What each call of a writer leaves: the text t becomes u, byte for byte.
use Rattle.std.specs.Prelude.{◌≡◌, ℕ, ◌+◌, ◌-◌, cond, List, [], ◌∷◌, length, Some, None, Ok, Err, Result, nat_le}
use Rattle.std.specs.Option.{unwrap_or}
use Rattle.byte_layer.specs.declared.fault.Told.{Told}
use Rattle.byte_layer.specs.Number.{placed}
use Rattle.bid.specs.declared.fields.BidFields.{BidFields}
use Rattle.book.specs.declared.row.Row.{Row}
use Rattle.book.specs.declared.row.Row.TheVariants as kind
use Rattle.book.specs.Fault.{told_book}
use Rattle.book.specs.Rows.{row_size, row_bytes}
use Rattle.writer.specs.declared.state.OpenBook.{OpenBook}
use Rattle.writer.specs.declared.state.GroupUnderway.{GroupUnderway}
use Rattle.writer.specs.declared.state.Filed.{Filed}
use Rattle.writer.specs.declared.state.Membership.{Membership}
use Rattle.writer.specs.declared.state.Membership.TheVariants.{More, Last}
use Rattle.writer.specs.declared.state.Refused.{Refused}
use Rattle.writer.specs.Admit.{roomed, admitted, member_admitted}

-- a row was filed: its bytes stand behind the book so far, and all others are as they were
pub record RowFiled (b : OpenBook) (t : List ℕ) (r : Row) (p : Filed OpenBook) (u : List ℕ) : Type 0 where
  pub passed : admitted (length t) b.length b.rows r ≡ Ok (Some r)
  pub next : p.next ≡ record { length = b.length + row_size r; rows = b.rows + 1 }
  pub row : p.row ≡ b.rows
  pub text : u ≡ placed t b.length (row_bytes r)

-- a call was refused with what `x` tells: the value comes back as it came, and no byte is changed
pub record Unchanged {B X : Type 0} (b : B) (t : List ℕ) (x : Result X Told) (p : Refused B) (u : List ℕ) : Type 0 where
  pub why : x ≡ Err (told_book p.fault)
  pub back : p.back ≡ b
  pub text : u ≡ t

-- a group was begun
pub record GroupBegun (b : OpenBook) (t : List ℕ) (members : ℕ) (p : Filed GroupUnderway) (u : List ℕ) : Type 0 where
  pub passed : admitted (length t) b.length b.rows (kind.Group members) ≡ Ok (Some (kind.Group members))
  pub next : p.next ≡ record { book = record { length = b.length + 2; rows = b.rows + 1 }; before = b; due = members; first = None }
  pub row : p.row ≡ b.rows
  pub text : u ≡ placed t b.length (0x45 ∷ members ∷ [])

-- a book with one member more
abbrev pub with_member : OpenBook → OpenBook
with_member b = record { length = b.length + 51; rows = b.rows + 1 }

-- what a member of an area makes of a group: the last one brings back the open book
abbrev pub member_next : GroupUnderway → ℕ → Membership
member_next g area = cond (nat_le g.due 1) (Last (with_member g.book)) (More (record { book = with_member g.book; before = g.before; due = g.due - 1; first = Some (unwrap_or g.first area) }))

-- a member was filed
pub record MemberFiled (g : GroupUnderway) (t : List ℕ) (f : BidFields) (p : Filed Membership) (u : List ℕ) : Type 0 where
  pub passed : member_admitted (length t) g f ≡ Ok (Some (kind.Bid f))
  pub next : p.next ≡ member_next g f.area
  pub row : p.row ≡ g.book.rows
  pub text : u ≡ placed t g.book.length (row_bytes (kind.Bid f))

-- a book was sealed, and has n bytes
pub record BookSealed (b : OpenBook) (t : List ℕ) (n : ℕ) (u : List ℕ) : Type 0 where
  pub passed : roomed (length t) b.length b.rows 1 ≡ Ok tt
  pub length : n ≡ b.length + 1
  pub text : u ≡ placed t b.length (0x53 ∷ [])
