-- Rows that may be filed one after another, and texts that hold them.
use Rattle.std.specs.Prelude.{◌≡◌, ℕ, ◌+◌, ◌<◌, ◌≤◌, false, not, ◌&&◌, List, [], ◌∷◌, ◌++◌, length, take, Some, Ok, nat_lt}
use Rattle.book.specs.declared.row.Row.{Row}
use Rattle.book.specs.declared.stand.Stand.{Stand}
use Rattle.book.specs.Fault.{most_rows}
use Rattle.book.specs.Command.{is_bid}
use Rattle.book.specs.Rows.{command_of, row_judged, Four, encode}
use Rattle.book.specs.Stands.{begin, after, due_of}

-- the row r may stand next, and leads from s to n: the book is not full, no member is due or r is a bid,
-- its fields are lawful, and a group that it closes is of one area
pub record Files (s : Stand) (r : Row) (n : Stand) : Type 0 where
  pub few : s.rows < most_rows
  pub due : (nat_lt 0 (due_of s) && not (is_bid (command_of r))) ≡ false
  pub fine : row_judged s.rows r ≡ Ok (Some r)
  pub four : Four r
  pub next : after s r ≡ Ok n

-- the rows may stand one after another, and lead from s to n
pub data Runs : Stand → List Row → Stand → Type 0 where
  none : {s : Stand} → Runs s [] s
  more : {s m n : Stand} {r : Row} {rs : List Row} → Files s r m → Runs m rs n → Runs s (r ∷ rs) n

-- the text t begins with the rows rs, which lead to s
pub record Begins (t : List ℕ) (s : Stand) (rs : List Row) : Type 0 where
  pub runs : Runs begin rs s
  pub bytes : take s.at t ≡ encode rs
  pub within : s.at ≤ length t

-- the first n bytes of t are the rows rs, with no group underway, and the seal
pub record Written (t : List ℕ) (n : ℕ) (rs : List Row) : Type 0 where
  pub end : Stand
  pub begins : Begins t end rs
  pub whole : due_of end ≡ 0
  pub size : n ≡ end.at + 1
  pub seal : take n t ≡ encode rs ++ (0x53 ∷ [])
