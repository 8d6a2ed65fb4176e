use Rattle.std.proofs.Common.{◌≡◌, ℕ, ◌+◌, length, Some, Ok, refl, subst, ap, ◌∙◌, arith}
use Rattle.byte_layer.specs.Number.{placed}
use Rattle.book.specs.declared.row.Row.{Row}
use Rattle.book.specs.Rows.{row_bytes}
use Rattle.writer.specs.declared.admit.Desk.{Desk}
use Rattle.writer.specs.Admit.{admitted}
use Rattle.writer.specs.Lawful.{row_of}
use Rattle.writer.proofs.Admits.{took}
use Rattle.writer.proofs.state.OpenBook.file_row.Goals as goal

pub write-requires : goal.write-requires
write-requires c = let k = took (length c.args.text.now) c.args.self.length c.args.self.rows c.args.row (row_of c.in-Ok.lawful) (subst (λ (d : Desk). Ok (Some (row_of c.in-Ok.lawful)) ≡ admitted d.len d.at d.rows c.args.row) c.over.ensures c.in-Ok.ensures) in omega (arith, k.room, k.size)

pub overflow_add-next : goal.overflow_add-next
overflow_add-next c = let k = took (length c.args.text.now) c.args.self.length c.args.self.rows c.args.row (row_of c.in-Ok.lawful) (subst (λ (d : Desk). Ok (Some (row_of c.in-Ok.lawful)) ≡ admitted d.len d.at d.rows c.args.row) c.over.ensures c.in-Ok.ensures) in omega (arith, k.room, c.size.ensures)

pub overflow_add-next-in-Ok : goal.overflow_add-next-in-Ok
overflow_add-next-in-Ok c = let k = took (length c.args.text.now) c.args.self.length c.args.self.rows c.args.row (row_of c.in-Ok.lawful) (subst (λ (d : Desk). Ok (Some (row_of c.in-Ok.lawful)) ≡ admitted d.len d.at d.rows c.args.row) c.over.ensures c.in-Ok.ensures) in omega (arith, k.few)

pub returns-in-Ok : goal.returns-in-Ok
returns-in-Ok c =
    let k = took (length c.args.text.now) c.args.self.length c.args.self.rows c.args.row (row_of c.in-Ok.lawful) (subst (λ (d : Desk). Ok (Some (row_of c.in-Ok.lawful)) ≡ admitted d.len d.at d.rows c.args.row) c.over.ensures c.in-Ok.ensures) in
    record { passed = k.passed; next = ap (λ (n : ℕ). record { length = c.args.self.length + n; rows = c.args.self.rows + 1 }) c.size.ensures; row = refl; text = c.write.ensures ∙ ap (λ (x : Row). placed c.args.text.now c.args.self.length (row_bytes x)) k.same }
