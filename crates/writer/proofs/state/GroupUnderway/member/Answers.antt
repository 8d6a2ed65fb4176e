use Rattle.std.proofs.Common.{length, refl, ap, ◌∙◌, arith}
use Rattle.byte_layer.specs.Number.{placed}
use Rattle.book.specs.declared.row.Row.{Row}
use Rattle.book.specs.Rows.{row_bytes}
use Rattle.writer.specs.declared.state.Filed.{Filed}
use Rattle.writer.specs.declared.state.Membership.{Membership}
use Rattle.writer.specs.Calls.{MemberFiled}
use Rattle.writer.specs.Lawful.{row_of}
use Rattle.writer.proofs.Admits.{member_took}
use Rattle.writer.proofs.Filing.{member_holds}
use Rattle.writer.proofs.state.GroupUnderway.member.Goals as goal

pub write-requires : goal.write-requires
write-requires c = let k = member_took (length c.args.text.now) c.args.self c.args.fields (row_of c.in-Ok.lawful) c.in-Ok.ensures in omega (arith, k.room, k.size)

pub onward-requires : goal.onward-requires
onward-requires c = let k = member_took (length c.args.text.now) c.args.self c.args.fields (row_of c.in-Ok.lawful) c.in-Ok.ensures in (omega (arith, k.room), k.few)

pub returns-in-Ok : goal.returns-in-Ok
returns-in-Ok c =
    let k = member_took (length c.args.text.now) c.args.self c.args.fields (row_of c.in-Ok.lawful) c.in-Ok.ensures in
    let g = c.args.self in
    let p : Filed Membership = record { next = c.onward.result; row = g.book.rows } in
    let m : MemberFiled g c.args.text.now c.args.fields p c.write.new.text = record { passed = k.passed; next = c.onward.ensures; row = refl; text = c.write.ensures ∙ ap (λ (x : Row). placed c.args.text.now g.book.length (row_bytes x)) k.same } in
    record { outcome = m; holds = λ rs ms o. member_holds g c.args.text.now c.write.new.text c.args.fields p c.are_four.ensures m rs ms o }
