use Rattle.std.proofs.Common.{◌≡◌, ◌+◌, Ok, sym, refl, subst}
use Rattle.writer.specs.declared.admit.Desk.{Desk}
use Rattle.writer.specs.Admit.{roomed}
use Rattle.book.proofs.Trip.{sealed_checks}
use Rattle.writer.specs.Calls.{BookSealed}
use Rattle.writer.specs.Holding.{opened}
use Rattle.writer.proofs.state.OpenBook.seal.Goals as goal

pub returns-in-Ok : goal.returns-in-Ok
returns-in-Ok c =
    let b = c.args.self in
    let s : BookSealed b c.args.text.now (b.length + 1) c.write_bytes.new.text = record { passed = sym (subst (λ (d : Desk). Ok c.in-Ok._room ≡ roomed d.len d.at d.rows 1) c.over.ensures c.in-Ok.ensures); length = refl; text = c.write_bytes.ensures } in
    record { outcome = s; reads = λ rs w. sealed_checks c.args.text.now c.write_bytes.new.text (opened b) rs w refl s.text }
