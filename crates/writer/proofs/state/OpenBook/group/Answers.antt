use Rattle.writer.proofs.Filing.{begun_from, begun_owes}
use Rattle.writer.proofs.state.OpenBook.group.Goals as goal

pub returns-clause-holds : goal.returns-clause-holds
returns-clause-holds c = let b = c.args.self in let t = c.args.text.now in let u = c.file_row.new.text in let n = c.args.members in λ rs w. begun_owes b t u n _ (begun_from b t u n _ c.in_ok-filed.ensures) rs w
