use Rattle.std.proofs.Common.{◌≡◌, ℕ, ◌∙◌, refl, arith, ap, not, leb, rules}
use borrow.Author.Tests.{tests}
use Rattle.std.specs.List.{count_by, range_with_len}
use Rattle.std.proofs.lemmas.Iterator.{YieldsList-from_range}
use Rattle.std.proofs.lemmas.Iterator.Consumers.{YieldsList-at, YieldsList-from_filter, count_from_yields_List}
use Rattle.std.proofs.lemmas.List.Sums.{length-filter}
use Rattle.lot.specs.Page.{table_of, four, at}
use Rattle.lot.specs.Single.{idle_row}
use Rattle.lot.proofs.Terms.{row_at}
use Rattle.group.proofs.Members.{taken_is}
use Rattle.group.proofs.as_lot.at_most_one.Goals as goal

pub returns : goal.returns
returns c =
    let b = c.args.cells.bytes.now in
    let n = c.args.rows in
    let taken = λ (k : ℕ). not (idle_row (at (four (table_of b k)))) in
    let e : c.count.result ≡ count_by taken (range_with_len 0 n) =
    count_from_yields_List c.filter.result _ c.count.ensures.ran (YieldsList-from_filter _ taken (YieldsList-at c.filter.ensures.source (YieldsList-from_range 0 n n refl (omega arith))) c.filter.ensures.closure (λ x r q k. search (rules, tests))) ∙ length-filter taken (range_with_len 0 n) in
    ap (λ k. leb k 1) (e ∙ taken_is n taken (λ k. not (idle_row (table_of b k))) (λ k. ap (λ q. not (idle_row q)) (row_at b k)))
