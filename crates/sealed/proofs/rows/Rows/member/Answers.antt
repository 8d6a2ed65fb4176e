use Rattle.std.proofs.Common.{◌≡◌, true, ◌∷◌, Ok, length, sym, ap, ◌∙◌, subst, arith}
use Rattle.units.specs.Limit.{is_area}
use Rattle.units.proofs.Judged.{judged_ok}
use Rattle.bid.specs.Fields.{bid_fine}
use Rattle.book.specs.declared.row.Row.{Row}
use Rattle.book.specs.declared.row.Row.TheVariants as kind
use Rattle.book.specs.Stands.{after}
use Rattle.sealed.specs.Ahead.{ahead}
use Rattle.sealed.specs.Lot.{lawful_row, lawful_rows}
use Rattle.sealed.proofs.Turns.{due_left, lawful_first, member_on_lem, refused_lawful}
use Rattle.sealed.proofs.rows.Rows.member.Goals as goal

pub unreachable-requires : goal.unreachable-requires
unreachable-requires c =
    let x = c.args.self in
    let d = due_left x.stand x.rest.now x.sound c.requires in
    let l = ap length c.in_default.ensures in
    absurd (omega arith)

pub unreachable-requires-in_default-try_from : goal.unreachable-requires-in_default-try_from
unreachable-requires-in_default-try_from c =
    let x = c.args.self in
    let f = c.in-Bid.fields in
    let law : lawful_row c.in-Some.row ≡ true = lawful_first c.in-Some.row _ (ap lawful_rows (sym c.in-Some.ensures.ahead) ∙ x.lawful) in
    refused_lawful _ (is_area f.area) (bid_fine f.quarters) f (c.in_default-try_from.ensures 0) (ap lawful_row (sym c.in-Bid.is) ∙ law)

pub returns : goal.returns
returns c =
    let x = c.args.self in
    let f = c.in-Bid.fields in
    let b = c.in-Ok.bid in
    let same : f ≡ b.fields = (judged_ok 0 (is_area f.area) (bid_fine f.quarters) f b.fields (sym (c.in-Ok.ensures 0))).same in
    let row : c.in-Some.row ≡ kind.Bid b.fields = c.in-Bid.is ∙ ap kind.Bid same in
    let n = c.in-Some.after in
    record {
      ahead = c.in-Some.ensures.ahead ∙ ap (λ (r : Row). r ∷ ahead n.stand n.rest.now) row;
      stands = member_on_lem x.stand b.fields n.stand (subst (λ (r : Row). after x.stand r ≡ Ok n.stand) row c.in-Some.ensures.after) c.requires;
    }
