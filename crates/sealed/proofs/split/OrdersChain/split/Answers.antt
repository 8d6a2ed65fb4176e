use Rattle.std.proofs.Common.{◌≡◌, List, ◌∷◌, ◌++◌, length, Ok, sym, ap, ◌∙◌, subst, ap₂}
use Rattle.lot.specs.Join.{Parted}
use Rattle.bid.specs.Group.{group_fine}
use Rattle.group.specs.Group.{grouping}
use Rattle.order.specs.Order.{members_of}
use Rattle.book.specs.declared.row.Row.{Row}
use Rattle.book.specs.declared.row.Row.TheVariants as kind
use Rattle.book.specs.Stands.{after}
use Rattle.sealed.specs.Left.{rows_left}
use Rattle.sealed.specs.Lot.{book_meaning, lawful_row, lawful_rows}
use Rattle.sealed.specs.Members.{bid_rows}
use Rattle.sealed.proofs.Turns.{lawful_first}
use Rattle.sealed.proofs.Splitting.{stays_whole, begins_group, first_group, not_group, fewer}
use Rattle.sealed.proofs.split.OrdersChain.split.Goals as goal

pub returns-in_err-row : goal.returns-in_err-row
returns-in_err-row c = let x = c.args.self.rows in rw c.from_residual.ensures (sym x.count ∙ ap length c.in_err-row.ensures)

pub group-requires : goal.group-requires
group-requires c =
    let x = c.args.self.rows in
    let n = c.in_ok-row.after.stand in
    record {
      begun = rw c.from.ensures (begins_group x.stand c.in-Group.size n (subst (λ (r : Row). after x.stand r ≡ Ok n) c.in-Group.is c.in_ok-row.ensures.after));
      fine = ap group_fine c.from.ensures ∙ ap lawful_row (sym c.in-Group.is) ∙ lawful_first c.in_ok-row.row _ (ap lawful_rows (sym c.in_ok-row.ensures.ahead) ∙ x.lawful);
    }

pub returns-in-Group : goal.returns-in-Group
returns-in-Group c =
    let x = c.args.self.rows in
    let y = c.group.result.1 in
    let ms = members_of c.group.result.0 in
    let whole : rows_left x ≡ kind.Group c.in-Group.size ∷ (bid_rows ms ++ rows_left y) = c.in_ok-row.ensures.ahead ∙ ap₂ (λ (r : Row) (qs : List Row). r ∷ qs) c.in-Group.is c.group.ensures.ahead in
    record {
      less = fewer (rows_left x) (bid_rows ms) _ (rows_left y) x.left y.left whole x.count y.count;
      step = subst (λ (qs : List Row). Parted (book_meaning qs) (grouping ms) (book_meaning (rows_left y))) (sym whole) (first_group c.in-Group.size ms (rows_left y) (c.group.ensures.size ∙ c.from.ensures));
    }

pub single_order-requires : goal.single_order-requires
single_order-requires c =
    let x = c.args.self.rows in
    record {
      lawful = lawful_first c.in_ok-row.row _ (ap lawful_rows (sym c.in_ok-row.ensures.ahead) ∙ x.lawful);
      single = not_group c.in_ok-row.row c.in_default.not-Group;
    }

pub invariant_of-result-2 : goal.invariant_of-result-2
invariant_of-result-2 c =
    let x = c.args.self in
    record { whole = stays_whole x.rows.stand c.in_ok-row.row c.in_ok-row.after.stand c.in_ok-row.ensures.after x.whole (not_group c.in_ok-row.row c.in_default.not-Group) }
