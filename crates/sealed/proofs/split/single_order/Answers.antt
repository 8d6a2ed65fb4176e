use Rattle.std.proofs.Common.{◌≡◌, List, sym, ap, ◌∙◌, subst, ◌∷◌, rules}
use borrow.Author.Tests.{tests}
use Rattle.std.specs.Result.{result_map_both}
use Rattle.lot.specs.Join.{Parted}
use Rattle.units.specs.Limit.{is_area}
use Rattle.bid.specs.declared.lawful.Bid.{Bid}
use Rattle.bid.specs.Fields.{bid_fine}
use Rattle.need.specs.declared.lawful.Need.{Need}
use Rattle.need.specs.Fields.{need_fine}
use Rattle.border.specs.declared.lawful.Border.{Border}
use Rattle.border.specs.Fields.{border_placed, border_fine}
use Rattle.book.specs.declared.row.Row.{Row}
use Rattle.book.specs.declared.row.Row.TheVariants as kind
use Rattle.order.specs.declared.order.Order.{Order}
use Rattle.order.specs.declared.order.Order.TheVariants as order
use Rattle.order.specs.Order.{order_meaning}
use Rattle.sealed.specs.Lot.{bid, need, border, book_meaning, lawful_row}
use Rattle.sealed.proofs.Splitting.{row_parts, filed_bid, filed_need, filed_border, not_refused, made_of}
use Rattle.sealed.proofs.split.single_order.Goals.{in-Bid, in-Need, in-Border}
use Rattle.sealed.proofs.split.single_order.Goals as goal

pub unreachable-requires-in_default : goal.unreachable-requires-in_default
unreachable-requires-in_default c = elim c.match-row.branch [
  | in-Bid w ↦ (
      let f = w.in-Bid.fields in
      let m : w.map-made.result ≡ result_map_both order.Bid (λ e. e) w.try_from.result = search (rules, tests) in
      not_refused order.Bid (λ (x : Bid). x.fields) (is_area f.area) (bid_fine f.quarters) f w.try_from.result (w.try_from.ensures 0) (ap lawful_row (sym w.in-Bid.is) ∙ c.requires.lawful) c.in_default.field-0 (sym c.in_default.is ∙ w.made-is ∙ m))
  | in-Need w ↦ (
      let f = w.in-Need.fields in
      let m : w.map-made-in-Need.result ≡ result_map_both order.Need (λ e. e) w.try_from-in-Need.result = search (rules, tests) in
      not_refused order.Need (λ (x : Need). x.fields) (is_area f.area) (need_fine f.elasticity f.quarters) f w.try_from-in-Need.result (w.try_from-in-Need.ensures 0) (ap lawful_row (sym w.in-Need.is) ∙ c.requires.lawful) c.in_default.field-0 (sym c.in_default.is ∙ w.made-is ∙ m))
  | in-Border w ↦ (
      let f = w.in-Border.fields in
      let m : w.map-made-in-Border.result ≡ result_map_both order.Border (λ e. e) w.try_from-in-Border.result = search (rules, tests) in
      not_refused order.Border (λ (x : Border). x.fields) (border_placed f.from f.to) (border_fine f.quarters) f w.try_from-in-Border.result (w.try_from-in-Border.ensures 0) (ap lawful_row (sym w.in-Border.is) ∙ c.requires.lawful) c.in_default.field-0 (sym c.in_default.is ∙ w.made-is ∙ m))
]

pub returns : goal.returns
returns c = elim c.match-row.branch [
  | in-Bid w ↦ (
      let f = w.in-Bid.fields in
      let m : w.map-made.result ≡ result_map_both order.Bid (λ e. e) w.try_from.result = search (rules, tests) in
      let k = made_of order.Bid (λ (x : Bid). x.fields) (is_area f.area) (bid_fine f.quarters) f w.try_from.result (w.try_from.ensures 0) c.in-Ok.order (sym c.in-Ok.is ∙ w.made-is ∙ m) in
      let g = k.0.fields in
      subst (λ (o : Order). (rs : List Row) → Parted (book_meaning (c.args.row ∷ rs)) (order_meaning o) (book_meaning rs)) k.1 (row_parts (bid g) c.args.row (kind.Bid g) (w.in-Bid.is ∙ ap kind.Bid k.2) (filed_bid g)))
  | in-Need w ↦ (
      let f = w.in-Need.fields in
      let m : w.map-made-in-Need.result ≡ result_map_both order.Need (λ e. e) w.try_from-in-Need.result = search (rules, tests) in
      let k = made_of order.Need (λ (x : Need). x.fields) (is_area f.area) (need_fine f.elasticity f.quarters) f w.try_from-in-Need.result (w.try_from-in-Need.ensures 0) c.in-Ok.order (sym c.in-Ok.is ∙ w.made-is ∙ m) in
      let g = k.0.fields in
      subst (λ (o : Order). (rs : List Row) → Parted (book_meaning (c.args.row ∷ rs)) (order_meaning o) (book_meaning rs)) k.1 (row_parts (need g) c.args.row (kind.Need g) (w.in-Need.is ∙ ap kind.Need k.2) (filed_need g)))
  | in-Border w ↦ (
      let f = w.in-Border.fields in
      let m : w.map-made-in-Border.result ≡ result_map_both order.Border (λ e. e) w.try_from-in-Border.result = search (rules, tests) in
      let k = made_of order.Border (λ (x : Border). x.fields) (border_placed f.from f.to) (border_fine f.quarters) f w.try_from-in-Border.result (w.try_from-in-Border.ensures 0) c.in-Ok.order (sym c.in-Ok.is ∙ w.made-is ∙ m) in
      let g = k.0.fields in
      subst (λ (o : Order). (rs : List Row) → Parted (book_meaning (c.args.row ∷ rs)) (order_meaning o) (book_meaning rs)) k.1 (row_parts (border g) c.args.row (kind.Border g) (w.in-Border.is ∙ ap kind.Border k.2) (filed_border g)))
]
