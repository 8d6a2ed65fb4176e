use Rattle.std.proofs.Common.{◌≡◌, ℕ, ◌+◌, ◌-◌, ◌<◌, true, List, length, take, drop, sym, ap, ◌∙◌, subst, arith, length-drop, take_all, rules}
use Rattle.book.specs.Rows.{row_size}
use Rattle.book.proofs.Steps.{step_moves}
use Rattle.sealed.specs.Ahead.{reads_on, ahead}
use Rattle.sealed.specs.Lot.{lawful_rows}
use Rattle.sealed.proofs.Turns.{on_reads, on_rows, lawful_rest}
use Rattle.sealed.proofs.rows.Rows.behind.Goals as goal

pub slice_bounds-result-count : goal.slice_bounds-result-count
slice_bounds-result-count c =
    let x = c.args.self in
    let m = (step_moves x.stand x.rest.now c.args.row.now c.args.next c.requires).fits in
    let e = c.size.ensures in
    omega arith

pub slice_bounds-result-start : goal.slice_bounds-result-start
slice_bounds-result-start c = let h = slice_bounds-result-count c in search rules

pub overflow_sub-result : goal.overflow_sub-result
overflow_sub-result c =
    let x = c.args.self in
    let l = ap length (on_rows x.stand x.rest.now c.args.row.now c.args.next c.requires x.sound) in
    let k = x.count in
    omega arith

pub invariant_of-result : goal.invariant_of-result
invariant_of-result c =
    let x = c.args.self in
    let t = x.rest.now in
    let r = c.args.row.now in
    let n = c.args.next in
    let e : drop (row_size r) t ≡ take (length t - c.size.result) (drop c.size.result t) = ap (λ k. drop k t) (sym c.size.ensures) ∙ sym (take_all _ _ (simp length-drop (omega arith))) in
    let rows = on_rows x.stand t r n c.requires x.sound in
    let m = step_moves x.stand t r n c.requires in
    let fits = m.fits in
    let at = m.at in
    let count = x.count in
    let room = x.room in
    let l = ap length rows in
    let d = length-drop (row_size r) t in
    record {
      sound = subst (λ (u : List ℕ). reads_on n u ≡ true) e (on_reads x.stand t r n c.requires x.sound);
      lawful = subst (λ (u : List ℕ). lawful_rows (ahead n u) ≡ true) e (lawful_rest r (ahead n (drop (row_size r) t)) (ap lawful_rows (sym rows) ∙ x.lawful));
      count = subst (λ (u : List ℕ). length (ahead n u) ≡ x.left - 1) e (omega arith);
      room = subst (λ (u : List ℕ). n.at + length u < 18446744073709551616) e (omega arith);
    }
