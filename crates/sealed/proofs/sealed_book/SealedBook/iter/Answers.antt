use Rattle.std.proofs.Common.{◌≡◌, true, length, sym, ap, ◌∙◌, subst, arith}
use Rattle.book.specs.declared.stand.Stand.{Stand}
use Rattle.book.specs.Reading.{checked}
use Rattle.sealed.specs.Ahead.{reads_on, ahead}
use Rattle.sealed.specs.Lot.{lawful_rows}
use Rattle.sealed.proofs.Found.{kept_rows, passed_is}
use Rattle.sealed.proofs.Turns.{passed_reads, begin_rows}
use Rattle.sealed.proofs.sealed_book.SealedBook.iter.Goals as goal

pub invariant_of-result : goal.invariant_of-result
invariant_of-result c =
    let b = c.args.self.now in
    let t = b.text.now in
    let e = sym c.begin.ensures in
    let zero : c.begin.result.at ≡ 0 = ap (λ (s : Stand). s.at) c.begin.ensures in
    record {
      sound = subst (λ (s : Stand). reads_on s t ≡ true) e (passed_reads t b.passed);
      lawful = subst (λ (s : Stand). lawful_rows (ahead s t) ≡ true) e (ap lawful_rows (begin_rows t) ∙ b.lawful);
      count = subst (λ (s : Stand). length (ahead s t) ≡ b.found.rows) e (ap length (begin_rows t) ∙ sym (kept_rows t b.found (passed_is (checked t) b.found b.passed b.tells)));
      room = omega arith;
    }

pub returns-clause-rows : goal.returns-clause-rows
returns-clause-rows c = ap (λ (s : Stand). ahead s c.args.self.now.text.now) c.begin.ensures ∙ begin_rows c.args.self.now.text.now
