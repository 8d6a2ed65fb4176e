-- What a group answers, from what its rows answer as joined lots.
use Rattle.std.specs.List.{count_by, fold, range_with_len}
use Rattle.std.proofs.lemmas.List.{map-id}
use Rattle.std.proofs.lemmas.List.FromFn.{sum_by-map-range_with_len_more}
use Rattle.std.proofs.Common.{zero, add-one, ◌≡◌, ℕ, suc, ◌+◌, ◌*◌, ◌<◌, ◌≤◌, min, Bool, not, cond, List, [], ◌∷◌, map, length, ℤ, pos, ◌≤ℤ◌, Some, None, Option, sym, refl, ap, ◌∙◌, subst, ap₂, arith}
use Rattle.std.specs.Bool.{then_some}
use Rattle.std.specs.Int.{int_max}
use Rattle.std.specs.Option.{MatchOption}
use Rattle.std.proofs.lemmas.Int.{ints, clamps}
use Rattle.lot.specs.Sum.{count}
use Rattle.lot.specs.Meaning.{Meaning, Prices, cell_rows}
use Rattle.lot.specs.Parts.{group_named}
use Rattle.lot.specs.Join.{join, blank, together}
use Rattle.lot.specs.Page.{table_of, Sized, Ready}
use Rattle.lot.specs.Single.{at_most_one, largest, headed}
use Rattle.lot.specs.Laws.Exclusives.{headed_cells, each_admitted}
use Rattle.lot.proofs.Alone.{unless}
use Rattle.bid.specs.declared.lawful.Bid.{Bid}
use Rattle.group.specs.Group.{member_of, bid_meaning, grouping}
use Rattle.group.specs.Laws.Groups.{members_owe, headed_is}

-- the rows of a group as joined lots
abbrev pub rows_of : List Bid → Meaning
rows_of bs = join (blank 1) (together bid_meaning bs)

length_map : (bs : List Bid) → length (map member_of bs) ≡ length bs
length_map [] = refl
length_map (b ∷ bs) = ap suc (length_map bs)

module _ (bs ms : List Bid) (e : ms ≡ bs) where
  same : rows_of ms ≡ headed (map member_of bs)
  same = ap rows_of e ∙ sym (headed_is bs)

  pub count_rows : (f : Meaning → ℕ) {r : ℕ} → r ≡ min (f (rows_of ms)) 4097 → r ≡ min (f (headed (map member_of bs))) 4097
  count_rows f h = h ∙ ap (λ m. min (f m) 4097) same

  module _ (k : List ℕ) where
    sized_headed : Sized (grouping bs) k → Sized (headed (map member_of bs)) k
    sized_headed s = record { few = s.few; long = s.long }

    ready_headed : Ready (grouping bs) k → Ready (headed (map member_of bs)) k
    ready_headed r = record { sized = sized_headed r.sized; admitted = each_admitted (map member_of bs) (members_owe bs) (table_of k) r.admitted }

    pub sized_rows : Sized (grouping bs) k → Sized (rows_of ms) k
    sized_rows s = subst (λ m. Sized m k) (sym same) (sized_headed s)

    pub ready_rows : Ready (grouping bs) k → Ready (rows_of ms) k
    ready_rows r = subst (λ m. Ready m k) (sym same) (ready_headed r)

    pub row_below : (row : ℕ) → row < (grouping bs).rows → row < (rows_of ms).rows
    row_below row h = subst (λ m. row < m.rows) (sym same) h

    pub long_rows : Sized (grouping bs) k → 17 * length bs ≤ length k
    long_rows s = let l = s.long in let c : cell_rows (headed (map member_of bs)) ≡ length bs = headed_cells (map member_of bs) (members_owe bs) ∙ length_map bs in omega arith

    pub answered : {A : Type 0} (f : Meaning → A) {r : A} → r ≡ f (rows_of ms) → r ≡ f (headed (map member_of bs))
    answered f h = h ∙ ap f same

    -- a member that is named, or the group's own row
    pub named_or : (o : Option ℕ) {r : Option ℕ} {P : Type 0} → o ≡ (rows_of ms).refused (table_of k) → MatchOption o P (λ v. r ≡ Some v) → (P → r ≡ then_some {T = ℕ} (not (at_most_one (length bs) (table_of k))) 0) → r ≡ (grouping bs).refused (table_of k)
    named_or o {r} {P} h m own = by o m ∙ ap₂ group_named (h ∙ ap (λ m. m.refused (table_of k)) same) (ap (λ j. at_most_one j (table_of k)) (sym (length_map bs)))
      where
        by : (o : Option ℕ) → MatchOption o P (λ v. r ≡ Some v) → r ≡ group_named o (at_most_one (length bs) (table_of k))
        by None p = own p ∙ unless (at_most_one (length bs) (table_of k))
        by (Some v) e = e

-- ---- how many cell rows are taken
pub taken_is : (n : ℕ) (p q : ℕ → Bool) → ((k : ℕ) → p k ≡ q k) → count_by p (range_with_len 0 n) ≡ count n q
unfolding count
taken_is n p q same = ap (count_by p) (sym (map-id (range_with_len 0 n))) ∙ go n
  where
    go : (n : ℕ) → count_by p (map (λ x. x) (range_with_len 0 n)) ≡ count n q
    go zero = refl
    go (suc n) = ap (λ k. count_by p (map (λ x. x) (range_with_len 0 k))) (sym (add-one n)) ∙ sum_by-map-range_with_len_more (λ x. cond (p x) 1 0) (λ x. x) 0 n n (omega arith) ∙ ap₂ (λ k b. k + cond b 1 0) (go n) (same n)

-- ---- the largest best
pub largest_is : (p : Prices) (bs : List Bid) → fold (λ top best. int_max best top) (pos 0) (map (λ b. (member_of b).best p) bs) ≡ largest (map member_of bs) p
largest_is p bs = let h = up bs in let e = from bs (pos 0) (omega (arith, ints)) in omega (arith, ints, clamps)
  where
    up : (bs : List Bid) → pos 0 ≤ℤ largest (map member_of bs) p
    up [] = omega (arith, ints)
    up (b ∷ bs) = let h = up bs in omega (arith, ints, clamps)

    from : (bs : List Bid) (top : ℤ) → pos 0 ≤ℤ top → fold (λ top best. int_max best top) top (map (λ b. (member_of b).best p) bs) ≡ int_max top (largest (map member_of bs) p)
    from [] top h = omega (arith, ints, clamps)
    from (b ∷ bs) top h = from bs (int_max ((member_of b).best p) top) (omega (arith, ints, clamps)) ∙ omega (arith, ints, clamps)
