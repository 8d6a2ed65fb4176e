-- An exclusive group of rows keeps the five duties: its best is the largest of its members', and not their sum.
use Rattle.std.specs.Prelude.{◌≡◌, ℕ, suc, ◌+◌, ◌*◌, ◌<◌, ◌≤◌, Bool, true, false, cond, not, List, [], ◌∷◌, length, ℤ, pos, ◌+ℤ◌, ◌≤ℤ◌, ◌<ℤ◌, Some, None}
use Rattle.std.proofs.Math.Path.{refl, ap, ap₂, subst, fun_ext}
use Rattle.std.proofs.Common.{sym, ◌∙◌, ⊎_elim}
use native.Mathlib.Omega.{arith}
use Rattle.std.proofs.Math.Nat.{zero-add}
use Rattle.std.proofs.Math.IntN.{+ℤ_idl}
use Rattle.std.specs.Int.{int_max}
use Rattle.std.specs.List.{AllByRecursion}
use Rattle.std.proofs.lemmas.Int.{ints, clamps, by_lt_z}
use Rattle.std.proofs.lemmas.Bool.{cases_lt, cases_Bool, leb-true, le-leb}
use Rattle.lot.specs.Sum.{count, beside}
use Rattle.lot.specs.Meaning.{Meaning, Cells, Prices, Table, Admitted, Capped, cell_rows, no_cells, money, surplus}
use Rattle.lot.specs.Duties.{most_lot_rows, most_money, Idle, Greatest, Unharmed, Limited, Duties}
use Rattle.lot.specs.Parts.{front, shift, group_named}
use Rattle.lot.specs.Join.{join, blank, nothing, together}
use Rattle.lot.specs.Single.{Single, single, idle_row, at_most_one, largest, headed, exclusive}
use Rattle.lot.specs.Laws.Sums.{count_split, count_none, count_zero, beside_below}
use Rattle.lot.specs.Laws.Tables.{front_none, shift_none, shift_beside, table_none, table_beside, table_shift}
use Rattle.lot.specs.Laws.Named.{named_none, group_named_none, group_named_own}
use Rattle.lot.specs.Laws.Joins.{settled_always, join_duties, bounded_like, blank_surplus, blank_duties, blank_cells, cell_rows_join, surplus_join, admits_low, admits_high, idle_surplus, money_zero}
use Rattle.lot.specs.Laws.Tests.{idle_cells, cells_idle}
use Rattle.lot.specs.Laws.Singles.{SingleDuties, no_power, single_duties, single_cells, single_surplus, single_idle, single_admits, named_not}

-- is not all zero
abbrev taken : (ℕ → ℤ) → Bool
taken q = not (idle_row q)

not_taken : (q : ℕ → ℤ) → idle_row q ≡ true → taken q ≡ false
not_taken q h = ap not h

is_idle : (b : Bool) → not b ≡ false → b ≡ true
is_idle true h = refl
is_idle false h = let z : ◌≡◌ {A = ℕ} 0 1 = cc in absurd (omega arith)

none_taken : taken no_power ≡ false
none_taken = not_taken no_power (cells_idle no_power (λ t _. refl))

-- a row of a table that is all zero
idle_row_lem : (k : ℕ) (c : Cells) → Table k c → (i : ℕ) → idle_row (c i) ≡ true → c i ≡ no_power
idle_row_lem k c ok i h = fun_ext (λ t. ⊎_elim (λ (l : t < 4). idle_cells (c i) h t l) (λ (g : 4 ≤ t). ok.late i t g) (cases_lt t 4))

-- a table of which no row is taken
all_idle : (k : ℕ) (c : Cells) → Table k c → count k (λ i. taken (c i)) ≡ 0 → c ≡ no_cells
all_idle k c ok none = fun_ext (λ i. ⊎_elim
    (λ (l : i < k). idle_row_lem k c ok i (is_idle (idle_row (c i)) (count_zero k (λ i. taken (c i)) none i l)))
    (λ (g : k ≤ i). fun_ext (λ t. ok.past i t g))
    (cases_lt i k))

-- ---- members one after another
members : List Single → Meaning
members ss = together single ss

members_duties : (ss : List Single) → AllByRecursion SingleDuties ss → Duties (members ss)
unfolding members together
members_duties [] d = blank_duties 0
members_duties (s ∷ ss) d = join_duties (single s) (together single ss) (single_duties s d.0) (members_duties ss d.1)

members_rows : (ss : List Single) → (members ss).rows ≡ length ss
unfolding members together
members_rows [] = refl
members_rows (s ∷ ss) = let e = members_rows ss in omega arith

members_cells : (ss : List Single) → cell_rows (members ss) ≡ length ss
unfolding members together
members_cells [] = blank_cells 0
members_cells (s ∷ ss) = let e = members_cells ss in let f = single_cells s in let g = cell_rows_join (single s) (together single ss) in omega arith

members_idle : (ss : List Single) → AllByRecursion SingleDuties ss → (p : Prices) → surplus (members ss) no_cells p ≡ pos 0
unfolding members together
members_idle [] d p = idle_surplus nothing ((blank_duties 0).idle (omega arith)) p
members_idle (s ∷ ss) d p =
    let k = cell_rows (single s) in
    let one : surplus (single s) (front k no_cells) p ≡ pos 0 = ap (λ c. surplus (single s) c p) (front_none k) ∙ idle_surplus (single s) (single_idle s d.0) p in
    let rest : surplus (together single ss) (shift k no_cells) p ≡ pos 0 = ap (λ c. surplus (together single ss) c p) (shift_none k) ∙ members_idle ss d.1 p in
    surplus_join (single s) (together single ss) no_cells p ∙ (λ i. one i +ℤ rest i)

count_one : (f : ℕ → Bool) → count 1 f ≡ cond (f 0) 1 0
unfolding count
count_one f = zero-add (cond (f 0) 1 0)

-- how many of one row and the rows after it are taken
split_taken : (n : ℕ) (c : Cells) → count (suc n) (λ i. taken (c i)) ≡ cond (taken (c 0)) 1 0 + count n (λ i. taken (shift 1 c i))
unfolding shift
split_taken n c =
    let e : suc n ≡ 1 + n = omega arith in
    ap (λ k. count k (λ i. taken (c i))) e ∙ count_split 1 n (λ i. taken (c i)) ∙ ap (λ x. x + count n (λ i. taken (c (1 + i)))) (count_one (λ i. taken (c i)))

-- ---- the first member and those after it
module _ (s : Single) (ss : List Single) (c : Cells) where
  first_cells : front (cell_rows (single s)) c 0 ≡ c 0
  unfolding front
  first_cells = let e = single_cells s in beside_below (cell_rows (single s)) c no_cells 0 (omega arith)

  member_surplus : (p : Prices) → surplus (join (single s) (members ss)) c p ≡ (s.worth (c 0) +ℤ money (s.net (c 0)) p) +ℤ surplus (members ss) (shift 1 c) p
  member_surplus p =
      surplus_join (single s) (members ss) c p
      ∙ ap₂ ◌+ℤ◌ (single_surplus s (front (cell_rows (single s)) c) p ∙ ap (λ q. s.worth q +ℤ money (s.net q) p) first_cells) (ap (λ k. surplus (members ss) (shift k c) p) (single_cells s))

  member_admits : Admitted (join (single s) (members ss)) c → s.admits (c 0) ≡ true
  member_admits h = ap s.admits (sym first_cells) ∙ single_admits s (front (cell_rows (single s)) c) (admits_low (single s) (members ss) c h)

  rest_admits : Admitted (join (single s) (members ss)) c → Admitted (members ss) (shift 1 c)
  rest_admits h = ap (λ k. (members ss).refused (shift k c)) (sym (single_cells s)) ∙ admits_high (single s) (members ss) c h

  both_admit : s.admits (c 0) ≡ true → Admitted (members ss) (shift 1 c) → Admitted (join (single s) (members ss)) c
  both_admit h k = named_none 1 _ _ (ap (λ q. cond (s.admits q) None (Some 0)) first_cells ∙ named_not (s.admits (c 0)) h) (ap (λ j. (members ss).refused (shift j c)) (single_cells s) ∙ k)

  rest_table : Table (suc (length ss)) c → Table (length ss) (shift 1 c)
  rest_table ok = table_shift 1 (length ss) (suc (length ss)) c (omega arith) ok

-- nothing is earned by a member that is not taken
idle_member : (s : Single) → SingleDuties s → (p : Prices) (q : ℕ → ℤ) → q ≡ no_power → s.worth q +ℤ money (s.net q) p ≡ pos 0
idle_member s d p q e =
    ap (λ x. s.worth x +ℤ money (s.net x) p) e
    ∙ ap₂ ◌+ℤ◌ d.idle_worth (money_zero (s.net no_power) p (λ a t _ _. d.idle_net a t))

-- ---- no admitted cells of which at most one row is taken have more than the largest
at_most : (ss : List Single) → AllByRecursion SingleDuties ss → (p : Prices) (c : Cells) → Table (length ss) c → Admitted (members ss) c → count (length ss) (λ i. taken (c i)) ≤ 1 → surplus (members ss) c p ≤ℤ largest ss p
unfolding members together
at_most [] d p c ok adm few = let e : surplus (members []) c p ≡ pos 0 = ap (λ x. surplus (members []) x p) (fun_ext (λ i. fun_ext (λ t. ok.past i t (omega arith)))) ∙ members_idle [] d p in none (surplus (members []) c p) e
  where
    none : (x : ℤ) → x ≡ pos 0 → x ≤ℤ pos 0
    none x e = omega (arith, ints)
at_most (s ∷ ss) d p c ok adm few =
    let x : ℤ = s.worth (c 0) +ℤ money (s.net (c 0)) p in
    let y : ℤ = surplus (members ss) (shift 1 c) p in
    let count-is = split_taken (length ss) c in
    let rest = rest_table s ss c ok in
    subst (λ z. z ≤ℤ largest (s ∷ ss) p) (sym (member_surplus s ss c p)) (⊎_elim
    (λ (yes : taken (c 0) ≡ true).
    let one : ◌≡◌ {A = ℕ} (cond (taken (c 0)) 1 0) 1 = ap (λ b. cond b 1 0) yes in
    let none : y ≡ pos 0 = ap (λ z. surplus (members ss) z p) (all_idle (length ss) (shift 1 c) rest (omega arith)) ∙ members_idle ss d.1 p in
    first x y (s.best p) (largest ss p) none (d.0.above p (c 0) (member_admits s ss c adm)))
    (λ (no : taken (c 0) ≡ false).
    let one : ◌≡◌ {A = ℕ} (cond (taken (c 0)) 1 0) 0 = ap (λ b. cond b 1 0) no in
    let none : x ≡ pos 0 = idle_member s d.0 p (c 0) (idle_row_lem (suc (length ss)) c ok 0 (is_idle (idle_row (c 0)) no)) in
    second x y (s.best p) (largest ss p) none (at_most ss d.1 p (shift 1 c) rest (rest_admits s ss c adm) (omega arith)))
    (cases_Bool (taken (c 0))))
  where
    first : (x y b l : ℤ) → y ≡ pos 0 → x ≤ℤ b → (x +ℤ y) ≤ℤ int_max b l
    first x y b l e h = omega (arith, ints, clamps)

    second : (x y b l : ℤ) → x ≡ pos 0 → y ≤ℤ l → (x +ℤ y) ≤ℤ int_max b l
    second x y b l e h = omega (arith, ints, clamps)

-- ---- the largest is reached
record Pick (ss : List Single) (p : Prices) : Type 0 where
  at : Cells
  fitting : Table (length ss) at
  admitted : Admitted (members ss) at
  one : count (length ss) (λ i. taken (at i)) ≤ 1
  gives : surplus (members ss) at p ≡ largest ss p

-- one member's cells, and those of the members after it
module _ (q : ℕ → ℤ) (c : Cells) where
  over : Cells
  over = beside 1 (λ _. q) c

  over_first : over 0 ≡ q
  unfolding over
  over_first = beside_below 1 (λ _. q) c 0 (omega arith)

  over_rest : shift 1 over ≡ c
  unfolding over
  over_rest = shift_beside 1 (λ _. q) c

  over_table : (n : ℕ) → ((t : ℕ) → 4 ≤ t → q t ≡ pos 0) → Table n c → Table (suc n) over
  unfolding over
  over_table n late ok = subst (λ k. Table k over) (let e : 1 + n ≡ suc n = omega arith in e) (table_beside 1 n (λ _. q) c (λ i t h. late t h) ok)

idle_count : (n : ℕ) → count n (λ i. taken (no_cells i)) ≡ 0
idle_count n = count_none n (λ i. taken (no_cells i)) (λ i l. none_taken)

members_admit_none : (ss : List Single) → AllByRecursion SingleDuties ss → Admitted (members ss) no_cells
unfolding members together
members_admit_none [] d = refl
members_admit_none (s ∷ ss) d = both_admit s ss no_cells d.0.idle_admitted (ap (members ss).refused (shift_none 1) ∙ members_admit_none ss d.1)

reach : (ss : List Single) → AllByRecursion SingleDuties ss → (p : Prices) → Pick ss p
unfolding members together
reach [] d p = record { at = no_cells; fitting = table_none 0; admitted = refl; one = let e = idle_count 0 in omega arith; gives = members_idle [] d p }
reach (s ∷ ss) d p =
    by_lt_z (largest ss p) (s.best p)
    (λ more.
    let u = d.0.reached p in
    let c = over u.at no_cells in
    let e = over_first u.at no_cells in
    let r = over_rest u.at no_cells in
    record {
      at = c;
      fitting = over_table u.at no_cells (length ss) u.late (table_none (length ss));
      admitted = both_admit s ss c (ap s.admits e ∙ u.admitted) (ap (members ss).refused r ∙ members_admit_none ss d.1);
      one = let k = split_taken (length ss) c in let j : count (length ss) (λ i. taken (shift 1 c i)) ≡ 0 = ap (λ x. count (length ss) (λ i. taken (x i))) r ∙ idle_count (length ss) in bit (taken (c 0)) _ _ k j;
      gives = member_surplus s ss c p ∙ ap₂ (λ q x. (s.worth q +ℤ money (s.net q) p) +ℤ surplus (members ss) x p) e r ∙ third _ _ (s.best p) (largest ss p) u.gives (members_idle ss d.1 p) more;
    })
    (λ less.
    let v = reach ss d.1 p in
    let c = over no_power v.at in
    let e = over_first no_power v.at in
    let r = over_rest no_power v.at in
    record {
      at = c;
      fitting = over_table no_power v.at (length ss) (λ t _. refl) v.fitting;
      admitted = both_admit s ss c (ap s.admits e ∙ d.0.idle_admitted) (ap (members ss).refused r ∙ v.admitted);
      one = let k = split_taken (length ss) c in let j : count (length ss) (λ i. taken (shift 1 c i)) ≡ count (length ss) (λ i. taken (v.at i)) = ap (λ x. count (length ss) (λ i. taken (x i))) r in let z : ◌≡◌ {A = ℕ} (cond (taken (c 0)) 1 0) 0 = ap (λ b. cond b 1 0) (ap taken e ∙ none_taken) in let o = v.one in omega arith;
      gives = member_surplus s ss c p ∙ ap₂ (λ q x. (s.worth q +ℤ money (s.net q) p) +ℤ surplus (members ss) x p) e r ∙ fourth _ _ (s.best p) (largest ss p) (idle_member s d.0 p no_power refl) v.gives less;
    })
  where
    bit : (b : Bool) (n k : ℕ) → n ≡ cond b 1 0 + k → k ≡ 0 → n ≤ 1
    bit true n k e f = omega arith
    bit false n k e f = omega arith

    third : (x y b l : ℤ) → x ≡ b → y ≡ pos 0 → l <ℤ b → x +ℤ y ≡ int_max b l
    third x y b l e f h = omega (arith, ints, clamps)

    fourth : (x y b l : ℤ) → x ≡ pos 0 → y ≡ l → b ≤ℤ l → x +ℤ y ≡ int_max b l
    fourth x y b l e f h = omega (arith, ints, clamps)

-- ---- the group
shift_zero : (c : Cells) → shift 0 c ≡ c
unfolding shift
shift_zero c = fun_ext (λ k. ap c (zero-add k))

module _ (ss : List Single) (d : AllByRecursion SingleDuties ss) where
  headed_duties : Duties (headed ss)
  unfolding members
  headed_duties = join_duties (blank 1) (members ss) (blank_duties 1) (members_duties ss d)

  pub headed_cells : cell_rows (headed ss) ≡ length ss
  unfolding members
  headed_cells = cell_rows_join (blank 1) (members ss) ∙ ap₂ ◌+◌ (blank_cells 1) (members_cells ss) ∙ zero-add (length ss)

  unshifted : (c : Cells) → shift (cell_rows (blank 1)) c ≡ c
  unshifted c = ap (λ k. shift k c) (blank_cells 1) ∙ shift_zero c

  headed_surplus : (c : Cells) (p : Prices) → surplus (headed ss) c p ≡ surplus (members ss) c p
  unfolding members
  headed_surplus c p =
      surplus_join (blank 1) (members ss) c p
      ∙ ap₂ ◌+ℤ◌ (blank_surplus 1 (front (cell_rows (blank 1)) c) p) (ap (λ x. surplus (members ss) x p) (unshifted c))
      ∙ +ℤ_idl (surplus (members ss) c p)

  module _ (c : Cells) (ok : Admitted (exclusive ss) c) where
    pub each_admitted : Admitted (headed ss) c
    each_admitted = group_named_none ((headed ss).refused c) (at_most_one (length ss) c) ok

    one_at_most : count (length ss) (λ k. taken (c k)) ≤ 1
    one_at_most = leb-true (count (length ss) (λ k. taken (c k))) 1 (group_named_own ((headed ss).refused c) (at_most_one (length ss) c) ok)

    members_admitted : Admitted (members ss) c
    unfolding members
    members_admitted = ap (members ss).refused (sym (unshifted c)) ∙ admits_high (blank 1) (members ss) c each_admitted

  group_admitted : (c : Cells) → Admitted (members ss) c → count (length ss) (λ k. taken (c k)) ≤ 1 → Admitted (exclusive ss) c
  unfolding members
  group_admitted c h k = ap₂ group_named (named_none 1 None ((members ss).refused (shift (cell_rows (blank 1)) c)) refl (ap (members ss).refused (unshifted c) ∙ h)) (le-leb (count (length ss) (λ k. taken (c k))) 1 k)

  group_greatest : Greatest (exclusive ss)
  group_greatest = record {
    above = λ p quoted c fits ok. subst (λ x. x ≤ℤ largest ss p) (sym (headed_surplus c p)) (at_most ss d p c (subst (λ k. Table k c) headed_cells fits) (members_admitted c ok) (one_at_most c ok));
    reached = λ p quoted.
        let u = reach ss d p in
        record {
          at = u.at;
          fitting = subst (λ k. Table k u.at) (sym headed_cells) u.fitting;
          admitted = group_admitted u.at u.admitted u.one;
          gives = headed_surplus u.at p ∙ u.gives;
        };
  }

  module _ (few : (exclusive ss).rows ≤ most_lot_rows) where
    pub group_idle : Idle (exclusive ss)
    group_idle = record {
      admits = group_admitted no_cells (members_admit_none ss d) (let e = idle_count (length ss) in omega arith);
      nets = (headed_duties.idle few).nets;
      worths = (headed_duties.idle few).worths;
    }

    pub group_unharmed : Unharmed (exclusive ss)
    group_unharmed c p fits ok = headed_duties.unharmed few c p fits (each_admitted c ok)

    pub group_limited : Limited (exclusive ss)
    group_limited = record {
      each = λ c p fits ok quoted cap r h. bounded_like (headed ss) (exclusive ss) c c p r r refl refl ((headed_duties.limited few).each c p fits (each_admitted c ok) quoted cap r h);
      best = λ p quoted cap. let h = most ss d p cap in more (largest ss p) (together single ss).rows h;
    }
      where
        most : (ss : List Single) → AllByRecursion SingleDuties ss → (p : Prices) → Capped p → largest ss p ≤ℤ pos most_money
        most [] d p cap = omega (arith, ints)
        most (s ∷ ss) d p cap = let a : s.best p ≤ℤ pos most_money = d.0.best p cap in let b = most ss d.1 p cap in omega (arith, ints, clamps)

        more : (x : ℤ) (n : ℕ) → x ≤ℤ pos most_money → x ≤ℤ pos (most_money * (1 + n))
        more x n h = omega (arith, ints)

  pub group_duties : Duties (exclusive ss)
  group_duties = record {
    idle = group_idle;
    greatest = λ _. group_greatest;
    settled = λ _. settled_always (exclusive ss);
    unharmed = group_unharmed;
    limited = group_limited;
  }
