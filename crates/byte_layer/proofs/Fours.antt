-- Four parts of one kind, one behind the other behind a head, as the quarters of a command stand.
use Rattle.std.proofs.Common.{◌≡◌, ℕ, ◌+◌, ◌≤◌, List, [], ◌∷◌, ◌++◌, length, get_or, take, drop, sym, refl, ap, ◌∙◌, append_assoc, append-nil, arith, length-append}
use Rattle.byte_layer.specs.Number.{Octets}
use Rattle.std.specs.List.{flat_map}
use Rattle.byte_layer.proofs.Parts.{take_five}

-- parts of k bytes: a part among other bytes is read again, and the bytes of one that was read are those that stood there
pub record Part {Q : Type 0} (k : ℕ) (bytes : Q → List ℕ) (at : List ℕ → ℕ → Q) (Fine : Q → Type 0) : Type 0 where
  pub size : (q : Q) → length (bytes q) ≡ k
  pub back : (q : Q) (xs ys : List ℕ) (n : ℕ) → length xs ≡ n → Fine q → at (xs ++ (bytes q ++ ys)) n ≡ q
  pub forth : (t : List ℕ) (n : ℕ) → Octets t → n + k ≤ length t → bytes (at t n) ≡ take k (drop n t)

-- the same bytes, cut before each of the four parts
cut_0 : (h a b c d t : List ℕ) → (h ++ (a ++ (b ++ (c ++ d)))) ++ t ≡ h ++ (a ++ (b ++ (c ++ (d ++ t))))
cut_0 h a b c d t = simp append_assoc

cut_1 : (h a b c d t : List ℕ) → (h ++ (a ++ (b ++ (c ++ d)))) ++ t ≡ (h ++ a) ++ (b ++ (c ++ (d ++ t)))
cut_1 h a b c d t = simp append_assoc

cut_2 : (h a b c d t : List ℕ) → (h ++ (a ++ (b ++ (c ++ d)))) ++ t ≡ (h ++ (a ++ b)) ++ (c ++ (d ++ t))
cut_2 h a b c d t = simp append_assoc

cut_3 : (h a b c d t : List ℕ) → (h ++ (a ++ (b ++ (c ++ d)))) ++ t ≡ (h ++ (a ++ (b ++ c))) ++ (d ++ t)
cut_3 h a b c d t = simp append_assoc

four_list : {X : Type 0} (d : X) (xs : List X) → length xs ≡ 4 → get_or xs 0 d ∷ get_or xs 1 d ∷ get_or xs 2 d ∷ get_or xs 3 d ∷ [] ≡ xs
four_list d [] e = absurd (omega arith)
four_list d (x ∷ []) e = absurd (omega arith)
four_list d (x ∷ y ∷ []) e = absurd (omega arith)
four_list d (x ∷ y ∷ z ∷ []) e = absurd (omega arith)
four_list d (x ∷ y ∷ z ∷ w ∷ []) e = refl
four_list d (x ∷ y ∷ z ∷ w ∷ v ∷ xs) e = absurd (omega arith)

-- the bytes of four parts, by their places; in their place would stand d0 to d3
pub fours_bytes : {X : Type 0} (bytes : X → List ℕ) (d0 d1 d2 d3 : X) (xs : List X) → length xs ≡ 4 → flat_map bytes xs ≡ bytes (get_or xs 0 d0) ++ (bytes (get_or xs 1 d1) ++ (bytes (get_or xs 2 d2) ++ bytes (get_or xs 3 d3)))
fours_bytes bytes d0 d1 d2 d3 [] e = absurd (omega arith)
fours_bytes bytes d0 d1 d2 d3 (x ∷ []) e = absurd (omega arith)
fours_bytes bytes d0 d1 d2 d3 (x ∷ y ∷ []) e = absurd (omega arith)
fours_bytes bytes d0 d1 d2 d3 (x ∷ y ∷ z ∷ []) e = absurd (omega arith)
fours_bytes bytes d0 d1 d2 d3 (x ∷ y ∷ z ∷ w ∷ []) e = ap (λ bs. bytes x ++ (bytes y ++ (bytes z ++ bs))) (append-nil (bytes w))
fours_bytes bytes d0 d1 d2 d3 (x ∷ y ∷ z ∷ w ∷ v ∷ xs) e = absurd (omega arith)

same_four : {X : Type 0} (a b c d p q r s : X) → a ≡ p → b ≡ q → c ≡ r → d ≡ s → a ∷ b ∷ c ∷ d ∷ [] ≡ p ∷ q ∷ r ∷ s ∷ []
same_four a b c d p q r s e f g h = cc

module _ {Q : Type 0} {k : ℕ} {B : Q → List ℕ} {A : List ℕ → ℕ → Q} {Fine : Q → Type 0} (part : Part k B A Fine) where
  pub length_fours : (h : List ℕ) (a b c d : Q) → length (h ++ (B a ++ (B b ++ (B c ++ B d)))) ≡ length h + (k + (k + (k + k)))
  length_fours h a b c d =
      omega (arith, length-append h (B a ++ (B b ++ (B c ++ B d))), length-append (B a) (B b ++ (B c ++ B d)), length-append (B b) (B c ++ B d), length-append (B c) (B d), part.size a, part.size b, part.size c, part.size d)

  -- four parts that were written are read again
  pub fours_back : (h t : List ℕ) (n : ℕ) → length h ≡ n → (e : Q) (qs : List Q) → length qs ≡ 4 → Fine (get_or qs 0 e) → Fine (get_or qs 1 e) → Fine (get_or qs 2 e) → Fine (get_or qs 3 e)
      → let u = (h ++ (B (get_or qs 0 e) ++ (B (get_or qs 1 e) ++ (B (get_or qs 2 e) ++ B (get_or qs 3 e))))) ++ t in A u n ∷ A u (n + k) ∷ A u (n + k + k) ∷ A u (n + k + k + k) ∷ [] ≡ qs
  fours_back h t n l e qs four f0 f1 f2 f3 =
      let a = get_or qs 0 e in
      let b = get_or qs 1 e in
      let c = get_or qs 2 e in
      let d = get_or qs 3 e in
      same_four _ _ _ _ a b c d
      (ap (λ x. A x n) (cut_0 h (B a) (B b) (B c) (B d) t) ∙ part.back a h (B b ++ (B c ++ (B d ++ t))) n l f0)
      (ap (λ x. A x (n + k)) (cut_1 h (B a) (B b) (B c) (B d) t) ∙ part.back b (h ++ B a) (B c ++ (B d ++ t)) (n + k) (omega (arith, length-append h (B a), part.size a)) f1)
      (ap (λ x. A x (n + k + k)) (cut_2 h (B a) (B b) (B c) (B d) t) ∙ part.back c (h ++ (B a ++ B b)) (B d ++ t) (n + k + k) (omega (arith, length-append h (B a ++ B b), length-append (B a) (B b), part.size a, part.size b)) f2)
      (ap (λ x. A x (n + k + k + k)) (cut_3 h (B a) (B b) (B c) (B d) t) ∙ part.back d (h ++ (B a ++ (B b ++ B c))) t (n + k + k + k) (omega (arith, length-append h (B a ++ (B b ++ B c)), length-append (B a) (B b ++ B c), length-append (B b) (B c), part.size a, part.size b, part.size c)) f3)
      ∙ four_list e qs four

  -- and the bytes of four parts that were read are those that stood there
  pub fours_forth : (t h : List ℕ) (n : ℕ) → Octets t → n + (k + (k + (k + k))) ≤ length t → h ≡ take n t
      → h ++ (B (A t n) ++ (B (A t (n + k)) ++ (B (A t (n + k + k)) ++ B (A t (n + k + k + k))))) ≡ take (n + (k + (k + (k + k)))) t
  fours_forth t h n o l e =
      let q = λ (m : ℕ). B (A t m) in
      ap (λ x. x ++ (q n ++ (q (n + k) ++ (q (n + k + k) ++ q (n + k + k + k))))) e
      ∙ ap (λ x. take n t ++ (x ++ (q (n + k) ++ (q (n + k + k) ++ q (n + k + k + k))))) (part.forth t n o (omega arith))
      ∙ ap (λ x. take n t ++ (take k (drop n t) ++ (x ++ (q (n + k + k) ++ q (n + k + k + k))))) (part.forth t (n + k) o (omega arith))
      ∙ ap (λ x. take n t ++ (take k (drop n t) ++ (take k (drop (n + k) t) ++ (x ++ q (n + k + k + k))))) (part.forth t (n + k + k) o (omega arith))
      ∙ ap (λ x. take n t ++ (take k (drop n t) ++ (take k (drop (n + k) t) ++ (take k (drop (n + k + k) t) ++ x)))) (part.forth t (n + k + k + k) o (omega arith))
      ∙ sym (take_five n k t)
