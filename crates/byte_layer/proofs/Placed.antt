-- One write after another.
use Rattle.std.proofs.Common.{◌≡◌, ℕ, ◌+◌, ◌≤◌, List, ◌++◌, length, sym, refl, ap, ◌∙◌, append_assoc, arith, length-append}
use lib.Seq.{paste}
use Rattle.std.proofs.lemmas.List.Edits.{paste_all, paste-paste}
use Rattle.byte_layer.specs.Number.{placed}

placed_paste : (t : List ℕ) (a : ℕ) (xs : List ℕ) → paste t a xs (length xs) ≡ placed t a xs
placed_paste t a xs = paste_all t a xs (length xs) refl

both : (t : List ℕ) (a : ℕ) (xs ys : List ℕ) (b : ℕ) → b ≡ a + length xs → a ≤ length t → placed (placed t a xs) b ys ≡ placed t a (xs ++ ys)
both t a xs ys b e h =
    ap (λ (n : ℕ). placed (placed t a xs) n ys) e
    ∙ sym (placed_paste (placed t a xs) (a + length xs) ys)
    ∙ ap (λ z. paste z (a + length xs) ys (length ys)) (sym (placed_paste t a xs))
    ∙ paste-paste t a xs ys (length xs) (length ys) refl refl h
    ∙ ap (λ (n : ℕ). paste t a (xs ++ ys) n) (sym (length-append xs ys))
    ∙ placed_paste t a (xs ++ ys)

-- u is t with xs written at a, and v is u with ys written right behind them
pub placed_then : (t u v : List ℕ) (a b : ℕ) (xs ys : List ℕ) → a ≤ length t → u ≡ placed t a xs → b ≡ a + length xs → v ≡ placed u b ys → v ≡ placed t a (xs ++ ys)
placed_then t u v a b xs ys h e l f = f ∙ ap (λ z. placed z b ys) e ∙ both t a xs ys b l h

pub placed_three : (t t1 t2 t3 : List ℕ) (a b1 b2 : ℕ) (x y z : List ℕ) → a ≤ length t → t1 ≡ placed t a x → b1 ≡ a + length x → t2 ≡ placed t1 b1 y → b2 ≡ b1 + length y → t3 ≡ placed t2 b2 z → t3 ≡ placed t a (x ++ (y ++ z))
placed_three t t1 t2 t3 a b1 b2 x y z h e1 l1 e2 l2 e3 =
    placed_then t t2 t3 a b2 (x ++ y) z h (placed_then t t1 t2 a b1 x y h e1 l1 e2) (omega (arith, length-append x y)) e3
    ∙ ap (placed t a) (append_assoc x y z)

pub placed_four : (t t1 t2 t3 t4 : List ℕ) (a b1 b2 b3 : ℕ) (w x y z : List ℕ) → a ≤ length t → t1 ≡ placed t a w → b1 ≡ a + length w → t2 ≡ placed t1 b1 x → b2 ≡ b1 + length x → t3 ≡ placed t2 b2 y → b3 ≡ b2 + length y → t4 ≡ placed t3 b3 z → t4 ≡ placed t a (w ++ (x ++ (y ++ z)))
placed_four t t1 t2 t3 t4 a b1 b2 b3 w x y z h e1 l1 e2 l2 e3 l3 e4 =
    let f2 = placed_then t t1 t2 a b1 w x h e1 l1 e2 in
    placed_three t t2 t3 t4 a b2 b3 (w ++ x) y z h f2 (omega (arith, length-append w x)) e3 l3 e4 ∙ ap (placed t a) (append_assoc w x (y ++ z))
