-- A list of lots that is empty.
use Rattle.std.specs.Prelude.{◌≡◌, List, [], ◌∷◌, length, refl}
use Rattle.std.proofs.Common.{arith}
use Rattle.lot.specs.Meaning.{Meaning}
use Rattle.lot.specs.Join.{together, nothing}

pub together_end : {A : Type 0} (f : A → Meaning) (xs : List A) → length xs ≡ 0 → together f xs ≡ nothing
unfolding together
together_end f [] h = refl
together_end f (x ∷ xs) h = absurd (omega arith)
