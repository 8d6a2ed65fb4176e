-- Bytes of a text that name something.
use Rattle.std.specs.Prelude.{◌≡◌, ℕ, List, ◌++◌, Some, None, Option, Result, MatchResult, codes}
use Rattle.std.specs.Fmt.{decimal}
use Rattle.units.specs.declared.named.Unnamed.{Unnamed}

-- r is what a byte names, or, where it names nothing, an error with the byte
abbrev pub Names : {X : Type 0} → (ℕ → Option X) → ℕ → Result X Unnamed → Type 0
Names of byte r = MatchResult r (λ x. of byte ≡ Some x) (λ e. (of byte ≡ None) × (e.0 ≡ byte))

-- how such an error is printed
abbrev pub unnamed_text : Unnamed → List ℕ
unnamed_text e = codes "byte " ++ (decimal e.0 ++ codes " names nothing here")
