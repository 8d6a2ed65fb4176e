-- The bytes of a statement: a line for each row, 13 bytes, and a closing line of the totals, 17 bytes.
use Rattle.std.specs.Prelude.{ℕ, List, [], ◌∷◌, ◌++◌}
use Rattle.byte_layer.specs.Number.{signed_octets}
use Rattle.settle.specs.declared.payment.Payment.{Payment}
use Rattle.settle.specs.declared.statement.Totals.{Totals}

unfoldable pub line : Payment → List ℕ
line p = (0x59 ∷ []) ++ (signed_octets 8 p.cents ++ signed_octets 4 p.rest)

unfoldable pub closing : Totals → List ℕ
closing s = (0x57 ∷ []) ++ (signed_octets 8 s.cents ++ signed_octets 8 s.rest)
