-- What a row is paid: 40 grains are one cent.
use Rattle.std.specs.Prelude.{ℤ, pos, int_div, int_rem}

-- whole cents, cut off toward zero, and the grains that are left, which have the amount's sign
abbrev pub cents_of : ℤ → ℤ
cents_of amount = int_div amount (pos 40)

abbrev pub rest_of : ℤ → ℤ
rest_of amount = int_rem amount (pos 40)
