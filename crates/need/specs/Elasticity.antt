-- Whether a need is elastic, and its byte in a text.
use Rattle.std.specs.Prelude.{ℕ, zero, suc, List, Some, None, Option, codes}
use Rattle.need.specs.declared.elasticity.Elasticity.{Elasticity}
use Rattle.need.specs.declared.elasticity.Elasticity.TheVariants.{Elastic, Inelastic}

abbrev pub elasticity_byte : Elasticity → ℕ
elasticity_byte Inelastic = 0
elasticity_byte Elastic = 1

abbrev pub elasticity_of : ℕ → Option Elasticity
elasticity_of zero = Some Inelastic
elasticity_of (suc zero) = Some Elastic
elasticity_of (suc (suc n)) = None

-- how it is printed
abbrev pub elasticity_text : Elasticity → List ℕ
elasticity_text Elastic = codes "elastic"
elasticity_text Inelastic = codes "inelastic"
