-- What a clearing breaks in the market: 41 where its cells are not admitted, 42 where a net is not zero, 43 where the
-- price rule is broken. The place of 41 and 43 is a row, that of 42 is 4 × area + quarter.
use Rattle.byte_layer.specs.declared.fault.Told.{Told}
use Rattle.byte_layer.specs.Fault.{fault}
use Rattle.lot.specs.declared.fault.MarketFault.{MarketFault}
use Rattle.lot.specs.declared.fault.MarketFault.TheVariants.{Refused, Unbalanced, Broken}

abbrev pub told_market : MarketFault → Told
told_market (Refused row) = fault 41 row
told_market (Unbalanced place) = fault 42 place
told_market (Broken row) = fault 43 row
