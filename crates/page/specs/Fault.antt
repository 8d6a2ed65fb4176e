-- What a page itself has wrong: 31 where its shape is another, at an offset, 32 where a price is beyond the cap, at
-- 4 × area + quarter.
use Rattle.byte_layer.specs.declared.fault.Told.{Told}
use Rattle.byte_layer.specs.Fault.{fault}
use Rattle.page.specs.declared.fault.PageFault.{PageFault}
use Rattle.page.specs.declared.fault.PageFault.TheVariants.{Shape, Price}

abbrev pub told_page : PageFault → Told
told_page (Shape offset) = fault 31 offset
told_page (Price place) = fault 32 place
