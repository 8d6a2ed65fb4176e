-- What a page is refused for: 52 where the lot has more rows than are judged, and what the page and the market tell.
use Rattle.byte_layer.specs.declared.fault.Told.{Told}
use Rattle.byte_layer.specs.Fault.{fault}
use Rattle.lot.specs.Fault.{told_market}
use Rattle.page.specs.Fault.{told_page}
use Rattle.judge.specs.declared.fault.JudgeFault.{JudgeFault}
use Rattle.judge.specs.declared.fault.JudgeFault.TheVariants.{Rows, Page, Market}

abbrev pub told_judge : JudgeFault → Told
told_judge Rows = fault 52 4097
told_judge (Page e) = told_page e
told_judge (Market e) = told_market e
