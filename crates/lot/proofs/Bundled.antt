-- The five laws of a lot as one record.
use Rattle.lot.specs.Duties.{Duties}
use Rattle.lot.specs.declared.lot.Lot.{Ghosts}

pub duties_of : {A : Type 0} (l : Ghosts A) (x : A) → Duties (l.meaning x)
duties_of l x = record { idle = l.idle x; greatest = l.greatest x; settled = l.settled x; unharmed = l.unharmed x; limited = l.limited x }
