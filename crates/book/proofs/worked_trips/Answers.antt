use Rattle.book.proofs.Trips.{worked_trips}
use Rattle.book.proofs.worked_trips.Goals as goal

pub returns : goal.returns
returns c = worked_trips
