use Rattle.book.proofs.Trips.{worked_cut}
use Rattle.book.proofs.worked_cut.Goals as goal

pub returns : goal.returns
returns c = worked_cut
