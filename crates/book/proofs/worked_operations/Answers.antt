use Rattle.book.proofs.Trips.{worked_operations}
use Rattle.book.proofs.worked_operations.Goals as goal

pub returns : goal.returns
returns c = worked_operations
