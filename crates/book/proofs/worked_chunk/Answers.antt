use Rattle.book.proofs.Trips.{worked_chunk}
use Rattle.book.proofs.worked_chunk.Goals as goal

pub returns : goal.returns
returns c = worked_chunk
