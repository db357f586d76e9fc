use Rattle.book.proofs.Counting.{counts_move}
use Rattle.book.proofs.counts_move.Goals as goal

pub returns : goal.returns
returns c = counts_move
