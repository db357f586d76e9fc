use Rattle.book.proofs.HandedOut.{chunk_hands_out}
use Rattle.book.proofs.chunk_hands_out.Goals as goal

pub returns : goal.returns
returns c = chunk_hands_out
