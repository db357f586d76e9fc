use Rattle.book.proofs.HandedOut.{returns_drop}
use Rattle.book.proofs.returns_drop.Goals as goal

pub returns : goal.returns
returns c = returns_drop
