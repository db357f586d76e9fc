use Rattle.book.proofs.Telling.{opcodes_known}
use Rattle.book.proofs.opcodes_known.Goals as goal

pub returns : goal.returns
returns c = opcodes_known
