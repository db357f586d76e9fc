use Rattle.book.proofs.Telling.{told-apart}
use Rattle.book.proofs.told_apart.Goals as goal

pub returns : goal.returns
returns c = told-apart
