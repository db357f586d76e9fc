use Rattle.book.proofs.Counting.{strings-found}
use Rattle.book.proofs.strings_found.Goals as goal

pub returns : goal.returns
returns c = strings-found
