use Rattle.book.proofs.Running.{runs_keep}
use Rattle.book.proofs.runs_keep.Goals as goal

pub returns : goal.returns
returns c = runs_keep
