use Rattle.book.proofs.Leaving.{calls_touch}
use Rattle.book.proofs.calls_touch.Goals as goal

pub returns : goal.returns
returns c = calls_touch
