use Rattle.book.proofs.Leaving.{refusals_leave}
use Rattle.book.proofs.refusals_leave.Goals as goal

pub returns : goal.returns
returns c = refusals_leave
