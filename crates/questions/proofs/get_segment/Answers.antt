use Rattle.std.proofs.Common.{Ok}
use Rattle.index.specs.Held.{at}
use Rattle.book.specs.Calls.{get_segment}
use Rattle.tables.specs.Store.{standing_key}
use Rattle.questions.specs.Questions.{OneSegment}
use Rattle.questions.proofs.Asking.{record_of, turned_off, asked-segment}
use Rattle.questions.proofs.get_segment.Goals as goal

pub returns-in_err-check_order-clause-answer : goal.returns-in_err-check_order-clause-answer
returns-in_err-check_order-clause-answer g c =
    turned_off g.T.Text.bytes _ (get_segment c.args.id) (Ok (at (g.G.Index.content c.args.by_segment.now).held c.args.id)) (OneSegment g.T.Text.bytes) c.from_residual.result _ c.from_residual.ensures.1 c.in_err-check_order.ensures

pub returns-clause-answer : goal.returns-clause-answer
returns-clause-answer g c = asked-segment g.T.Text.bytes _ c.in_ok-check_order.ensures c.args.id c.find.result c.find.ensures

pub returns-clause-cases : goal.returns-clause-cases
returns-clause-cases g c = record_of standing_key _ _ (c.in_ok-check_order.ensures).segments.indexed c.args.id c.find.result c.find.ensures
