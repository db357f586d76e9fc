use Rattle.book.specs.Calls.{get_span}
use Rattle.questions.specs.Questions.{OneSpan, live_number}
use Rattle.questions.proofs.Asking.{live_record, turned_off, asked-span}
use Rattle.questions.proofs.get_span.Goals as goal

pub returns-in_err-check_order-clause-answer : goal.returns-in_err-check_order-clause-answer
returns-in_err-check_order-clause-answer g c =
    turned_off g.T.Text.bytes _ (get_span c.args.id) (live_number c.args.id (g.S.Index.content c.args.by_id.now).held) (OneSpan g.T.Text.bytes) c.from_residual.result _ c.from_residual.ensures.1 c.in_err-check_order.ensures

pub returns-clause-answer : goal.returns-clause-answer
returns-clause-answer g c = asked-span g.T.Text.bytes _ c.in_ok-check_order.ensures c.args.id _ (cc)

pub returns-clause-cases : goal.returns-clause-cases
returns-clause-cases g c = live_record _ _ (c.in_ok-check_order.ensures).spans.indexed c.args.id _ (cc)
