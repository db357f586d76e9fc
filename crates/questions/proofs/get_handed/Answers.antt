use Rattle.std.proofs.Common.{sym}
use Rattle.std.proofs.lemmas.Bool.{cond-true}
use Rattle.book.specs.Calls.{get_handed}
use Rattle.questions.specs.Questions.{OneSpan, handed_number}
use Rattle.questions.proofs.Asking.{handed-within, turned_off, asked-handed}
use Rattle.questions.proofs.get_handed.Goals as goal

pub returns-in_err-check_order-clause-answer : goal.returns-in_err-check_order-clause-answer
returns-in_err-check_order-clause-answer g c =
    turned_off g.T.Text.bytes _ (get_handed c.args.number) (handed_number c.args.number c.args.tables.now.spans.now) (λ m _. OneSpan g.T.Text.bytes m c.args.number) c.from_residual.result _ c.from_residual.ensures.1 c.in_err-check_order.ensures

pub returns-then-is_handed_out-clause-answer : goal.returns-then-is_handed_out-clause-answer
returns-then-is_handed_out-clause-answer g c = asked-handed g.T.Text.bytes _ c.in_ok-check_order.ensures c.args.number _ (sym (cond-true _ _ _ (sym c.if-is_handed_out.ensures)))

pub returns-then-is_handed_out-clause-within : goal.returns-then-is_handed_out-clause-within
returns-then-is_handed_out-clause-within g c = handed-within c.args.number c.args.tables.now.spans.now (sym c.if-is_handed_out.ensures)
