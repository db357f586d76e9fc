use Rattle.std.proofs.Common.{Ok, ◌∙◌}
use Rattle.book.specs.Calls.{get_numbers}
use Rattle.questions.specs.Questions.{ThreeNumbers, tallies}
use Rattle.questions.proofs.Asking.{three-sum, turned_off, asked-numbers}
use Rattle.questions.proofs.Tallies.{live-tally}
use Rattle.questions.proofs.get_numbers.Goals as goal

pub count_marks-requires : goal.count_marks-requires
count_marks-requires g c =
    c.count.ensures ∙ live-tally _ _ (g.met.S.Index.once c.args.by_id.now) c.in_ok-check_order.ensures.spans.indexed

pub returns-in_err-check_order-clause-answer : goal.returns-in_err-check_order-clause-answer
returns-in_err-check_order-clause-answer g c =
    turned_off g.T.Text.bytes _ get_numbers (Ok (tallies c.args.tables.now.spans.now)) ThreeNumbers c.from_residual.result _ c.from_residual.ensures.1 c.in_err-check_order.ensures

pub returns-clause-answer : goal.returns-clause-answer
returns-clause-answer g c = asked-numbers g.T.Text.bytes _ c.in_ok-check_order.ensures (g.met.S.Index.once c.args.by_id.now) c.count_marks.result c.count_marks.ensures

pub returns-clause-len : goal.returns-clause-len
returns-clause-len g c = three-sum _ c.count_marks.result c.count_marks.ensures
