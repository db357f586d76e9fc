use Rattle.std.proofs.Common.{Some, refl}
use Rattle.book.specs.Calls.{string_insert}
use Rattle.recorder.specs.Strings.{written}
use Rattle.recorder.proofs.Performing.{turned-back}
use Rattle.recorder.proofs.Stringing.{inserted, beyond}
use Rattle.recorder.proofs.strings.string_table_insert_one.Goals as goal

pub returns-in_err-check_order-clause-call : goal.returns-in_err-check_order-clause-call
returns-in_err-check_order-clause-call g c =
    turned-back g.T.Text.bytes (string_insert c.args.key (g.T.Text.bytes c.args.val)) (written c.args.key (Some c.args.val)) _ (λ e. refl)
    c.from_residual.result _ c.from_residual.ensures.1 c.in_err-check_order.ensures

pub returns-then-place-tables-clause-call : goal.returns-then-place-tables-clause-call
returns-then-place-tables-clause-call g c = beyond g.T.Text.bytes _ c.args.key c.args.val c.in_ok-check_order.ensures c.if-place-tables.true

pub returns-clause-call : goal.returns-clause-call
returns-clause-call g c = inserted g.T.Text.bytes _ c.args.key c.args.val c.in_ok-check_order.ensures c.if-place-tables.false
