use Rattle.std.proofs.Common.{None, sym, refl}
use Rattle.std.proofs.lemmas.List.{set_past}
use Rattle.book.specs.Calls.{string_evict}
use Rattle.recorder.specs.Strings.{written}
use Rattle.recorder.proofs.Performing.{turned-back}
use Rattle.recorder.proofs.Stringing.{evicted}
use Rattle.recorder.proofs.strings.string_table_evict_one.Goals as goal

pub returns-in_err-check_order-clause-call : goal.returns-in_err-check_order-clause-call
returns-in_err-check_order-clause-call g c =
    turned-back g.T.Text.bytes (string_evict c.args.key) (written c.args.key None) _ (λ e. refl)
    c.from_residual.result _ c.from_residual.ensures.1 c.in_err-check_order.ensures

pub returns-then-place-tables-clause-call : goal.returns-then-place-tables-clause-call
returns-then-place-tables-clause-call g c = evicted g.T.Text.bytes _ c.args.key _ c.in_ok-check_order.ensures refl

pub returns-else-place-tables-clause-call : goal.returns-else-place-tables-clause-call
returns-else-place-tables-clause-call g c =
    evicted g.T.Text.bytes _ c.args.key c.args.tables.now.strings.now c.in_ok-check_order.ensures
    (sym (set_past c.args.tables.now.strings.now c.args.key None c.if-place-tables.false))
