use Rattle.std.proofs.Common.{map, refl}
use Rattle.book.specs.Calls.{default_meta}
use Rattle.tables.specs.Shows.{text_pair}
use Rattle.recorder.specs.Defaults.{replaced}
use Rattle.recorder.proofs.Performing.{turned-back}
use Rattle.recorder.proofs.Defaulting.{replacing}
use Rattle.recorder.proofs.defaults.set_default_meta.Goals as goal

pub returns-in_err-check_order-clause-call : goal.returns-in_err-check_order-clause-call
returns-in_err-check_order-clause-call g c =
    turned-back g.T.Text.bytes (default_meta (map (text_pair g.T.Text.bytes) c.args.pairs.now)) (replaced c.args.pairs.now) _ (λ e. refl)
    c.from_residual.result _ c.from_residual.ensures.1 c.in_err-check_order.ensures

pub returns-clause-call : goal.returns-clause-call
returns-clause-call g c =
    replacing g.T.Text.bytes _ c.args.pairs.now c.replace.new.defaults c.replace.new.settings c.replace.result c.in_ok-check_order.ensures c.replace.ensures
