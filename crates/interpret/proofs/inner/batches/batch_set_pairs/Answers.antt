use Rattle.std.proofs.lemmas.Result.{err_from_is_err_and}
use Rattle.layout.specs.Reads.{held}
use Rattle.interpret.specs.Attributes.{pair_attribute}
use Rattle.interpret.proofs.Playing.{count-unread, count_done}
use Rattle.interpret.proofs.Following.{only_start}
use Rattle.interpret.proofs.inner.batches.batch_set_pairs.Goals as goal

pub returns-in_err-count-clause-played : goal.returns-in_err-count-clause-played
returns-in_err-count-clause-played g c =
    let p = err_from_is_err_and c.from_residual.result c.from_residual.ensures.1 in
    rw (p.1, p.2) (λ m o own.
    count-unread g.T.Text.bytes (held c.args.buffer.now) _ c.args.index.now (pair_attribute c.args.kind) c.args.found.id c.read.new.index c.in_err-count.field-0.0 o c.in_err-count.ensures.cases)

pub returns-clause-played : goal.returns-clause-played
returns-clause-played g c = λ m o own.
    count_done g.T.Text.bytes (held c.args.buffer.now) _ c.args.index.now (pair_attribute c.args.kind) c.args.found.id c.in_ok-count.count c.read.new.index c.set_pairs.new.index _ _ c.in_ok-count.ensures.cases
    (c.set_pairs.ensures.played m o own)

pub returns-in_err-count-clause-only : goal.returns-in_err-count-clause-only
returns-in_err-count-clause-only g c = only_start c.args.kind _
