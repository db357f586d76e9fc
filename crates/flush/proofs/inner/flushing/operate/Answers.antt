use Rattle.std.proofs.lemmas.Result.{err_from_is_err_and}
use Rattle.layout.specs.Reads.{held}
use Rattle.operations.specs.Parts.{lent}
use Rattle.flush.proofs.Operating.{operated, unheaded}
use Rattle.flush.proofs.inner.flushing.operate.Goals as goal

pub returns-in_err-head-clause-played : goal.returns-in_err-head-clause-played
returns-in_err-head-clause-played g c =
    let p = err_from_is_err_and c.from_residual.result c.from_residual.ensures.1 in
    rw (p.1, p.2) (unheaded g.T.Text.bytes (held c.args.buffer.now) (lent c.args.tables.now c.args.segments.now c.args.settings.now (g.S.Index.content c.args.by_id.now) (g.G.Index.content c.args.by_segment.now)) c.args.index.now c.from_buf.new.index c.in_err-head.field-0.0 c.requires.order c.in_err-head.ensures.cases)

pub returns-clause-played : goal.returns-clause-played
returns-clause-played g c =
    operated g.T.Text.bytes (held c.args.buffer.now) (lent c.args.tables.now c.args.segments.now c.args.settings.now (g.S.Index.content c.args.by_id.now) (g.G.Index.content c.args.by_segment.now)) c.args.index.now c.from_buf.new.index c.in_ok-head.head c.operation_of-operation.result _ _ _ c.in_ok-head.ensures.cases c.operation_of-operation.ensures
    c.perform.ensures.played
