use Rattle.std.proofs.Common.{ℕ, subst}
use Rattle.std.proofs.lemmas.Nat.{and_mask}
use Rattle.std.proofs.lemmas.Result.{err_from_is_err_and}
use Rattle.layout.specs.Reads.{held}
use Rattle.book.specs.Actions.{times}
use Rattle.book.specs.Flush.{operation}
use Rattle.operations.specs.Parts.{lent}
use Rattle.interpret.specs.Played.{Played}
use Rattle.flush.specs.Operation.{Created}
use Rattle.flush.proofs.Operating.{uncounted, counted}
use Rattle.flush.proofs.inner.flushing.flush.Goals as goal

pub returns-in_err-count-clause-played : goal.returns-in_err-count-clause-played
returns-in_err-count-clause-played g c =
    let p = err_from_is_err_and c.from_residual.result c.from_residual.ensures.1 in
    rw (p.1, p.2) (uncounted g.T.Text.bytes (held c.args.buffer.now) (lent c.args.tables.now c.args.segments.now c.args.settings.now (g.S.Index.content c.args.by_id.now) (g.G.Index.content c.args.by_segment.now)) c.args.index.now c.read.new.index c.in_err-count.field-0.0 c.requires.order c.in_err-count.ensures.cases)

pub returns-clause-played : goal.returns-clause-played
returns-clause-played g c =
    let b = held c.args.buffer.now in
    let m = lent c.args.tables.now c.args.segments.now c.args.settings.now (g.S.Index.content c.args.by_id.now) (g.G.Index.content c.args.by_segment.now) in
    let n = c.operate_times.new in
    let m' = lent n.tables n.segments n.settings (g.S.Index.content n.by_id) (g.G.Index.content n.by_segment) in
    let count = c.in_ok-count.count in
    counted g.T.Text.bytes b m c.args.index.now c.read.new.index count m' n.index c.operate_times.result c.in_ok-count.ensures.cases
    (subst (λ (k : ℕ). Played g.T.Text.bytes (times k operation) (Created b) b m m' c.read.new.index n.index c.operate_times.result) (and_mask count 32) c.operate_times.ensures.played)
