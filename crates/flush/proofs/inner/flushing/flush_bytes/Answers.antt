use Rattle.std.proofs.Common.{ℕ, List, Ok, Err, subst}
use Rattle.std.proofs.lemmas.Result.{err_from_is_err_and}
use Rattle.book.specs.Flush.{operations}
use Rattle.operations.specs.Parts.{lent}
use Rattle.interpret.specs.Played.{Played}
use Rattle.flush.specs.Operation.{Created}
use Rattle.flush.proofs.Operating.{flushed}
use Rattle.flush.proofs.inner.flushing.flush_bytes.Goals as goal

pub returns-in_err-flush-clause-flushes : goal.returns-in_err-flush-clause-flushes
returns-in_err-flush-clause-flushes g c =
    let p = err_from_is_err_and c.from_residual.result c.from_residual.ensures.1 in
    let before = lent c.args.tables.now c.args.segments.now c.args.settings.now (g.S.Index.content c.args.by_id.now) (g.G.Index.content c.args.by_segment.now) in
    let after = lent c.flush.new.tables c.flush.new.segments c.flush.new.settings (g.S.Index.content c.flush.new.by_id) (g.G.Index.content c.flush.new.by_segment) in
    let answer = Err c.in_err-flush.field-0.0 in
    rw (p.1, p.2) (flushed g.T.Text.bytes c.args.bytes.now before after c.flush.new.index answer
    (subst (λ (z : List ℕ). Played g.T.Text.bytes operations (Created z) z before after 0 c.flush.new.index answer) c.new-buffer.ensures.value c.in_err-flush.ensures.played))

pub returns-clause-flushes : goal.returns-clause-flushes
returns-clause-flushes g c =
    let before = lent c.args.tables.now c.args.segments.now c.args.settings.now (g.S.Index.content c.args.by_id.now) (g.G.Index.content c.args.by_segment.now) in
    let after = lent c.flush.new.tables c.flush.new.segments c.flush.new.settings (g.S.Index.content c.flush.new.by_id) (g.G.Index.content c.flush.new.by_segment) in
    flushed g.T.Text.bytes c.args.bytes.now before after c.flush.new.index (Ok tt)
    (subst (λ (z : List ℕ). Played g.T.Text.bytes operations (Created z) z before after 0 c.flush.new.index (Ok tt)) c.new-buffer.ensures.value c.in_ok-flush.ensures.played)
