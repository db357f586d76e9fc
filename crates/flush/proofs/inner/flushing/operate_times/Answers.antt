use Rattle.std.proofs.Common.{◌≡◌, ℕ, suc, ◌+◌, ◌-◌, Ok, subst, arith}
use Rattle.std.proofs.lemmas.Result.{err_from_is_err_and}
use Rattle.layout.specs.Reads.{held}
use Rattle.book.specs.Actions.{times}
use Rattle.book.specs.Flush.{operation}
use Rattle.operations.specs.Parts.{lent}
use Rattle.interpret.specs.Played.{Played}
use Rattle.interpret.proofs.Following.{played_start, played_more, played_turned}
use Rattle.flush.specs.Operation.{Created}
use Rattle.flush.proofs.Operating.{kept_start, kept_then}
use Rattle.flush.proofs.inner.flushing.operate_times.Goals as goal

pub loop-init : goal.loop-init
loop-init g c = record { cached = tt; shared = kept_start _; played = played_start g.T.Text.bytes operation (held c.args.buffer.now) (Created (held c.args.buffer.now)) (lent c.args.tables.now c.args.segments.now c.args.settings.now (g.S.Index.content c.args.by_id.now) (g.G.Index.content c.args.by_segment.now)) c.args.index.now c.requires.order }

pub returns-in_err-operate : goal.returns-in_err-operate
returns-in_err-operate g c =
    let p = err_from_is_err_and c.from_residual.result c.from_residual.ensures.1 in
    let b = held c.args.buffer.now in
    let n = c.loop.counter in
    let same : n + suc (c.args.count - suc n) ≡ c.args.count = omega arith in
    rw (p.1, p.2) (record {
      shared = kept_then c.args.tables.now c.loop.tables c.operate.new.tables c.loop.invariant.shared c.operate.ensures.shared;
      played =
          played_turned g.T.Text.bytes operation b (Created b) (lent c.args.tables.now c.args.segments.now c.args.settings.now (g.S.Index.content c.args.by_id.now) (g.G.Index.content c.args.by_segment.now)) c.args.index.now (Created b) (λ id e. e) (lent c.loop.tables c.loop.segments c.loop.settings (g.S.Index.content c.loop.by_id) (g.G.Index.content c.loop.by_segment)) _ n c.loop.index c.operate.new.index c.loop.invariant.played
          (c.args.count - suc n) c.args.count c.in_err-operate.field-0.0 same c.in_err-operate.ensures.played;
    })

pub loop-preserved : goal.loop-preserved
loop-preserved g c =
    let b = held c.args.buffer.now in record {
      cached = c.operate.ensures.cached;
      shared = kept_then c.args.tables.now c.loop.tables c.operate.new.tables c.loop.invariant.shared c.operate.ensures.shared;
      played = played_more g.T.Text.bytes operation b (Created b) (lent c.args.tables.now c.args.segments.now c.args.settings.now (g.S.Index.content c.args.by_id.now) (g.G.Index.content c.args.by_segment.now)) c.args.index.now (Created b) (λ id e. e) (lent c.loop.tables c.loop.segments c.loop.settings (g.S.Index.content c.loop.by_id) (g.G.Index.content c.loop.by_segment)) _ c.loop.counter c.loop.index c.operate.new.index c.loop.invariant.played
          c.in_ok-operate.ensures.played;
    }

pub returns : goal.returns
returns g c =
    let b = held c.args.buffer.now in
    let same : c.loop.counter ≡ c.args.count = omega arith in
    record { shared = c.loop.invariant.shared; played = subst (λ (k : ℕ). Played g.T.Text.bytes (times k operation) (Created b) b (lent c.args.tables.now c.args.segments.now c.args.settings.now (g.S.Index.content c.args.by_id.now) (g.G.Index.content c.args.by_segment.now)) (lent c.loop.tables c.loop.segments c.loop.settings (g.S.Index.content c.loop.by_id) (g.G.Index.content c.loop.by_segment)) c.args.index.now c.loop.index (Ok tt)) same c.loop.invariant.played }
