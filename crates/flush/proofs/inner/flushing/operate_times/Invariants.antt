use Rattle.std.proofs.Common.{Ok}
use Rattle.layout.specs.Reads.{held}
use Rattle.book.specs.Actions.{times}
use Rattle.book.specs.Flush.{operation}
use Rattle.operations.specs.Parts.{SharedKept, lent}
use Rattle.interpret.specs.Played.{Played}
use Rattle.flush.specs.Found.{Cached}
use Rattle.flush.specs.Operation.{Created}
use Rattle.flush.proofs.inner.flushing.operate_times.Given as goal

abbrev pub invariant-loop : goal.invariant-loop
invariant-loop g l = record {
  cached : Cached (g.S.Index.content l.by_id).held l.last;
  shared : SharedKept l.initial.tables l.tables;
  played : Played g.T.Text.bytes (times l.counter operation) (Created (held l.buffer)) (held l.buffer)
      (lent l.initial.tables l.initial.segments l.initial.settings (g.S.Index.content l.initial.by_id) (g.G.Index.content l.initial.by_segment))
      (lent l.tables l.segments l.settings (g.S.Index.content l.by_id) (g.G.Index.content l.by_segment)) l.initial.index l.index (Ok tt);
}
