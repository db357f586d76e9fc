use Rattle.std.proofs.Common.{Ok}
use Rattle.layout.specs.Reads.{held}
use Rattle.book.specs.Actions.{times}
use Rattle.book.specs.Flush.{set_attribute}
use Rattle.recorder.specs.Strings.{with_strings}
use Rattle.operations.specs.Parts.{HasRow, PairOnly, with_pairs}
use Rattle.interpret.specs.Attributes.{pair_attribute}
use Rattle.interpret.specs.Played.{OnLive}
use Rattle.interpret.proofs.inner.batches.set_pairs.Given as goal

abbrev pub invariant-loop : goal.invariant-loop
invariant-loop g l = record {
  only : PairOnly l.kind l.initial.tables l.tables;
  row : HasRow l.kind l.tables l.found.number;
  played : OnLive g.T.Text.bytes l.found.id l.found.number (times l.counter (set_attribute (pair_attribute l.kind) l.found.id)) (held l.buffer) (λ m. with_strings l.initial.tables.strings.now (with_pairs l.kind l.initial.tables m)) (λ m. with_strings l.tables.strings.now (with_pairs l.kind l.tables m)) l.initial.index l.index (Ok tt);
}
