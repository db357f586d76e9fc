-- What a flush of a buffer's bytes promises of tables in order.
use Rattle.std.specs.Prelude.{◌≡◌, ℕ, List}
use Rattle.book.specs.Book.{Text, Book}
use Rattle.book.specs.Calls.{change_buffer}
use Rattle.book.specs.Flush.{flush}
use Rattle.book.specs.Refusals.{Answer}
use Rattle.tables.specs.Store.{Store}
use Rattle.tables.specs.InOrder.{InOrder}
use Rattle.tables.specs.Shows.{Shows}
use Rattle.recorder.specs.Performs.{Performs}
use Rattle.operations.specs.Done.{SpansKept, SegmentsKept}
use Rattle.flush.specs.Operation.{Created}

pub record Flushes {T : Type 0} (bytes : T → Text) (buffer : List ℕ) (before after : Store T) (answer : Answer) : Type 0 where
  pub order : InOrder after
  pub shows : (b : Book) → Shows bytes before b → Shows bytes after (flush b buffer).0 × (answer ≡ (flush b buffer).1)
  pub spans_kept : SpansKept (Created buffer) before after
  pub segments_kept : SegmentsKept before after

-- and of the call: what every call promises, that the tables stay in order, and that records are kept
pub record FlushesAll {T : Type 0} (bytes : T → Text) (buffer : List ℕ) (before after : Store T) (answer : Answer) : Type 0 where
  pub call : Performs bytes (change_buffer buffer) before after answer
  pub order : InOrder before → InOrder after
  pub spans : SpansKept (Created buffer) before after
  pub segments : SegmentsKept before after
