-- What every call promises: refused with 1 and nothing changed where the tables are not in order, and what the plain book says otherwise.
use Rattle.std.specs.Prelude.{◌≡◌}
use Rattle.book.specs.Book.{Text, Book}
use Rattle.book.specs.Calls.{Call, step}
use Rattle.book.specs.Refusals.{because, out_of_order, Answer, refused}
use Rattle.tables.specs.Store.{Store}
use Rattle.tables.specs.InOrder.{InOrder}
use Rattle.tables.specs.Shows.{Shows}

pub record Performs {T : Type 0} (bytes : T → Text) (call : Call) (before after : Store T) (answer : Answer) : Type 0 where
  pub untouched : (InOrder before → ⊥) → (answer ≡ refused (because out_of_order)) × (after ≡ before)
  pub shows : (b : Book) → Shows bytes before b → Shows bytes after (step call b).0 × (answer ≡ (step call b).1)

-- and of a call that says what all memory is afterwards, as a function of the memory before
pub record Changes {T : Type 0} (bytes : T → Text) (does : Call) (by : Store T → Store T) (old new : Store T) (answer : Answer) : Type 0 where
  pub call : Performs bytes does old new answer
  pub after : new ≡ by old
