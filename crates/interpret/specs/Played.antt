-- What code over a buffer promises of the tables: the order stays, the book's action over the same bytes ends so in a book that
-- is shown then, and records are kept.
use Rattle.std.specs.Prelude.{◌≡◌, ℕ, List, Some, Ok, Err, Option, Result}
use Rattle.index.specs.Held.{at}
use Rattle.refusals.specs.declared.ChangeBufferError.{ChangeBufferError}
use Rattle.book.specs.Book.{Text}
use Rattle.book.specs.Actions.{Act, ◌>>=◌, times, read}
use Rattle.book.specs.Acts.{Ending, reached, turned_down, Acts}
use Rattle.book.specs.Flush.{Attribute, read_attribute, write_segment, set_attribute}
use Rattle.tables.specs.Store.{Store}
use Rattle.tables.specs.InOrder.{InOrder}
use Rattle.tables.specs.Shows.{Shows}
use Rattle.recorder.specs.Answers.{refusal}
use Rattle.recorder.specs.Strings.{with_strings}
use Rattle.operations.specs.Done.{SpansKept, SegmentsKept, ending, NoneMade}

-- from one offset to another, unless it is refused; spans are made of the ids that Made says
pub record Played {T : Type 0} (bytes : T → Text) (act : Act (Unit {0})) (Made : ℕ → Type 0) (buffer : List ℕ) (m m' : Store T) (from to : ℕ) (answer : Result (Unit {0}) ChangeBufferError) : Type 0 where
  pub order : InOrder m'
  pub acts : Acts act buffer (Shows bytes m) from (Shows bytes m') (ending to answer)
  pub spans_kept : SpansKept Made m m'
  pub segments_kept : SegmentsKept m m'

module _ {T : Type 0} (bytes : T → Text) where
  -- an action for the live span with this id, in the record with this number, whatever the memory is beside the parts given
  abbrev pub OnLive : ℕ → ℕ → Act (Unit {0}) → List ℕ → (before after : Store T → Store T) → (from to : ℕ) → Result (Unit {0}) ChangeBufferError → Type 0
  OnLive id r act buffer before after from to answer =
      (m : Store T) → InOrder (before m) → at m.ids id ≡ Some r → Played bytes act NoneMade buffer (before m) (after m) from to answer

  -- an action, whatever the memory is beside the parts given
  abbrev pub OnAny : Act (Unit {0}) → List ℕ → (before after : Store T → Store T) → (from to : ℕ) → Result (Unit {0}) ChangeBufferError → Type 0
  OnAny act buffer before after from to answer = (m : Store T) → InOrder (before m) → Played bytes act NoneMade buffer (before m) (after m) from to answer

-- what a read answers as the book's ending, its value by what it means
abbrev pub read_ending : {X A : Type 0} → (X → A) → ℕ → Result X ChangeBufferError → Ending A
read_ending value offset (Ok x) = reached offset (value x)
read_ending value offset (Err e) = turned_down (refusal e)

-- a reading action, with strings from this table, whatever the memory is beside it
abbrev pub ReadsAs : {T X A : Type 0} → (T → Text) → Act A → List (Option T) → List ℕ → (from to : ℕ) → (X → A) → Result X ChangeBufferError → Type 0
ReadsAs {T} bytes act strings buffer from to value answer =
    (m : Store T) → Acts act buffer (Shows bytes (with_strings strings m)) from (Shows bytes (with_strings strings m)) (read_ending value to answer)

-- ---- parts of the book's operations

-- one writing to this segment, read and written
unfoldable pub note_attribute : Attribute → ℕ → Act (Unit {0})
note_attribute a segment = read_attribute a >>= (λ w. write_segment segment w)

-- a count, and then as many writings to a live span
unfoldable pub set_counted : Attribute → ℕ → Act (Unit {0})
set_counted a id = read 4 >>= (λ n. times n (set_attribute a id))
