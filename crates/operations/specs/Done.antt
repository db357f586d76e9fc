-- What every operation promises: the order stays, the book's action ends so in a book that is shown then, records are kept,
-- and a row's mark moves only where a pair is inserted or the record is made.
use Rattle.std.specs.Prelude.{◌≡◌, ℕ, ◌<◌, Bool, true, false, not, ◌⊎◌, List, length, Some, None, Ok, Err, Result}
use Rattle.std.specs.List.{slice_get}
use Rattle.vec_map.specs.declared.head.Head.{Head}
use Rattle.index.specs.declared.entry.Entry.{Entry}
use Rattle.index.specs.Held.{at}
use Rattle.refusals.specs.declared.ChangeBufferError.{ChangeBufferError}
use Rattle.book.specs.Book.{Text, Writing}
use Rattle.book.specs.Actions.{Act}
use Rattle.book.specs.Acts.{Ending, reached, turned_down, Acts}
use Rattle.book.specs.Flush.{write_span, write_segment}
use Rattle.tables.specs.declared.segment.Segment.{Segment}
use Rattle.tables.specs.Store.{Store, free, stands}
use Rattle.tables.specs.InOrder.{InOrder}
use Rattle.tables.specs.Shows.{Shows}
use Rattle.recorder.specs.Answers.{refusal}
use Rattle.operations.specs.declared.inner.flush_tables.FlushTables.{FlushTables}
use Rattle.operations.specs.declared.values.PairKind.{PairKind}
use Rattle.operations.specs.Parts.{HasSegmentRow}

-- ---- records and the marks of their rows

-- the record with a number is there and in no use
pub record Unused {A : Type 0} (unused : A → Bool) (xs : List A) (r : ℕ) : Type 0 where
  pub found : A
  pub is : slice_get xs r ≡ Some found
  pub idle : unused found ≡ true

-- a row's head is as it was, or the row grew and its mark is clear
abbrev pub RowMoved : Head → Head → Type 0
RowMoved old new = (new ≡ old) ⊎ ((old.count < new.count) × (new.deduped ≡ false))

-- the same of both rows of record r; or it is held for an id whose making is said, and both marks are clear
abbrev pub RowsMoved : (Made : ℕ → Type 0) → List Entry → ℕ → (texts numbers texts' numbers' : Head) → Type 0
RowsMoved Made es r t n t' n' =
    (RowMoved t t' × RowMoved n n') ⊎ ((id : ℕ) × (at es id ≡ Some r) × Made id × (t'.deduped ≡ false) × (n'.deduped ≡ false))

-- the table is as long, every id keeps its record, a new one has a record that was in no use, none falls out of use, and what
-- becomes of the marks
pub record RecordsKept {A : Type 0} (unused : A → Bool) (meta metrics : A → Head) (Made : ℕ → Type 0) (xs xs' : List A) (es es' : List Entry) : Type 0 where
  pub long : length xs' ≡ length xs
  pub stays : (id r : ℕ) → at es id ≡ Some r → at es' id ≡ Some r
  pub fresh : (id r : ℕ) → at es id ≡ None → at es' id ≡ Some r → Unused unused xs r
  pub used : (r : ℕ) → Unused unused xs' r → Unused unused xs r
  pub marks : (r : ℕ) (x x' : A) → slice_get xs r ≡ Some x → slice_get xs' r ≡ Some x' → RowsMoved Made es' r (meta x) (metrics x) (meta x') (metrics x')

module _ {T : Type 0} where
  -- no segment stands in the record
  abbrev pub gone : Segment T → Bool
  gone y = not (stands y)

  abbrev pub SpansKept : (Made : ℕ → Type 0) → Store T → Store T → Type 0
  SpansKept Made m m' = RecordsKept free (λ x. x.meta) (λ x. x.metrics) Made m.spans m'.spans m.ids m'.ids

  -- a segment is made where none stood
  abbrev pub SegmentsKept : Store T → Store T → Type 0
  SegmentsKept m m' = RecordsKept gone (λ y. y.meta) (λ y. y.metrics) (λ id. at m.seats id ≡ None) m.segments m'.segments m.seats m'.seats

-- ---- an operation

-- an answer as the book's ending, with every operand read
abbrev pub ending : ℕ → Result (Unit {0}) ChangeBufferError → Ending (Unit {0})
ending offset (Ok x) = reached offset tt
ending offset (Err e) = turned_down (refusal e)

-- spans are made of the ids that Made says
pub record Done {T : Type 0} (bytes : T → Text) (act : Act (Unit {0})) (Made : ℕ → Type 0) (m m' : Store T) (answer : Result (Unit {0}) ChangeBufferError) : Type 0 where
  pub order : InOrder m'
  pub plays : (buffer : List ℕ) (offset : ℕ) → Acts act buffer (Shows bytes m) offset (Shows bytes m') (ending offset answer)
  pub spans_kept : SpansKept Made m m'
  pub segments_kept : SegmentsKept m m'

-- no span is made
abbrev pub NoneMade : ℕ → Type 0
NoneMade id = ⊥

module _ {T : Type 0} (bytes : T → Text) where
  -- a writing to the live span with this id, in the record with this number, whatever the memory is beside the parts given
  abbrev pub OnSpanHeld : ℕ → ℕ → Writing → (before after : Store T → Store T) → Result (Unit {0}) ChangeBufferError → Type 0
  OnSpanHeld id r w before after answer =
      (m : Store T) → InOrder (before m) → at m.ids id ≡ Some r → Done bytes (write_span id w) NoneMade (before m) (after m) answer

  -- a writing to the segment with this id, that stands in the record with this number
  abbrev pub OnSeat : ℕ → ℕ → Writing → (before after : Store T → Store T) → Result (Unit {0}) ChangeBufferError → Type 0
  OnSeat id g w before after answer =
      (m : Store T) → InOrder (before m) → at m.seats id ≡ Some g → Done bytes (write_segment id w) NoneMade (before m) (after m) answer

  -- a writing to the segment with this id, if it stands
  abbrev pub OnSegmentIfStanding : ℕ → Writing → (before after : Store T → Store T) → Result (Unit {0}) ChangeBufferError → Type 0
  OnSegmentIfStanding id w before after answer = (m : Store T) → InOrder (before m) → Done bytes (write_segment id w) NoneMade (before m) (after m) answer

-- every id is held for a record below n
abbrev pub HeldWithin : List Entry → ℕ → Type 0
HeldWithin es n = (id r : ℕ) → at es id ≡ Some r → r < n

-- every id of a segment is held for one of the records, and its row for pairs of this kind is there
abbrev pub SegmentRows : {T : Type 0} → PairKind → FlushTables T → List (Segment T) → List Entry → Type 0
SegmentRows kind t ys es = (id r : ℕ) → at es id ≡ Some r → HasSegmentRow kind t ys r
