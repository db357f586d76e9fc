-- What the questions answer: by the memory alone, and as the plain book's answer.
use Rattle.std.specs.Prelude.{◌≡◌, ℕ, ◌<◌, Bool, if◌then◌else◌, ◌⊎◌, List, length, Some, None, Ok, Err, Option, Result, ◌≢◌}
use Rattle.std.specs.Option.{ok_or}
use Rattle.std.specs.List.{slice_get}
use Rattle.index.specs.declared.entry.Entry.{Entry}
use Rattle.index.specs.Held.{at}
use Rattle.refusals.specs.declared.ChangeBufferError.{ChangeBufferError}
use Rattle.refusals.specs.declared.ChangeBufferError.TheVariants.{OutOfOrder, NotHandedOut, SpanNotFound}
use Rattle.book.specs.Maps.{has, Both}
use Rattle.book.specs.Book.{Text, Book}
use Rattle.book.specs.Book as book
use Rattle.book.specs.Calls.{Call, step}
use Rattle.book.specs.Refusals.{because, out_of_order, one_span, one_segment, three_numbers, Answer, refused, shown}
use Rattle.tables.specs.declared.span.Mark.{Mark}
use Rattle.tables.specs.declared.span.Mark.TheVariants.{Free, Live, HandedOut}
use Rattle.tables.specs.declared.span.Span.{Span}
use Rattle.tables.specs.declared.segment.Segment.{Segment}
use Rattle.tables.specs.Store.{Store, Rowed, tally, only, key_at, live, handed, free, live_key, span_at, segment_at}
use Rattle.tables.specs.InOrder.{InOrder}
use Rattle.tables.specs.Shows.{LikeSpan, LikeSegment, Shows}
use Rattle.recorder.specs.Answers.{refusal}

-- ---- by the memory alone

-- this answer where the tables are in order, and refused with 1 where they are not
abbrev pub Answered : {T A : Type 0} → Result A ChangeBufferError → Store T → Result A ChangeBufferError → Type 0
Answered this m r = (InOrder m × (r ≡ this)) ⊎ ((InOrder m → ⊥) × (r ≡ Err OutOfOrder))

-- the number at which the index holds the id of a span; refused with 7 where it does not
abbrev pub live_number : ℕ → List Entry → Result ℕ ChangeBufferError
live_number id es = ok_or (at es id) (SpanNotFound id)

-- the number of the record in use under an id, none where there is none
abbrev pub RecordOf : {A : Type 0} → (A → Option ℕ) → List A → ℕ → Option ℕ → Type 0
RecordOf key xs id (Some n) = (n < length xs) × (key_at key xs n ≡ Some id)
RecordOf key xs id None = (n : ℕ) → key_at key xs n ≢ Some id

-- the number of the live record with an id; refused with 7 only where there is none
abbrev pub LiveRecord : {T : Type 0} → List (Span T) → ℕ → Result ℕ ChangeBufferError → Type 0
LiveRecord xs id (Ok n) = RecordOf live_key xs id (Some n)
LiveRecord xs id (Err e) = e ≡ SpanNotFound id → RecordOf live_key xs id None

-- three numbers of records: live, handed out and free
abbrev pub Three : Type 0
Three = ℕ × ℕ × ℕ

module _ {T : Type 0} where
  -- is the record with a number marked handed out? None is past the last
  abbrev pub handed_at : List (Span T) → ℕ → Bool
  handed_at xs n = has (only handed (slice_get xs n))

  -- accepted where that record is marked handed out, and refused with 5 where it is not
  abbrev pub handed_number : ℕ → List (Span T) → Result (Unit {0}) ChangeBufferError
  handed_number n xs = if handed_at xs n then Ok tt else Err (NotHandedOut n)

  -- does a record have this mark?
  abbrev pub marked : Mark → Span T → Bool
  marked Live x = live x
  marked HandedOut x = handed x
  marked Free x = free x

  -- how many records are marked live, handed out and free
  abbrev pub tallies : List (Span T) → Three
  tallies xs = (tally live xs, tally handed xs, tally free xs)

-- ---- as the plain book's answer

-- a refusal is the book's refusal, and what is answered means the book's answer
abbrev pub Told : {A : Type 0} → (A → Answer → Type 0) → Result A ChangeBufferError → Answer → Type 0
Told Means (Ok x) a = Means x a
Told Means (Err e) a = a ≡ refused (refusal e)

-- what every question promises: refused with 1 where the tables are not in order, and what the plain book says otherwise; the memory stays as it is
pub record Asks {T A : Type 0} (bytes : T → Text) (call : Call) (Means : Store T → A → Answer → Type 0) (m : Store T) (r : Result A ChangeBufferError) : Type 0 where
  pub untouched : (InOrder m → ⊥) → Told (Means m) r (refused (because out_of_order))
  pub shows : (b : Book) → Shows bytes m b → Shows bytes m (step call b).0 × Told (Means m) r (step call b).1

-- both: this answer by the memory, and the book's
pub record Answers {T A : Type 0} (bytes : T → Text) (asks : Call) (this : Result A ChangeBufferError) (Means : Store T → A → Answer → Type 0) (m : Store T) (r : Result A ChangeBufferError) : Type 0 where
  pub value : Answered this m r
  pub call : Asks bytes asks Means m r

module _ {T : Type 0} (bytes : T → Text) where
  -- record n with its pairs shows a span of the book, or a segment
  abbrev pub SpanIn : Store T → ℕ → book.Span → Type 0
  SpanIn m n s = (c : Rowed (Span T) T) × (span_at m.spans m.span_meta m.span_metrics n ≡ Some c) × LikeSpan bytes c s

  abbrev pub SegmentIn : Store T → ℕ → book.Segment → Type 0
  SegmentIn m n g = (c : Rowed (Segment T) T) × (segment_at m.segments m.segment_meta m.segment_metrics n ≡ Some c) × LikeSegment bytes c g

  -- the number of a record that shows the book's span
  abbrev pub OneSpan : Store T → ℕ → Answer → Type 0
  OneSpan m n a = (s : book.Span) × (a ≡ shown (one_span s)) × SpanIn m n s

  -- the number of a record that shows the book's segment, or none where the book has none
  abbrev pub OneSegment : Store T → Option ℕ → Answer → Type 0
  OneSegment m n a = (g : Option book.Segment) × (a ≡ shown (one_segment g)) × Both (SegmentIn m) n g

-- the book's three numbers
abbrev pub ThreeNumbers : {T : Type 0} → Store T → Three → Answer → Type 0
ThreeNumbers m n a = a ≡ shown (three_numbers (record { live = n.0; handed = n.1; free = n.2 }))
