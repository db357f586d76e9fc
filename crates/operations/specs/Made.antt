-- What a create takes and leaves: a record for the span, a record for its segment, and what is made of both.
use Rattle.std.specs.Prelude.{◌≡◌, ℕ, ◌+◌, ◌<◌, ◌≤◌, Bool, false, if◌then◌else◌, ◌⊎◌, List, [], length, take, pos, is_some, Some, None, Ok, Err, Result, ◌≢◌, slice_set}
use Rattle.std.specs.List.{slice_get}
use Rattle.vec_map.specs.Tables.{row, OthersStay}
use Rattle.index.specs.declared.entry.Entry.{Entry}
use Rattle.index.specs.Held.{at}
use Rattle.refusals.specs.declared.ChangeBufferError.{ChangeBufferError}
use Rattle.refusals.specs.declared.ChangeBufferError.TheVariants.{NoRecord, NoSegmentRecord}
use Rattle.book.specs.Limits.{most_count, span_text_row}
use Rattle.book.specs.Book.{Text, Field, Writing, blank, latest, texts, numbers}
use Rattle.book.specs.Flush.{make}
use Rattle.tables.specs.declared.span.Mark.TheVariants.{Live}
use Rattle.tables.specs.declared.span.Span.{Span}
use Rattle.tables.specs.declared.segment.Segment.{Segment}
use Rattle.tables.specs.declared.settings.Settings.{Settings}
use Rattle.tables.specs.Store.{Store, free, stands}
use Rattle.tables.specs.InOrder.{InOrder}
use Rattle.tables.specs.Shows.{span_field}
use Rattle.operations.specs.declared.values.Making.{Making}
use Rattle.operations.specs.Done.{Unused, gone, Done}

-- ---- records

-- every record is in use
abbrev pub NoneUnused : {A : Type 0} → (A → Bool) → List A → Type 0
NoneUnused unused xs = (r : ℕ) → Unused unused xs r → ⊥

-- the record for an id: the one that is held for it, or else one in no use
abbrev pub RecordFor : {A : Type 0} → (A → Bool) → List Entry → List A → ℕ → ℕ → Type 0
RecordFor unused es xs id r = (at es id ≡ Some r) ⊎ ((at es id ≡ None) × Unused unused xs r)

abbrev pub NoRecordFor : {A : Type 0} → (A → Bool) → List Entry → List A → ℕ → Type 0
NoRecordFor unused es xs id = (at es id ≡ None) × NoneUnused unused xs

-- the index after a put: the id has the number, and every other id what it had
pub record Puts (old new : List Entry) (id r : ℕ) : Type 0 where
  pub here : at new id ≡ Some r
  pub there : (q : ℕ) → (q ≢ id) → at new q ≡ at old q
  pub many : length new ≡ length old + (if is_some (at old id) then 0 else 1)

-- a new id finds room
abbrev pub Roomy : List Entry → ℕ → ℕ → Type 0
Roomy es room id = at es id ≡ None → length es < room

-- settings that differ at most in the hint
pub record SameSettings {T : Type 0} (old new : Settings T) : Type 0 where
  pub service : new.service ≡ old.service
  pub language : new.language ≡ old.language
  pub pid : new.pid ≡ old.pid
  pub defaults : new.defaults ≡ old.defaults

module _ {T : Type 0} where
  -- the count of the segment in this record can grow
  abbrev pub CanGrow : List (Segment T) → ℕ → Type 0
  CanGrow ys g = (y : Segment T) → slice_get ys g ≡ Some y → y.count < most_count

  abbrev pub SeatFor : List Entry → List (Segment T) → ℕ → ℕ → Type 0
  SeatFor es ys id g = RecordFor gone es ys id g × CanGrow ys g

  abbrev pub NoSeat : List Entry → List (Segment T) → ℕ → Type 0
  NoSeat es ys id =
      NoRecordFor gone es ys id ⊎ ((g : ℕ) × (y : Segment T) × (at es id ≡ Some g) × (slice_get ys g ≡ Some y) × (most_count ≤ y.count))

  -- the place of a span or of a segment with this id, or the refusal
  abbrev pub SpanPlace : List Entry → List (Span T) → ℕ → Result Entry ChangeBufferError → Type 0
  SpanPlace es xs id (Ok p) = (p.id ≡ id) × RecordFor free es xs id p.number
  SpanPlace es xs id (Err e) = (e ≡ NoRecord id) × NoRecordFor free es xs id

  abbrev pub SeatPlace : List Entry → List (Segment T) → ℕ → Result Entry ChangeBufferError → Type 0
  SeatPlace es ys id (Ok p) = (p.id ≡ id) × SeatFor es ys id p.number
  SeatPlace es ys id (Err e) = (e ≡ NoSegmentRecord id) × NoSeat es ys id

  -- ---- what is made

  -- a new span, with so many default pairs; what its operands do not give is zero
  abbrev pub made_span : ℕ → ℕ → Making T → ℕ → Span T
  made_span id segment k n = record {
    mark = Live;
    id = id;
    segment = segment;
    meta = record { count = n; deduped = false };
    metrics = record { count = 0; deduped = false };
    trace = k.trace;
    parent = k.parent;
    start = k.start;
    duration = pos 0;
    error = pos 0;
    service = k.service;
    name = k.name;
    resource = k.resource;
    kind = k.kind;
  }

  -- a new segment, that one creation names
  abbrev pub new_segment : ℕ → Segment T
  new_segment id = record {
    id = id;
    count = 1;
    meta = record { count = 0; deduped = false };
    metrics = record { count = 0; deduped = false };
    origin = None;
    rule = None;
    limit = None;
    agent = None;
  }

  abbrev pub one_counted : Segment T → Segment T
  one_counted y = record
      { id = y.id; count = y.count + 1; meta = y.meta; metrics = y.metrics; origin = y.origin; rule = y.rule; limit = y.limit; agent = y.agent }

  -- a segment that one creation more names
  abbrev pub counted_in : ℕ → Segment T → Segment T
  counted_in id y = if stands y then one_counted y else new_segment id

  -- the span's part of a create
  pub record Makes (xs xs' : List (Span T)) (ms ms' ds : List (T × T)) (s s' : Settings T) (es es' : List Entry) (id segment r : ℕ) (k : Making T) : Type 0 where
    pub spans : xs' ≡ slice_set xs r (made_span id segment k s.defaults)
    pub pairs : take s.defaults (row span_text_row r ms') ≡ take s.defaults ds
    pub others : OthersStay span_text_row r ms ms'
    pub settings : SameSettings s s'
    pub entry : Puts es es' id r

  -- and the segment's
  pub record Enters (ys ys' : List (Segment T)) (es es' : List Entry) (id g : ℕ) : Type 0 where
    pub segments : (y : Segment T) → slice_get ys g ≡ Some y → ys' ≡ slice_set ys g (counted_in id y)
    pub entry : Puts es es' id g

  -- ---- the whole

  -- writings of fields that give what a making gives, and nothing else
  pub record Gives (bytes : T → Text) (k : Making T) (ws : List Writing) : Type 0 where
    pub fields : (f : Field) → span_field bytes (made_span 0 0 k 0) f ≡ latest f (blank f) ws
    pub no_texts : texts ws ≡ []
    pub no_numbers : numbers ws ≡ []

  -- a create by these writings, whatever the memory is beside the parts given; the span with this id alone is made
  abbrev pub Creates : (bytes : T → Text) → ℕ → ℕ → Making T → (before after : Store T → Store T) → Result (Unit {0}) ChangeBufferError → Type 0
  Creates bytes id segment k before after answer =
      (m : Store T) (ws : List Writing) → InOrder (before m) → Gives bytes k ws → Done bytes (make id segment ws) (λ q. q ≡ id) (before m) (after m) answer
