-- What the memory of a recorder shows of the plain book.
use Rattle.std.specs.Prelude.{◌≡◌, ℕ, ◌+◌, ◌*◌, ◌^◌, List, [], map, length, take, pos, Some, None, Option, Float}
use Rattle.std.specs.List.{slice_get}
use Rattle.index.specs.Held.{at}
use Rattle.book.specs.Maps.{Map, find, Distinct, Both}
use Rattle.book.specs.Book.{Text, Field, trace, parent, service, name, resource, type, start, duration, error, origin, rule, limit, agent, Value, nothing, text, word, int, float, bits_of, texts, numbers, shows, span_texts, span_numbers, segment_shows, count, Setup, Book}
use Rattle.book.specs.Book as book
use Rattle.tables.specs.declared.span.Span.{Span}
use Rattle.tables.specs.declared.segment.Segment.{Segment}
use Rattle.tables.specs.Store.{Store, Rowed, only, chained, tally, handed, span_at, segment_at}
use Rattle.tables.specs.InOrder.{InOrder}

-- records, each at most once, against a map of the book
pub record Shown {C V : Type 0} (Like : C → V → Type 0) (view : ℕ → Option C) (n : ℕ) (m : Map V) : Type 0 where
  pub each : (k : ℕ) → Both Like (view k) (find k m)
  pub counted : n ≡ length m
  pub once : Distinct m

module _ {T : Type 0} where
  -- a span by its live id, a handed-out one by its record's number, a standing segment by its id
  abbrev pub live_view : Store T → ℕ → Option (Rowed (Span T) T)
  live_view m id = chained (span_at m.spans m.span_meta m.span_metrics) (at m.ids id)

  abbrev pub handed_view : Store T → ℕ → Option (Rowed (Span T) T)
  handed_view m r = only (λ c. handed c.head) (span_at m.spans m.span_meta m.span_metrics r)

  abbrev pub segment_view : Store T → ℕ → Option (Rowed (Segment T) T)
  segment_view m id = chained (segment_at m.segments m.segment_meta m.segment_metrics) (at m.seats id)

module _ {T : Type 0} (bytes : T → Text) where
  -- pairs by their meaning
  abbrev pub text_pair : T × T → Text × Text
  text_pair p = (bytes p.0, bytes p.1)

  abbrev pub number_pair : T × ℕ → Text × ℕ
  number_pair p = (bytes p.0, p.1)

  -- a span record's fields by their meaning; a trace id is the number of both words
  abbrev pub span_field : Span T → Field → Value
  span_field x trace = word (x.trace.low + 2 ^ 64 * x.trace.high)
  span_field x parent = word x.parent
  span_field x service = text (bytes x.service)
  span_field x name = text (bytes x.name)
  span_field x resource = text (bytes x.resource)
  span_field x type = text (bytes x.kind)
  span_field x start = int x.start
  span_field x duration = int x.duration
  span_field x error = int x.error
  span_field x origin = nothing
  span_field x rule = nothing
  span_field x limit = nothing
  span_field x agent = nothing

  abbrev pub text_or_nothing : Option T → Value
  text_or_nothing None = nothing
  text_or_nothing (Some t) = text (bytes t)

  abbrev pub float_or_nothing : Option Float → Value
  float_or_nothing None = nothing
  float_or_nothing (Some x) = float (bits_of x)

  -- and a segment record's
  abbrev pub segment_field : Segment T → Field → Value
  segment_field x trace = word 0
  segment_field x parent = word 0
  segment_field x service = text []
  segment_field x name = text []
  segment_field x resource = text []
  segment_field x type = text []
  segment_field x start = int (pos 0)
  segment_field x duration = int (pos 0)
  segment_field x error = int (pos 0)
  segment_field x origin = text_or_nothing x.origin
  segment_field x rule = float_or_nothing x.rule
  segment_field x limit = float_or_nothing x.limit
  segment_field x agent = float_or_nothing x.agent

  -- a record shows a span: its id, its segment's id, every field, and each row exactly, pair by pair
  pub record LikeSpan (c : Rowed (Span T) T) (s : book.Span) : Type 0 where
    pub own_id : c.head.id ≡ s.id
    pub in_segment : c.head.segment ≡ s.segment
    pub fields : (f : Field) → span_field c.head f ≡ shows s f
    pub text_row : map text_pair c.texts ≡ span_texts s
    pub number_row : map number_pair c.numbers ≡ span_numbers s

  -- a record shows a segment: its count, every field, and each row exactly
  pub record LikeSegment (c : Rowed (Segment T) T) (g : book.Segment) : Type 0 where
    pub counted : c.head.count ≡ count g
    pub fields : (f : Field) → segment_field c.head f ≡ segment_shows g f
    pub text_row : map text_pair c.texts ≡ texts g.since
    pub number_row : map number_pair c.numbers ≡ numbers g.since

  -- the string with a number, if there is one
  abbrev pub string_of : Option (Option T) → Option Text
  string_of None = None
  string_of (Some None) = None
  string_of (Some (Some t)) = Some (bytes t)

  abbrev pub string_at : List (Option T) → ℕ → Option Text
  string_at strings k = string_of (slice_get strings k)

  -- what set-up was told, and the tables' lengths
  abbrev pub setup_of : Store T → Setup
  setup_of m = record {
    service = bytes m.settings.service;
    language = bytes m.settings.language;
    pid = m.settings.pid;
    spans = length m.spans;
    segments = length m.segments;
    strings = length m.strings;
  }

  -- the memory is in order and shows the book. It leaves open which record a span or segment has, what stands in free
  -- records and past a row's count, the rows' marks, and where a hashed index keeps an id
  pub record Shows (m : Store T) (b : Book) : Type 0 where
    pub order : InOrder m
    pub setup : setup_of m ≡ b.setup
    pub strings : (k : ℕ) → string_at m.strings k ≡ find k b.strings
    pub defaults : map text_pair (take m.settings.defaults m.defaults) ≡ b.defaults
    pub live : Shown LikeSpan (live_view m) (length m.ids) b.live
    pub handed : Shown LikeSpan (handed_view m) (tally handed m.spans) b.handed
    pub segments : Shown LikeSegment (segment_view m) (length m.seats) b.segments

  -- there is a book that the memory shows
  abbrev pub ShowsABook : Store T → Type 0
  ShowsABook m = (b : Book) × Shows m b
