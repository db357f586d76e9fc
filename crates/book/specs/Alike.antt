-- Equal recorders: what no field, lookup, row, count or number tells apart.
use Rattle.std.specs.Prelude.{◌≡◌, ℕ, length}
use Rattle.book.specs.Maps.{find, Both}
use Rattle.book.specs.Book.{Text, Field, texts, numbers, last_value, Span, Segment, shows, span_texts, span_numbers, segment_shows, count, Book, numbers_of}

-- two spans: ids, every field, each row exactly, and every lookup
pub record AlikeSpans (s t : Span) : Type 0 where
  pub same_id : s.id ≡ t.id
  pub same_segment : s.segment ≡ t.segment
  pub fields : (f : Field) → shows s f ≡ shows t f
  pub text_row : span_texts s ≡ span_texts t
  pub number_row : span_numbers s ≡ span_numbers t
  pub text_lookups : (k : Text) → last_value k (span_texts s) ≡ last_value k (span_texts t)
  pub number_lookups : (k : Text) → last_value k (span_numbers s) ≡ last_value k (span_numbers t)

-- two segments: the count, every field, each row exactly, and every lookup
pub record AlikeSegments (g h : Segment) : Type 0 where
  pub same_count : count g ≡ count h
  pub fields : (f : Field) → segment_shows g f ≡ segment_shows h f
  pub text_row : texts g.since ≡ texts h.since
  pub number_row : numbers g.since ≡ numbers h.since
  pub text_lookups : (k : Text) → last_value k (texts g.since) ≡ last_value k (texts h.since)
  pub number_lookups : (k : Text) → last_value k (numbers g.since) ≡ last_value k (numbers h.since)

-- two recorders: at each id and each handed-out number, strings, defaults, and the three numbers
pub record Alike (b c : Book) : Type 0 where
  pub setup : b.setup ≡ c.setup
  pub live : (id : ℕ) → Both AlikeSpans (find id b.live) (find id c.live)
  pub handed : (n : ℕ) → Both AlikeSpans (find n b.handed) (find n c.handed)
  pub segments : (id : ℕ) → Both AlikeSegments (find id b.segments) (find id c.segments)
  pub standing : length b.segments ≡ length c.segments
  pub strings : (k : ℕ) → find k b.strings ≡ find k c.strings
  pub defaults : b.defaults ≡ c.defaults
  pub three : numbers_of b ≡ numbers_of c
