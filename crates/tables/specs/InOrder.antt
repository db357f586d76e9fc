-- When the tables are in order: a matter of memory alone.
use Rattle.std.specs.Prelude.{◌≡◌, ℕ, ◌*◌, ◌≤◌, true, List, length, Some, Ok, Err, Option, Result}
use Rattle.std.specs.List.{slice_get}
use Rattle.index.specs.declared.entry.Entry.{Entry}
use Rattle.index.specs.Holding.{Holds}
use Rattle.refusals.specs.declared.ChangeBufferError.{ChangeBufferError}
use Rattle.refusals.specs.declared.ChangeBufferError.TheVariants.{OutOfOrder}
use Rattle.book.specs.Limits.{most_spans, most_segments, most_strings, most_defaults, span_text_limit, span_number_limit, segment_text_limit, segment_number_limit, span_text_row, span_number_row, most_count}
use Rattle.tables.specs.declared.span.Mark.{Mark}
use Rattle.tables.specs.declared.span.Mark.TheVariants.{Free, Live, HandedOut}
use Rattle.tables.specs.declared.span.Span.{Span}
use Rattle.tables.specs.declared.segment.Segment.{Segment}
use Rattle.tables.specs.Store.{Store, stands, key_at, live_key, standing_key}

-- the pair counts that a mark allows: the operations' limits for a live span, the whole row for a handed-out one
abbrev pub Within : Mark → ℕ → ℕ → Type 0
Within Free t n = Unit {0}
Within Live t n = (t ≤ span_text_limit) × (n ≤ span_number_limit)
Within HandedOut t n = (t ≤ span_text_row) × (n ≤ span_number_row)

-- records of which each keeps its limits, and an index that holds the keys of those in use and nothing else
pub record KeptIn {A : Type 0} (key : A → Option ℕ) (Limits : A → Type 0) (xs : List A) (es : List Entry) : Type 0 where
  pub limits : (r : ℕ) (x : A) → slice_get xs r ≡ Some x → Limits x
  pub indexed : Holds es (key_at key xs)

-- from 1 to most records, with rows of t and n pairs, and an index with room for all
pub record Lengths (most t n : ℕ) (records texts numbers room : ℕ) : Type 0 where
  pub some : 1 ≤ records
  pub few : records ≤ most
  pub text_rows : texts ≡ records * t
  pub number_rows : numbers ≡ records * n
  pub roomy : records ≤ room

-- from 1 to 65,536 strings, and a table of 32 default pairs, of which as many count as are there at the most
pub record OthersInOrder (strings defaults count : ℕ) : Type 0 where
  pub some_strings : 1 ≤ strings
  pub few_strings : strings ≤ most_strings
  pub default_table : defaults ≡ most_defaults
  pub few_defaults : count ≤ most_defaults

module _ {T : Type 0} where
  -- the pair counts that a span's mark allows
  abbrev pub SpanLimits : Span T → Type 0
  SpanLimits x = Within x.mark x.meta.count x.metrics.count

  -- the pair counts and the count of a standing segment
  abbrev pub SegmentLimits : Segment T → Type 0
  SegmentLimits x =
      stands x ≡ true → (x.meta.count ≤ segment_text_limit) × (x.metrics.count ≤ segment_number_limit) × (x.count ≤ most_count)

  pub record InOrder (m : Store T) : Type 0 where
    pub span_lengths : Lengths most_spans span_text_row span_number_row (length m.spans) (length m.span_meta) (length m.span_metrics) m.ids_room
    pub segment_lengths : Lengths most_segments segment_text_limit segment_number_limit (length m.segments) (length m.segment_meta) (length m.segment_metrics) m.seats_room
    pub others : OthersInOrder (length m.strings) (length m.defaults) m.settings.defaults
    pub spans : KeptIn live_key SpanLimits m.spans m.ids
    pub segments : KeptIn standing_key SegmentLimits m.segments m.seats

  -- what set-up asks: the lengths and capacities alone
  pub record Sized (m : Store T) : Type 0 where
    pub span_lengths : Lengths most_spans span_text_row span_number_row (length m.spans) (length m.span_meta) (length m.span_metrics) m.ids_room
    pub segment_lengths : Lengths most_segments segment_text_limit segment_number_limit (length m.segments) (length m.segment_meta) (length m.segment_metrics) m.seats_room
    pub others : OthersInOrder (length m.strings) (length m.defaults) 0

  -- accepted where the tables are in order, and refused with 1 where they are not
  abbrev pub ChecksOrder : Store T → Result (Unit {0}) ChangeBufferError → Type 0
  ChecksOrder m (Ok x) = InOrder m
  ChecksOrder m (Err e) = (InOrder m → ⊥) × (e ≡ OutOfOrder)
