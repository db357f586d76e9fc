-- The memory of a recorder with parts replaced, what a call leaves as it was, and the rows that it asks for.
use Rattle.std.specs.Prelude.{◌≡◌, ℕ, ◌+◌, ◌*◌, ◌<◌, ◌≤◌, List, length}
use Rattle.index.specs.declared.entry.Entry.{Entry}
use Rattle.index.specs.Held.{Content}
use Rattle.book.specs.Limits.{span_text_row, span_number_row, segment_text_limit, segment_number_limit}
use Rattle.tables.specs.declared.span.Span.{Span}
use Rattle.tables.specs.declared.segment.Segment.{Segment}
use Rattle.tables.specs.declared.settings.Settings.{Settings}
use Rattle.tables.specs.declared.tables.Tables.{Tables}
use Rattle.tables.specs.Lent.{SameMemory}
use Rattle.tables.specs.Store.{Store, store}
use Rattle.operations.specs.declared.inner.flush_tables.FlushTables.{FlushTables}
use Rattle.operations.specs.declared.values.PairKind.{PairKind}
use Rattle.operations.specs.declared.values.PairKind.TheVariants.{Meta, Metric}

module _ {T : Type 0} where
  -- the span records, and their rows
  abbrev pub with_spans : List (Span T) → Store T → Store T
  with_spans xs m = store xs m.span_meta m.span_metrics m.segments m.segment_meta m.segment_metrics m.strings m.defaults m.settings m.ids m.ids_room m.seats m.seats_room

  abbrev pub with_span_meta : List (T × T) → Store T → Store T
  with_span_meta ms m = store m.spans ms m.span_metrics m.segments m.segment_meta m.segment_metrics m.strings m.defaults m.settings m.ids m.ids_room m.seats m.seats_room

  abbrev pub with_span_metrics : List (T × ℕ) → Store T → Store T
  with_span_metrics ns m = store m.spans m.span_meta ns m.segments m.segment_meta m.segment_metrics m.strings m.defaults m.settings m.ids m.ids_room m.seats m.seats_room

  -- the segment records, and their rows
  abbrev pub with_segments : List (Segment T) → Store T → Store T
  with_segments ys m = store m.spans m.span_meta m.span_metrics ys m.segment_meta m.segment_metrics m.strings m.defaults m.settings m.ids m.ids_room m.seats m.seats_room

  abbrev pub with_segment_meta : List (T × T) → Store T → Store T
  with_segment_meta ms m = store m.spans m.span_meta m.span_metrics m.segments ms m.segment_metrics m.strings m.defaults m.settings m.ids m.ids_room m.seats m.seats_room

  abbrev pub with_segment_metrics : List (T × ℕ) → Store T → Store T
  with_segment_metrics ns m = store m.spans m.span_meta m.span_metrics m.segments m.segment_meta ns m.strings m.defaults m.settings m.ids m.ids_room m.seats m.seats_room

  -- the span records, and their rows for pairs of this kind
  abbrev pub with_pairs : PairKind → FlushTables T → Store T → Store T
  with_pairs Meta t m = with_span_meta t.span_meta.now (with_spans t.spans.now m)
  with_pairs Metric t m = with_span_metrics t.span_metrics.now (with_spans t.spans.now m)

  -- the segment records, and their rows for pairs of this kind
  abbrev pub with_segment_pairs : PairKind → FlushTables T → List (Segment T) → Store T → Store T
  with_segment_pairs Meta t ys m = with_segment_meta t.segment_meta.now (with_segments ys m)
  with_segment_pairs Metric t ys m = with_segment_metrics t.segment_metrics.now (with_segments ys m)

  -- the span records, and their rows for pairs of both kinds
  abbrev pub with_span_rows : FlushTables T → Store T → Store T
  with_span_rows t m = with_span_metrics t.span_metrics.now (with_span_meta t.span_meta.now (with_spans t.spans.now m))

  -- the segment records, and their rows for pairs of both kinds
  abbrev pub with_segment_rows : FlushTables T → List (Segment T) → Store T → Store T
  with_segment_rows t ys m = with_segment_metrics t.segment_metrics.now (with_segment_meta t.segment_meta.now (with_segments ys m))

  -- what the segment index holds
  abbrev pub with_seats : List Entry → Store T → Store T
  with_seats es m = store m.spans m.span_meta m.span_metrics m.segments m.segment_meta m.segment_metrics m.strings m.defaults m.settings m.ids m.ids_room es m.seats_room

  -- all lent tables
  abbrev pub with_tables : FlushTables T → Store T → Store T
  with_tables t m = store t.spans.now t.span_meta.now t.span_metrics.now m.segments t.segment_meta.now t.segment_metrics.now t.strings.now t.defaults.now m.settings m.ids m.ids_room m.seats m.seats_room

  -- and the segment records with their index
  abbrev pub with_seated : FlushTables T → List (Segment T) → List Entry → Store T → Store T
  with_seated t ys es m = with_seats es (with_segments ys (with_tables t m))

  -- what a create looks at and writes: all but the number rows of spans, the rows of segments and the strings
  abbrev pub create_parts : FlushTables T → List (Segment T) → Settings T → Content → Content → Store T → Store T
  create_parts t ys s ids seats m = store t.spans.now t.span_meta.now m.span_metrics ys m.segment_meta m.segment_metrics m.strings t.defaults.now s ids.held ids.room seats.held seats.room

  -- all that the operations are lent, as one memory
  abbrev pub lent : FlushTables T → List (Segment T) → Settings T → Content → Content → Store T
  lent t ys s ids seats = store t.spans.now t.span_meta.now t.span_metrics.now ys t.segment_meta.now t.segment_metrics.now t.strings.now t.defaults.now s ids.held ids.room seats.held seats.room

  -- the tables that operations write are still the memory that was lent
  pub record SameTables (old new : FlushTables T) : Type 0 where
    pub spans : new.spans.ghost_name ≡ old.spans.ghost_name
    pub span_meta : new.span_meta.ghost_name ≡ old.span_meta.ghost_name
    pub span_metrics : new.span_metrics.ghost_name ≡ old.span_metrics.ghost_name
    pub segment_meta : new.segment_meta.ghost_name ≡ old.segment_meta.ghost_name
    pub segment_metrics : new.segment_metrics.ghost_name ≡ old.segment_metrics.ghost_name

  -- the tables are the memory that was lent still, and these alone may have changed: the spans and their rows
  pub record SpansOnly (old new : FlushTables T) : Type 0 where
    pub memory : SameTables old new
    pub segment_meta : new.segment_meta ≡ old.segment_meta
    pub segment_metrics : new.segment_metrics ≡ old.segment_metrics
    pub strings : new.strings ≡ old.strings
    pub defaults : new.defaults ≡ old.defaults

  -- the spans and their text rows
  pub record TextsOnly (old new : FlushTables T) : Type 0 where
    pub memory : SameTables old new
    pub span_metrics : new.span_metrics ≡ old.span_metrics
    pub segment_meta : new.segment_meta ≡ old.segment_meta
    pub segment_metrics : new.segment_metrics ≡ old.segment_metrics
    pub strings : new.strings ≡ old.strings
    pub defaults : new.defaults ≡ old.defaults

  -- the rows of the segments
  pub record RowsOnly (old new : FlushTables T) : Type 0 where
    pub memory : SameTables old new
    pub spans : new.spans ≡ old.spans
    pub span_meta : new.span_meta ≡ old.span_meta
    pub span_metrics : new.span_metrics ≡ old.span_metrics
    pub strings : new.strings ≡ old.strings
    pub defaults : new.defaults ≡ old.defaults

  -- the spans and their number rows
  pub record NumbersOnly (old new : FlushTables T) : Type 0 where
    pub memory : SameTables old new
    pub span_meta : new.span_meta ≡ old.span_meta
    pub segment_meta : new.segment_meta ≡ old.segment_meta
    pub segment_metrics : new.segment_metrics ≡ old.segment_metrics
    pub strings : new.strings ≡ old.strings
    pub defaults : new.defaults ≡ old.defaults

  -- the spans without their rows
  pub record FieldsOnly (old new : FlushTables T) : Type 0 where
    pub memory : SameTables old new
    pub span_meta : new.span_meta ≡ old.span_meta
    pub span_metrics : new.span_metrics ≡ old.span_metrics
    pub segment_meta : new.segment_meta ≡ old.segment_meta
    pub segment_metrics : new.segment_metrics ≡ old.segment_metrics
    pub strings : new.strings ≡ old.strings
    pub defaults : new.defaults ≡ old.defaults

  -- the text rows of the segments
  pub record SegmentTextsOnly (old new : FlushTables T) : Type 0 where
    pub memory : SameTables old new
    pub spans : new.spans ≡ old.spans
    pub span_meta : new.span_meta ≡ old.span_meta
    pub span_metrics : new.span_metrics ≡ old.span_metrics
    pub segment_metrics : new.segment_metrics ≡ old.segment_metrics
    pub strings : new.strings ≡ old.strings
    pub defaults : new.defaults ≡ old.defaults

  -- the number rows of the segments
  pub record SegmentNumbersOnly (old new : FlushTables T) : Type 0 where
    pub memory : SameTables old new
    pub spans : new.spans ≡ old.spans
    pub span_meta : new.span_meta ≡ old.span_meta
    pub span_metrics : new.span_metrics ≡ old.span_metrics
    pub segment_meta : new.segment_meta ≡ old.segment_meta
    pub strings : new.strings ≡ old.strings
    pub defaults : new.defaults ≡ old.defaults

  -- the spans and their rows for pairs of this kind
  abbrev pub PairOnly : PairKind → FlushTables T → FlushTables T → Type 0
  PairOnly Meta old new = TextsOnly old new
  PairOnly Metric old new = NumbersOnly old new

  -- the rows of the segments for pairs of this kind
  abbrev pub SegmentPairOnly : PairKind → FlushTables T → FlushTables T → Type 0
  SegmentPairOnly Meta old new = SegmentTextsOnly old new
  SegmentPairOnly Metric old new = SegmentNumbersOnly old new

  -- all but the strings and the default pairs
  pub record SharedStay (old new : Tables T) : Type 0 where
    pub memory : SameMemory old new
    pub strings : new.strings ≡ old.strings
    pub defaults : new.defaults ≡ old.defaults

  -- the same of tables as the operations are lent them
  pub record SharedKept (old new : FlushTables T) : Type 0 where
    pub memory : SameTables old new
    pub strings : new.strings ≡ old.strings
    pub defaults : new.defaults ≡ old.defaults

  -- the tables have row r of a span's pairs of this kind
  abbrev pub SpanRow : PairKind → FlushTables T → ℕ → Type 0
  SpanRow Meta t r = r * span_text_row + span_text_row ≤ length t.span_meta.now
  SpanRow Metric t r = r * span_number_row + span_number_row ≤ length t.span_metrics.now

  -- and row r of a segment's pairs of this kind
  abbrev pub SegmentRow : PairKind → FlushTables T → ℕ → Type 0
  SegmentRow Meta t r = r * segment_text_limit + segment_text_limit ≤ length t.segment_meta.now
  SegmentRow Metric t r = r * segment_number_limit + segment_number_limit ≤ length t.segment_metrics.now

  -- record r of the spans is there, with its row for pairs of this kind
  pub record HasRow (kind : PairKind) (t : FlushTables T) (r : ℕ) : Type 0 where
    pub within : r < length t.spans.now
    pub row : SpanRow kind t r

  -- and record r of the segments
  pub record HasSegmentRow (kind : PairKind) (t : FlushTables T) (ys : List (Segment T)) (r : ℕ) : Type 0 where
    pub within : r < length ys
    pub row : SegmentRow kind t r
