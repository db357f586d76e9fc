-- Operations of the book, by their parts.
use Rattle.std.proofs.Common.{◌≡◌, ℕ, List, length, drop, Some, None, Err, Result, sym, refl, ap, ◌∙◌, subst, inl}
use Rattle.index.specs.declared.entry.Entry.{Entry}
use Rattle.index.specs.Held.{Content, at}
use Rattle.refusals.specs.declared.ChangeBufferError.{ChangeBufferError}
use Rattle.refusals.specs.declared.ChangeBufferError.TheVariants.{SpanNotFound}
use Rattle.book.specs.Maps.{find}
use Rattle.book.specs.Book.{Text, Book}
use Rattle.book.specs.Book as book
use Rattle.book.specs.Refusals.{because, span_not_found}
use Rattle.book.specs.Actions.{Act, ◌>>=◌, look, the, times, read}
use Rattle.book.specs.Acts.{Ending, turned_down, Ended, Acts}
use Rattle.book.specs.Flush.{Operand, Attribute, create, on_segment, live_span, read_attribute, write_segment, set_attribute, make, perform}
use Rattle.book.proofs.Acted.{acts-from, acts_as, acts-find, acts-missing, acts_stop}
use Rattle.book.proofs.Boths.{both-left-none}
use Rattle.tables.specs.declared.segment.Segment.{Segment}
use Rattle.tables.specs.declared.settings.Settings.{Settings}
use Rattle.tables.specs.Store.{Store, chained, span_at, free}
use Rattle.tables.specs.InOrder.{InOrder}
use Rattle.tables.specs.Shows.{LikeSpan, Shows}
use Rattle.recorder.specs.Answers.{refusal}
use Rattle.recorder.specs.Strings.{with_strings}
use Rattle.operations.specs.declared.inner.flush_tables.FlushTables.{FlushTables}
use Rattle.operations.specs.declared.values.PairKind.{PairKind}
use Rattle.operations.specs.declared.values.PairKind.TheVariants.{Meta, Metric}
use Rattle.operations.specs.Parts.{HasRow, FieldsOnly, PairOnly, RowsOnly, SegmentPairOnly, SpansOnly, TextsOnly, create_parts, lent, with_pairs, with_seated, with_seats, with_segment_meta, with_segment_metrics, with_segment_pairs, with_segment_rows, with_span_meta, with_span_metrics, with_span_rows, with_spans, with_tables}
use Rattle.operations.specs.Done.{ending, NoneMade, SegmentRows, gone}
use Rattle.operations.proofs.Taking.{ids-within, seats-within}
use Rattle.operations.proofs.Writing.{rows_within, span-within, text_row-within, number_row-within}
use Rattle.operations.proofs.Keeping.{records-same}
use Rattle.operations.proofs.Spans.{span_own}
use Rattle.operations.proofs.Creating.{at-number}
use Rattle.interpret.specs.Attributes.{attribute_of, pair_attribute}
use Rattle.interpret.specs.Creation.{read_create}
use Rattle.interpret.specs.Played.{OnAny, OnLive, Played, note_attribute, set_counted}
use Rattle.interpret.proofs.Creations.{perform-create}
use Rattle.flush.specs.declared.operation.OnSpan.{OnSpan}
use Rattle.flush.specs.declared.operation.OnSpan.TheVariants.{Field, Batch}
use Rattle.flush.specs.declared.operation.OnSpan.TheVariants as span
use Rattle.flush.specs.Found.{SegmentAt}
use Rattle.flush.specs.Operation.{span_meaning, span_act}

-- ---- rows of tables in order

module _ {T : Type 0} (t : FlushTables T) (ys : List (Segment T)) (s : Settings T) (ids seats : Content) (o : InOrder (lent t ys s ids seats)) where
  pub has_row : (id r : ℕ) → at ids.held id ≡ Some r → (k : PairKind) → HasRow k t r
  has_row id r own Meta = record { within = span-within _ o id r own; row = text_row-within _ o id r own }
  has_row id r own Metric = record { within = span-within _ o id r own; row = number_row-within _ o id r own }

  pub segment_rows : (k : PairKind) → SegmentRows k t ys seats.held
  segment_rows Meta id r e = let w = seats-within _ o id r e in record { within = w; row = rows_within r (length ys) 32 _ w o.segment_lengths.text_rows }
  segment_rows Metric id r e = let w = seats-within _ o id r e in record { within = w; row = rows_within r (length ys) 16 _ w o.segment_lengths.number_rows }

-- ---- what changes at most

module _ {T : Type 0} (t n : FlushTables T) where
  pub pair_only : (k : PairKind) → PairOnly k t n → SpansOnly t n
  pair_only Meta o = record { memory = o.memory; segment_meta = o.segment_meta; segment_metrics = o.segment_metrics; strings = o.strings; defaults = o.defaults }
  pair_only Metric o = record { memory = o.memory; segment_meta = o.segment_meta; segment_metrics = o.segment_metrics; strings = o.strings; defaults = o.defaults }

  pub field_only : FieldsOnly t n → SpansOnly t n
  field_only o = record { memory = o.memory; segment_meta = o.segment_meta; segment_metrics = o.segment_metrics; strings = o.strings; defaults = o.defaults }

  pub segment_pair_only : (k : PairKind) → SegmentPairOnly k t n → RowsOnly t n
  segment_pair_only Meta o = record { memory = o.memory; spans = o.spans; span_meta = o.span_meta; span_metrics = o.span_metrics; strings = o.strings; defaults = o.defaults }
  segment_pair_only Metric o = record { memory = o.memory; spans = o.spans; span_meta = o.span_meta; span_metrics = o.span_metrics; strings = o.strings; defaults = o.defaults }

-- ---- what is promised of some tables, of all

module _ {T : Type 0} (bytes : T → Text) (act : Act (Unit {0})) (buffer : List ℕ) (t n : FlushTables T) (p p' : ℕ) (a : Result (Unit {0}) ChangeBufferError) where
  module _ (id r : ℕ) where
    pub pair_rows : (k : PairKind) → PairOnly k t n → OnLive bytes id r act buffer (λ m. with_strings t.strings.now (with_pairs k t m)) (λ m. with_strings n.strings.now (with_pairs k n m)) p p' a
        → OnLive bytes id r act buffer (λ m. with_strings t.strings.now (with_span_rows t m)) (λ m. with_strings n.strings.now (with_span_rows n m)) p p' a
    pair_rows Meta only d = λ m o own. rw only.span_metrics (d (with_span_metrics t.span_metrics.now m) o own)
    pair_rows Metric only d = λ m o own. rw only.span_meta (d (with_span_meta t.span_meta.now m) o own)

    pub field_rows : FieldsOnly t n → OnLive bytes id r act buffer (λ m. with_strings t.strings.now (with_spans t.spans.now m)) (λ m. with_strings n.strings.now (with_spans n.spans.now m)) p p' a
        → OnLive bytes id r act buffer (λ m. with_strings t.strings.now (with_span_rows t m)) (λ m. with_strings n.strings.now (with_span_rows n m)) p p' a
    field_rows only d = λ m o own. rw (only.span_meta, only.span_metrics) (d (with_span_metrics t.span_metrics.now (with_span_meta t.span_meta.now m)) o own)

    pub span_tables : SpansOnly t n → OnLive bytes id r act buffer (λ m. with_strings t.strings.now (with_span_rows t m)) (λ m. with_strings n.strings.now (with_span_rows n m)) p p' a
        → OnLive bytes id r act buffer (with_tables t) (with_tables n) p p' a
    span_tables only d = λ m o own. rw (only.segment_meta, only.segment_metrics, only.defaults) (d (with_tables t m) o own)

  module _ (ys ys' : List (Segment T)) (es : List Entry) where
    pub segment_pair_rows : (k : PairKind) → SegmentPairOnly k t n
        → OnAny bytes act buffer (λ m. with_strings t.strings.now (with_seats es (with_segment_pairs k t ys m))) (λ m. with_strings n.strings.now (with_seats es (with_segment_pairs k n ys' m))) p p' a
        → OnAny bytes act buffer (λ m. with_strings t.strings.now (with_seats es (with_segment_rows t ys m))) (λ m. with_strings n.strings.now (with_seats es (with_segment_rows n ys' m))) p p' a
    segment_pair_rows Meta only d = λ m o. rw only.segment_metrics (d (with_segment_metrics t.segment_metrics.now m) o)
    segment_pair_rows Metric only d = λ m o. rw only.segment_meta (d (with_segment_meta t.segment_meta.now m) o)

    pub segment_tables : RowsOnly t n → OnAny bytes act buffer (λ m. with_strings t.strings.now (with_seats es (with_segment_rows t ys m))) (λ m. with_strings n.strings.now (with_seats es (with_segment_rows n ys' m))) p p' a
        → OnAny bytes act buffer (with_seated t ys es) (with_seated n ys' es) p p' a
    segment_tables only d = λ m o. rw (only.spans, only.span_meta, only.span_metrics, only.defaults) (d (with_tables t m) o)

-- ---- a create in the memory that was lent

pub as_lent : {T : Type 0} (t n : FlushTables T) (ys ys' : List (Segment T)) (s s' : Settings T) (ids ids' seats seats' : Content) → TextsOnly t n
    → with_strings n.strings.now (create_parts n ys' s' ids' seats' (lent t ys s ids seats)) ≡ lent n ys' s' ids' seats'
as_lent t n ys ys' s s' ids ids' seats seats' only = rw (only.span_metrics, only.segment_meta, only.segment_metrics) refl

module _ {T : Type 0} (bytes : T → Text) (buffer : List ℕ) where
  -- ---- a create is its reads, and then the making

  pub as_create : (fs : List (book.Field × Operand)) (id : ℕ) (Made : ℕ → Type 0) (m m' : Store T) (p p' : ℕ) (a : Result (Unit {0}) ChangeBufferError)
      → Played bytes (read_create fs >>= (λ x. make id x.0 x.1)) Made buffer m m' p p' a → Played bytes (perform (create fs) id) Made buffer m m' p p' a
  as_create fs id Made m m' p p' a d = record {
    order = d.order;
    acts = acts_as buffer (read_create fs >>= (λ x. make id x.0 x.1)) (perform (create fs) id) (Shows bytes m) (Shows bytes m') p (ending p' a) (perform-create fs id) d.acts;
    spans_kept = d.spans_kept;
    segments_kept = d.segments_kept;
  }

  module _ (m : Store T) (id p : ℕ) where
    -- ---- no live span with this id

    missing : (f : book.Span → Act (Unit {0})) → at m.ids id ≡ None → Acts (live_span id >>= f) buffer (Shows bytes m) p (Shows bytes m) (turned_down (because (span_not_found id)))
    unfolding live_span
    missing f none =
        acts_stop buffer (look (λ b. find id b.live) >>= (λ o. the o (span_not_found id))) f (Shows bytes m) (Shows bytes m) p _
        (acts-missing buffer (λ b. find id b.live) (span_not_found id) (Shows bytes m) p
        (λ b h. both-left-none (LikeSpan bytes) _ _ (h.live.each id) (ap (chained (span_at m.spans m.span_meta m.span_metrics)) none)))

    not_found : (act : Act (Unit {0})) (f : book.Span → Act (Unit {0})) (p' : ℕ) (e : ChangeBufferError) → ((b : Book) (rest : List ℕ) → act b rest ≡ (live_span id >>= f) b rest) → InOrder m → at m.ids id ≡ None → e ≡ SpanNotFound id
        → Played bytes act NoneMade buffer m m p p' (Err e)
    not_found act f p' e same o none is = record {
      order = o;
      acts = acts_as buffer (live_span id >>= f) act (Shows bytes m) (Shows bytes m) p _ same (subst (λ z. Acts (live_span id >>= f) buffer (Shows bytes m) p (Shows bytes m) (turned_down (refusal z))) (sym is) (missing f none));
      spans_kept = records-same free (λ x. x.meta) (λ x. x.metrics) NoneMade m.spans m.ids;
      segments_kept = records-same gone (λ y. y.meta) (λ y. y.metrics) _ m.segments m.seats;
    }

    -- ---- the live span with this id

    module _ (o : InOrder m) (r : ℕ) (own : at m.ids id ≡ Some r) where
      the-live : (b : Book) → Shows bytes m b → (s : book.Span) × (find id b.live ≡ Some s)
      the-live b h =
          let x = at-number m.spans r (ids-within m o id r own) in
          let k = span_own m o r id x.0 x.1 (inl own) bytes b h own in
          (k.0, k.1)

      live_then : (f : book.Span → Act (Unit {0})) (Q : Book → Type 0) (e : Ending (Unit {0})) → ((s : book.Span) → Acts (f s) buffer (λ b. Shows bytes m b × (find id b.live ≡ Some s)) p Q e) → Acts (live_span id >>= f) buffer (Shows bytes m) p Q e
      unfolding live_span
      live_then f Q e h = acts-find buffer (λ b. find id b.live) (span_not_found id) f (Shows bytes m) Q p e the-live h

      -- what follows does not look at the span
      pub found_then : (act act' : Act (Unit {0})) (m' : Store T) (p' : ℕ) (a : Result (Unit {0}) ChangeBufferError) → ((b : Book) (rest : List ℕ) → act' b rest ≡ (live_span id >>= (λ _. act)) b rest)
          → Played bytes act NoneMade buffer m m' p p' a → Played bytes act' NoneMade buffer m m' p p' a
      found_then act act' m' p' a same d = record {
        order = d.order;
        acts = acts_as buffer (live_span id >>= (λ _. act)) act' (Shows bytes m) (Shows bytes m') p (ending p' a) same
            (live_then (λ _. act) (Shows bytes m') (ending p' a) (λ s. acts-from buffer act (Shows bytes m) (λ b. Shows bytes m b × (find id b.live ≡ Some s)) (Shows bytes m') p (ending p' a) (λ b x. x.0) d.acts));
        spans_kept = d.spans_kept;
        segments_kept = d.segments_kept;
      }

      -- what follows is about its segment
      segment-is : (segment : ℕ) → SegmentAt m.spans r segment → (b : Book) → Shows bytes m b → (s : book.Span) → find id b.live ≡ Some s → segment ≡ s.segment
      segment-is segment at-r b h s e =
          let x = at-number m.spans r (ids-within m o id r own) in
          let k = span_own m o r id x.0 x.1 (inl own) bytes b h own in
          let z : k.0 ≡ s = cc (k.1, e) in
          at-r x.0 x.1 ∙ (k.2.in_segment ∙ ap (λ u. u.segment) z)

      pub segment_then : (a : Attribute) (segment : ℕ) (m' : Store T) (p' : ℕ) (answer : Result (Unit {0}) ChangeBufferError) → SegmentAt m.spans r segment
          → Played bytes (note_attribute a segment) NoneMade buffer m m' p p' answer → Played bytes (perform (on_segment a) id) NoneMade buffer m m' p p' answer
      unfolding perform note_attribute
      segment_then a segment m' p' answer at-r d = record {
        order = d.order;
        acts = live_then (λ s. read_attribute a >>= (λ w. write_segment s.segment w)) (Shows bytes m') (ending p' answer) (λ s. record {
          acts = λ b k x.
              subst (λ (z : ℕ). Ended buffer (Shows bytes m') (ending p' answer) ((read_attribute a >>= (λ w. write_segment z w)) b (drop p buffer))) (segment-is segment at-r b x.0 s x.1) (d.acts.acts b k x.0);
        });
        spans_kept = d.spans_kept;
        segments_kept = d.segments_kept;
      }

      -- an operation on the span
      pub span_then : (operation : OnSpan) (m' : Store T) (p' : ℕ) (a : Result (Unit {0}) ChangeBufferError) → Played bytes (span_act operation id) NoneMade buffer m m' p p' a → Played bytes (perform (span_meaning operation) id) NoneMade buffer m m' p p' a
      unfolding perform set_counted
      span_then (span.Pair k) m' p' a d = found_then (set_attribute (pair_attribute k) id) _ m' p' a (λ b rest. refl) d
      span_then (Field n) m' p' a d = found_then (set_attribute (attribute_of n) id) _ m' p' a (λ b rest. refl) d
      span_then (Batch k) m' p' a d = found_then (set_counted (pair_attribute k) id) _ m' p' a (λ b rest. refl) d

    pub span-missing : (operation : OnSpan) (p' : ℕ) (e : ChangeBufferError) → InOrder m → at m.ids id ≡ None → e ≡ SpanNotFound id → Played bytes (perform (span_meaning operation) id) NoneMade buffer m m p p' (Err e)
    unfolding perform
    span-missing (span.Pair k) p' e o none is = not_found _ (λ _. set_attribute (pair_attribute k) id) p' e (λ b rest. refl) o none is
    span-missing (Field n) p' e o none is = not_found _ (λ _. set_attribute (attribute_of n) id) p' e (λ b rest. refl) o none is
    span-missing (Batch k) p' e o none is = not_found _ (λ _. read 4 >>= (λ n. times n (set_attribute (pair_attribute k) id))) p' e (λ b rest. refl) o none is

    pub segment-missing : (a : Attribute) (p' : ℕ) (e : ChangeBufferError) → InOrder m → at m.ids id ≡ None → e ≡ SpanNotFound id → Played bytes (perform (on_segment a) id) NoneMade buffer m m p p' (Err e)
    unfolding perform
    segment-missing a p' e o none is = not_found _ (λ s. read_attribute a >>= (λ w. write_segment s.segment w)) p' e (λ b rest. refl) o none is
