-- One step after another: records that both keep, and actions played one after another.
use Rattle.std.proofs.Common.{◌≡◌, ℕ, suc, ◌+◌, ◌<◌, Bool, false, List, Some, None, Ok, Err, Option, Result, sym, refl, ap, ◌∙◌, subst, inl, inr, arith}
use Rattle.index.specs.declared.entry.Entry.{Entry}
use Rattle.index.specs.Held.{at}
use Rattle.index.proofs.Entries.{same_some}
use Rattle.vec_map.specs.declared.head.Head.{Head}
use Rattle.refusals.specs.declared.ChangeBufferError.{ChangeBufferError}
use Rattle.book.specs.Book.{Text, Writing}
use Rattle.book.specs.Actions.{Act, times}
use Rattle.book.proofs.Acted.{acts-start, acts-more, acts-turned, acts-count}
use Rattle.tables.specs.Store.{Store, free}
use Rattle.tables.specs.InOrder.{InOrder}
use Rattle.tables.specs.Shows.{Shows}
use Rattle.std.proofs.lemmas.Option.{none-some, slice_get_within}
use Rattle.recorder.specs.Answers.{refusal}
use Rattle.recorder.specs.Strings.{with_strings}
use Rattle.tables.specs.declared.segment.Segment.{Segment}
use Rattle.operations.specs.declared.inner.flush_tables.FlushTables.{FlushTables}
use Rattle.operations.specs.declared.values.PairKind.{PairKind}
use Rattle.operations.specs.declared.values.PairKind.TheVariants.{Meta, Metric}
use Rattle.operations.specs.Parts.{PairOnly, SameTables, SegmentPairOnly, with_pairs, with_segment_pairs, with_seats}
use Rattle.operations.specs.Done.{Unused, RowMoved, RowsMoved, RecordsKept, SpansKept, SegmentsKept, OnSpanHeld, OnSegmentIfStanding, gone}
use Rattle.operations.proofs.Creating.{at-number}
use Rattle.operations.proofs.Keeping.{records-same}
use Rattle.interpret.specs.Played.{Played}

-- ---- marks

row_then : (a b c : Head) → RowMoved a b → RowMoved b c → RowMoved a c
row_then a b c (inl e) (inl f) = inl (f ∙ e)
row_then a b c (inl e) (inr f) = inr (subst (λ z. z.count < c.count) e f.0, f.1)
row_then a b c (inr e) (inl f) = inr (subst (λ z. a.count < z.count) (sym f) e.0, ap (λ z. z.deduped) f ∙ e.1)
row_then a b c (inr e) (inr f) = inr (let x = e.0 in let y = f.0 in omega (arith, x, y), f.1)

stays_clear : (a b : Head) → a.deduped ≡ false → RowMoved a b → b.deduped ≡ false
stays_clear a b e (inl f) = ap (λ z. z.deduped) f ∙ e
stays_clear a b e (inr f) = f.1

module _ {A : Type 0} (unused : A → Bool) (meta metrics : A → Head) (Made Made₁ Made₂ : ℕ → Type 0) (xs xs₁ xs₂ : List A) (es es₁ es₂ : List Entry)
    (weaker₁ : (id : ℕ) → Made₁ id → Made id) (weaker₂ : (id : ℕ) → Made₂ id → Made id)
    (a : RecordsKept unused meta metrics Made₁ xs xs₁ es es₁) (b : RecordsKept unused meta metrics Made₂ xs₁ xs₂ es₁ es₂) where
  fresh_then : (id r : ℕ) → at es id ≡ None → at es₂ id ≡ Some r → Unused unused xs r
  fresh_then id r none e = by (at es₁ id) refl
    where
      by : (o : Option ℕ) → at es₁ id ≡ o → Unused unused xs r
      by None n = a.used r (b.fresh id r n e)
      by (Some q) f = subst (λ (z : ℕ). Unused unused xs z) (same_some (at es₂ id) q r (b.stays id q f) e) (a.fresh id q none f)

  moved_then : (r : ℕ) (t n t₁ n₁ t₂ n₂ : Head) → RowsMoved Made₁ es₁ r t n t₁ n₁ → RowsMoved Made₂ es₂ r t₁ n₁ t₂ n₂ → RowsMoved Made es₂ r t n t₂ n₂
  moved_then r t n t₁ n₁ t₂ n₂ (inl x) (inl y) = inl (row_then t t₁ t₂ x.0 y.0, row_then n n₁ n₂ x.1 y.1)
  moved_then r t n t₁ n₁ t₂ n₂ (inr x) (inl y) = inr (x.0, b.stays x.0 r x.1, weaker₁ x.0 x.2, stays_clear t₁ t₂ x.3 y.0, stays_clear n₁ n₂ x.4 y.1)
  moved_then r t n t₁ n₁ t₂ n₂ (inl x) (inr y) = inr (y.0, y.1, weaker₂ y.0 y.2, y.3, y.4)
  moved_then r t n t₁ n₁ t₂ n₂ (inr x) (inr y) = inr (y.0, y.1, weaker₂ y.0 y.2, y.3, y.4)

  pub records_then : RecordsKept unused meta metrics Made xs xs₂ es es₂
  records_then = record {
    long = b.long ∙ a.long;
    stays = λ id r e. b.stays id r (a.stays id r e);
    fresh = fresh_then;
    used = λ r u. a.used r (b.used r u);
    marks = λ r x x₂ e e₂.
        let y = at-number xs₁ r (subst (λ (l : ℕ). r < l) (sym a.long) (slice_get_within xs r x e)) in
        moved_then r (meta x) (metrics x) (meta y.0) (metrics y.0) (meta x₂) (metrics x₂) (a.marks r x y.0 e y.1) (b.marks r y.0 x₂ y.1 e₂);
  }

-- ---- tables

-- tables that nothing was done to are the memory that was lent, and so are those after one call and another
pub tables_kept : {T : Type 0} (t : FlushTables T) → SameTables t t
tables_kept t = record { spans = refl; span_meta = refl; span_metrics = refl; segment_meta = refl; segment_metrics = refl }

pub tables_then : {T : Type 0} (t t₁ t₂ : FlushTables T) → SameTables t t₁ → SameTables t₁ t₂ → SameTables t t₂
tables_then t t₁ t₂ a b = record {
  spans = b.spans ∙ a.spans;
  span_meta = b.span_meta ∙ a.span_meta;
  span_metrics = b.span_metrics ∙ a.span_metrics;
  segment_meta = b.segment_meta ∙ a.segment_meta;
  segment_metrics = b.segment_metrics ∙ a.segment_metrics;
}

-- nothing changed
pub only_start : {T : Type 0} (k : PairKind) (t : FlushTables T) → PairOnly k t t
only_start Meta t = record { memory = tables_kept t; span_metrics = refl; segment_meta = refl; segment_metrics = refl; strings = refl; defaults = refl }
only_start Metric t = record { memory = tables_kept t; span_meta = refl; segment_meta = refl; segment_metrics = refl; strings = refl; defaults = refl }

pub segment_only_start : {T : Type 0} (k : PairKind) (t : FlushTables T) → SegmentPairOnly k t t
segment_only_start Meta t = record { memory = tables_kept t; spans = refl; span_meta = refl; span_metrics = refl; segment_metrics = refl; strings = refl; defaults = refl }
segment_only_start Metric t = record { memory = tables_kept t; spans = refl; span_meta = refl; span_metrics = refl; segment_meta = refl; strings = refl; defaults = refl }

-- spans and their rows for pairs of one kind alone changed, and then again
pub only_then : {T : Type 0} (k : PairKind) (t t₁ t₂ : FlushTables T) → PairOnly k t t₁ → PairOnly k t₁ t₂ → PairOnly k t t₂
only_then Meta t t₁ t₂ a b = record {
  memory = tables_then t t₁ t₂ a.memory b.memory;
  span_metrics = b.span_metrics ∙ a.span_metrics;
  segment_meta = b.segment_meta ∙ a.segment_meta;
  segment_metrics = b.segment_metrics ∙ a.segment_metrics;
  strings = b.strings ∙ a.strings;
  defaults = b.defaults ∙ a.defaults;
}
only_then Metric t t₁ t₂ a b = record {
  memory = tables_then t t₁ t₂ a.memory b.memory;
  span_meta = b.span_meta ∙ a.span_meta;
  segment_meta = b.segment_meta ∙ a.segment_meta;
  segment_metrics = b.segment_metrics ∙ a.segment_metrics;
  strings = b.strings ∙ a.strings;
  defaults = b.defaults ∙ a.defaults;
}

-- ---- a pair where strings lie beside the parts, and stay

module _ {T : Type 0} (bytes : T → Text) (id : ℕ) (w : Writing) (t n : FlushTables T) (a : Result (Unit {0}) ChangeBufferError) where
  pub beside_strings : (r : ℕ) (k : PairKind) → PairOnly k t n → OnSpanHeld bytes id r w (with_pairs k t) (with_pairs k n) a
      → OnSpanHeld bytes id r w (λ m. with_strings t.strings.now (with_pairs k t m)) (λ m. with_strings n.strings.now (with_pairs k n m)) a
  beside_strings r Meta only d = λ m o own. rw only.strings (d (with_strings t.strings.now m) o own)
  beside_strings r Metric only d = λ m o own. rw only.strings (d (with_strings t.strings.now m) o own)

  pub seated_beside_strings : (ys ys' : List (Segment T)) (es : List Entry) (k : PairKind) → SegmentPairOnly k t n
      → OnSegmentIfStanding bytes id w (λ m. with_seats es (with_segment_pairs k t ys m)) (λ m. with_seats es (with_segment_pairs k n ys' m)) a
      → OnSegmentIfStanding bytes id w (λ m. with_strings t.strings.now (with_seats es (with_segment_pairs k t ys m))) (λ m. with_strings n.strings.now (with_seats es (with_segment_pairs k n ys' m))) a
  seated_beside_strings ys ys' es Meta only d = λ m o. rw only.strings (d (with_strings t.strings.now m) o)
  seated_beside_strings ys ys' es Metric only d = λ m o. rw only.strings (d (with_strings t.strings.now m) o)

-- ---- actions

module _ {T : Type 0} (m m₁ m₂ : Store T) where
  spans_then : (Made Made₁ Made₂ : ℕ → Type 0) → ((id : ℕ) → Made₁ id → Made id) → ((id : ℕ) → Made₂ id → Made id) → SpansKept Made₁ m m₁ → SpansKept Made₂ m₁ m₂ → SpansKept Made m m₂
  spans_then Made Made₁ Made₂ f g a b = records_then free (λ x. x.meta) (λ x. x.metrics) Made Made₁ Made₂ m.spans m₁.spans m₂.spans m.ids m₁.ids m₂.ids f g a b

  -- a segment that is absent later was absent before
  absent-before : SegmentsKept m m₁ → (id : ℕ) → at m₁.seats id ≡ None → at m.seats id ≡ None
  absent-before a id none = by (at m.seats id) refl
    where
      by : (o : Option ℕ) → at m.seats id ≡ o → at m.seats id ≡ None
      by None e = e
      by (Some g) e = absurd (none-some g (sym none ∙ (a.stays id g e)))

  segments_then : SegmentsKept m m₁ → SegmentsKept m₁ m₂ → SegmentsKept m m₂
  segments_then a b =
      records_then gone (λ y. y.meta) (λ y. y.metrics) (λ id. at m.seats id ≡ None) (λ id. at m.seats id ≡ None) (λ id. at m₁.seats id ≡ None)
      m.segments m₁.segments m₂.segments m.seats m₁.seats m₂.seats (λ id e. e) (absent-before a) a b

module _ {T : Type 0} (bytes : T → Text) (act : Act (Unit {0})) (buffer : List ℕ) (Made : ℕ → Type 0) (m : Store T) (p : ℕ) where
  -- no turn yet
  pub played_start : InOrder m → Played bytes (times 0 act) Made buffer m m p p (Ok tt)
  played_start o = record {
    order = o;
    acts = acts-start buffer act (Shows bytes m) p;
    spans_kept = records-same free (λ x. x.meta) (λ x. x.metrics) Made m.spans m.ids;
    segments_kept = records-same gone (λ y. y.meta) (λ y. y.metrics) _ m.segments m.seats;
  }

  module _ (Made₂ : ℕ → Type 0) (weaker : (id : ℕ) → Made₂ id → Made id) (m₁ m₂ : Store T) (n p₁ p₂ : ℕ) (a : Played bytes (times n act) Made buffer m m₁ p p₁ (Ok tt)) where
    -- one turn more
    pub played_more : Played bytes act Made₂ buffer m₁ m₂ p₁ p₂ (Ok tt) → Played bytes (times (n + 1) act) Made buffer m m₂ p p₂ (Ok tt)
    played_more b = record {
      order = b.order;
      acts = acts-more buffer n act (Shows bytes m) (Shows bytes m₁) (Shows bytes m₂) p p₁ p₂ a.acts b.acts;
      spans_kept = spans_then m m₁ m₂ Made Made Made₂ (λ id e. e) weaker a.spans_kept b.spans_kept;
      segments_kept = segments_then m m₁ m₂ a.segments_kept b.segments_kept;
    }

    -- refused in a turn, with k more to come
    pub played_turned : (k all : ℕ) (e : ChangeBufferError) → n + suc k ≡ all → Played bytes act Made₂ buffer m₁ m₂ p₁ p₂ (Err e) → Played bytes (times all act) Made buffer m m₂ p p₂ (Err e)
    played_turned k all e same b = record {
      order = b.order;
      acts = acts-count buffer (n + suc k) all act (Shows bytes m) (Shows bytes m₂) p _ same (acts-turned buffer n k act (Shows bytes m) (Shows bytes m₁) (Shows bytes m₂) p p₁ (refusal e) a.acts b.acts);
      spans_kept = spans_then m m₁ m₂ Made Made Made₂ (λ id e. e) weaker a.spans_kept b.spans_kept;
      segments_kept = segments_then m m₁ m₂ a.segments_kept b.segments_kept;
    }
