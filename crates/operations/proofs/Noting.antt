-- One writing to a segment.
use Rattle.std.proofs.Common.{◌≡◌, ℕ, ◌+◌, ◌<◌, ◌≤◌, true, false, not, List, [], ◌∷◌, ◌++◌, map, length, take, set, Some, None, Ok, Err, Option, Result, sym, refl, ap, ◌∙◌, subst, inl, arith}
use Rattle.std.specs.Option.{ok_or}
use Rattle.std.specs.List.{slice_get}
use Rattle.std.proofs.lemmas.Bool.{lt-ltb, le-ltb}
use Rattle.vec_map.specs.declared.head.Head.{Head}
use Rattle.vec_map.specs.Tables.{row, OthersStay}
use Rattle.index.specs.declared.entry.Entry.{Entry}
use Rattle.index.specs.Held.{at}
use Rattle.refusals.specs.declared.ChangeBufferError.{ChangeBufferError}
use Rattle.refusals.specs.declared.ChangeBufferError.TheVariants.{RowFull}
use Rattle.book.specs.Limits.{segment_text_limit, segment_number_limit, most_count}
use Rattle.book.specs.Maps.{find, put}
use Rattle.book.specs.Book.{Text, trace, parent, service, name, resource, type, start, duration, error, origin, rule, limit, agent, text, Writing, ◌≔◌, meta, metric, texts, numbers, has_place, note, Book, with_segments}
use Rattle.book.specs.Book as book
use Rattle.book.specs.Refusals.{row_full}
use Rattle.book.specs.Actions.{fault, went, stopped, ◌>>=◌, give, look, ask, change}
use Rattle.book.specs.Flush.{write_found, write_segment}
use Rattle.book.proofs.Boths.{both-left-none}
use Rattle.tables.specs.declared.segment.Segment.{Segment}
use Rattle.tables.specs.Store.{Store, store, Rowed, chained, segment_at, free}
use Rattle.tables.specs.InOrder.{InOrder}
use Rattle.tables.specs.Shows.{text_pair, number_pair, LikeSegment, Shows}
use Rattle.operations.specs.Inserts.{one_longer, Inserts}
use Rattle.operations.specs.declared.inner.flush_tables.FlushTables.{FlushTables}
use Rattle.operations.specs.declared.values.PairKind.{PairKind}
use Rattle.operations.specs.declared.values.PairKind.TheVariants.{Meta, Metric}
use Rattle.operations.specs.Parts.{with_segment_pairs, with_seats}
use Rattle.operations.specs.Done.{RowMoved, Done, NoneMade, OnSeat, OnSegmentIfStanding, gone}
use Rattle.operations.proofs.Taking.{put_same, seats-within}
use Rattle.operations.proofs.Keeping.{records-same, records-set}
use Rattle.operations.proofs.Segments.{seat_stands, seat_order, seat_shown, seat_own}
use Rattle.operations.proofs.Writing.{plays-on, done_refused, set-same, row_count, row_more, row_grew, rows_within, by_field}

module _ (id : ℕ) (w : Writing) (b : Book) (rest : List ℕ) where
  note-gone : find id b.segments ≡ None → write_segment id w b rest ≡ went tt b rest
  unfolding write_segment write_found ◌>>=◌ look give
  note-gone e = rw e refl

  module _ (k : book.Segment) (e : find id b.segments ≡ Some k) where
    note-went : has_place segment_text_limit segment_number_limit k.since w ≡ true → write_segment id w b rest ≡ went tt (with_segments (put id (note w k) b.segments) b) rest
    unfolding write_segment write_found ◌>>=◌ look ask change
    note-went p = rw (e, p) refl

    note-full : has_place segment_text_limit segment_number_limit k.since w ≡ false → write_segment id w b rest ≡ stopped (fault (row_full id)) b
    unfolding write_segment write_found ◌>>=◌ look ask change
    note-full p = rw (e, p) refl

module _ {T : Type 0} where
  -- a segment record with another head of a row, or another origin
  abbrev pub with_meta_head : Head → Segment T → Segment T
  with_meta_head h y = record { id = y.id; count = y.count; meta = h; metrics = y.metrics; origin = y.origin; rule = y.rule; limit = y.limit; agent = y.agent }

  abbrev pub with_metrics_head : Head → Segment T → Segment T
  with_metrics_head h y = record { id = y.id; count = y.count; meta = y.meta; metrics = h; origin = y.origin; rule = y.rule; limit = y.limit; agent = y.agent }

  abbrev pub with_origin : Option T → Segment T → Segment T
  with_origin t y = record { id = y.id; count = y.count; meta = y.meta; metrics = y.metrics; origin = t; rule = y.rule; limit = y.limit; agent = y.agent }

  abbrev rowed : Segment T → List (T × T) → List (T × ℕ) → Rowed (Segment T) T
  rowed y ms ns = record { head = y; texts = take y.meta.count ms; numbers = take y.metrics.count ns }

module _ {T : Type 0} (bytes : T → Text) where
  meta-like : (y : Segment T) (h : Head) (g : ℕ) (ms ms' : List (T × T)) (ns : List (T × ℕ)) (k v : T) (s : book.Segment) → h ≡ one_longer y.meta
      → take (y.meta.count + 1) (row 32 g ms') ≡ take y.meta.count (row 32 g ms) ++ (k, v) ∷ [] → LikeSegment bytes (rowed y (row 32 g ms) ns) s
      → LikeSegment bytes (rowed (with_meta_head h y) (row 32 g ms') ns) (note (meta (bytes k) (bytes v)) s)
  meta-like y h g ms ms' ns k v s e p l = record {
    counted = l.counted;
    fields = by_field _ (l.fields trace) (l.fields parent) (l.fields service) (l.fields name) (l.fields resource) (l.fields type) (l.fields start) (l.fields duration) (l.fields error) (l.fields origin) (l.fields rule) (l.fields limit) (l.fields agent);
    text_row = ap (λ (n : ℕ). map (text_pair bytes) (take n (row 32 g ms'))) (ap (λ z. z.count) e) ∙ row_more (text_pair bytes) y.meta.count 32 g ms ms' (k, v) _ p l.text_row;
    number_row = l.number_row;
  }

  metric-like : (y : Segment T) (h : Head) (g : ℕ) (ms : List (T × T)) (ns ns' : List (T × ℕ)) (k : T) (v : ℕ) (s : book.Segment) → h ≡ one_longer y.metrics
      → take (y.metrics.count + 1) (row 16 g ns') ≡ take y.metrics.count (row 16 g ns) ++ (k, v) ∷ [] → LikeSegment bytes (rowed y ms (row 16 g ns)) s
      → LikeSegment bytes (rowed (with_metrics_head h y) ms (row 16 g ns')) (note (metric (bytes k) v) s)
  metric-like y h g ms ns ns' k v s e p l = record {
    counted = l.counted;
    fields = by_field _ (l.fields trace) (l.fields parent) (l.fields service) (l.fields name) (l.fields resource) (l.fields type) (l.fields start) (l.fields duration) (l.fields error) (l.fields origin) (l.fields rule) (l.fields limit) (l.fields agent);
    text_row = l.text_row;
    number_row = ap (λ (n : ℕ). map (number_pair bytes) (take n (row 16 g ns'))) (ap (λ z. z.count) e) ∙ row_more (number_pair bytes) y.metrics.count 16 g ns ns' (k, v) _ p l.number_row;
  }

  origin-like : (y : Segment T) (t : T) (ms : List (T × T)) (ns : List (T × ℕ)) (s : book.Segment) → LikeSegment bytes (rowed y ms ns) s
      → LikeSegment bytes (rowed (with_origin (Some t) y) ms ns) (note (origin ≔ text (bytes t)) s)
  origin-like y t ms ns s l = record {
    counted = l.counted;
    fields = by_field _ (l.fields trace) (l.fields parent) (l.fields service) (l.fields name) (l.fields resource) (l.fields type) (l.fields start) (l.fields duration) (l.fields error) refl (l.fields rule) (l.fields limit) (l.fields agent);
    text_row = l.text_row;
    number_row = l.number_row;
  }

-- ---- a segment that is gone

pub done_dropped : {T : Type 0} (bytes : T → Text) (m : Store T) (id : ℕ) (w : Writing) → InOrder m → at m.seats id ≡ None → Done bytes (write_segment id w) NoneMade m m (Ok tt)
done_dropped bytes m id w o none = record {
  order = o;
  plays = plays-on bytes (write_segment id w) m m (λ b rest h.
      (b, note-gone id w b rest (both-left-none (LikeSegment bytes) _ _ (h.segments.each id) (ap (chained (segment_at m.segments m.segment_meta m.segment_metrics)) none)), h));
  spans_kept = records-same free (λ x. x.meta) (λ x. x.metrics) NoneMade m.spans m.ids;
  segments_kept = records-same gone (λ y. y.meta) (λ y. y.metrics) _ m.segments m.seats;
}

-- ---- one that stands

module _ {T : Type 0} (m : Store T) (o : InOrder m) (id g : ℕ) (own : at m.seats id ≡ Some g) where
  pub seat_within : g < length m.segments
  seat_within = seats-within m o id g own

  module _ (y : Segment T) (is : slice_get m.segments g ≡ Some y) where
    stood : (0 < y.count) × (y.id ≡ id)
    stood = seat_stands m o g id y is (inl own) own

    few_are : (y.meta.count ≤ segment_text_limit) × (y.metrics.count ≤ segment_number_limit) × (y.count ≤ most_count)
    few_are = o.segments.limits g y is (lt-ltb 0 y.count stood.0)

    record Own (bytes : T → Text) (b : Book) : Type 0 where
      segment : book.Segment
      found : find id b.segments ≡ Some segment
      like : LikeSegment bytes (rowed y (row 32 g m.segment_meta) (row 16 g m.segment_metrics)) segment
      texts_long : length (texts segment.since) ≡ y.meta.count
      numbers_long : length (numbers segment.since) ≡ y.metrics.count

    own_segment : (bytes : T → Text) (b : Book) → Shows bytes m b → Own bytes b
    own_segment bytes b h =
        let k = seat_own m o g id y is (inl own) bytes b h own in
        let f = few_are in
        record {
          segment = k.0;
          found = k.1;
          like = k.2;
          texts_long = row_count (text_pair bytes) y.meta.count 32 g m.segment_meta _ k.2.text_row f.0 (rows_within g (length m.segments) 32 _ seat_within o.segment_lengths.text_rows);
          numbers_long = row_count (number_pair bytes) y.metrics.count 16 g m.segment_metrics _ k.2.number_row f.1 (rows_within g (length m.segments) 16 _ seat_within o.segment_lengths.number_rows);
        }

    -- a writing that finds its place
    module _ (bytes : T → Text) (w : Writing) (y' : Segment T) (ms' : List (T × T)) (ns' : List (T × ℕ)) (counted : y'.count ≡ y.count) (named : y'.id ≡ y.id)
        (lm : length ms' ≡ length m.segment_meta) (ln : length ns' ≡ length m.segment_metrics) (om : OthersStay 32 g m.segment_meta ms') (on : OthersStay 16 g m.segment_metrics ns')
        (few : (y'.meta.count ≤ segment_text_limit) × (y'.metrics.count ≤ segment_number_limit)) (moved : RowMoved y.meta y'.meta × RowMoved y.metrics y'.metrics)
        (placed : (s : book.Segment) → length (texts s.since) ≡ y.meta.count → length (numbers s.since) ≡ y.metrics.count → has_place segment_text_limit segment_number_limit s.since w ≡ true)
        (like : (s : book.Segment) → LikeSegment bytes (rowed y (row 32 g m.segment_meta) (row 16 g m.segment_metrics)) s → LikeSegment bytes (rowed y' (row 32 g ms') (row 16 g ns')) (note w s)) where
      abbrev segment_written : Store T
      segment_written = store m.spans m.span_meta m.span_metrics (set m.segments g y') ms' ns' m.strings m.defaults m.settings m.ids m.ids_room m.seats m.seats_room

      done_noted : Done bytes (write_segment id w) NoneMade m segment_written (Ok tt)
      done_noted =
          let s = stood in
          let k : 0 < y'.count = subst (λ (n : ℕ). 0 < n) (sym counted) s.0 in
          let i : y'.id ≡ id = named ∙ s.1 in
          let p = put_same m.seats id g own in
          let f : (y'.meta.count ≤ segment_text_limit) × (y'.metrics.count ≤ segment_number_limit) × (y'.count ≤ most_count) = (few.0, few.1, subst (λ (n : ℕ). n ≤ most_count) (sym counted) few_are.2) in
          record {
            order = seat_order m o g id y is (inl own) y' ms' ns' m.seats m.seats_room k i p lm ln refl f;
            plays = plays-on bytes (write_segment id w) m segment_written (λ b rest h.
                let s = own_segment bytes b h in (
                  with_segments (put id (note w s.segment) b.segments) b,
                  note-went id w b rest s.segment s.found (placed s.segment s.texts_long s.numbers_long),
                  seat_shown m o g id y is (inl own) y' ms' ns' m.seats m.seats_room k i p lm ln refl f om on bytes b (note w s.segment) h (like s.segment s.like),
                ));
            spans_kept = records-same free (λ x. x.meta) (λ x. x.metrics) NoneMade m.spans m.ids;
            segments_kept = records-set gone (λ y. y.meta) (λ y. y.metrics) _ m.segments m.seats m.seats g id y y' is (ap not (lt-ltb 0 y'.count k)) p (inl own) (inl moved);
          }

    done_full : (bytes : T → Text) (w : Writing) → ((s : book.Segment) → length (texts s.since) ≡ y.meta.count → length (numbers s.since) ≡ y.metrics.count → has_place segment_text_limit segment_number_limit s.since w ≡ false)
        → Done bytes (write_segment id w) NoneMade m m (Err (RowFull id))
    done_full bytes w no_place = done_refused bytes (write_segment id w) NoneMade m (row_full id) (RowFull id) refl o (λ b rest h.
        let s = own_segment bytes b h in note-full id w b rest s.segment s.found (no_place s.segment s.texts_long s.numbers_long))

    pub done_origin : (bytes : T → Text) (t : T)
        → Done bytes (write_segment id (origin ≔ text (bytes t))) NoneMade m (store m.spans m.span_meta m.span_metrics (set m.segments g (with_origin (Some t) y)) m.segment_meta m.segment_metrics m.strings m.defaults m.settings m.ids m.ids_room m.seats m.seats_room) (Ok tt)
    done_origin bytes t =
        done_noted bytes (origin ≔ text (bytes t)) (with_origin (Some t) y) m.segment_meta m.segment_metrics refl refl refl refl (λ j n. refl) (λ j n. refl) (few_are.0, few_are.1) (inl refl, inl refl)
        (λ s a b. refl) (λ s l. origin-like bytes y t _ _ s l)

    -- a text pair, or no place for it
    pub done_meta : (bytes : T → Text) (k v : T) (ms' : List (T × T)) (h : Head) (a : Option (Unit {0})) → length ms' ≡ length m.segment_meta → Inserts 32 g 32 m.segment_meta ms' y.meta h (k, v) a
        → Done bytes (write_segment id (meta (bytes k) (bytes v))) NoneMade m (store m.spans m.span_meta m.span_metrics (set m.segments g (with_meta_head h y)) ms' m.segment_metrics m.strings m.defaults m.settings m.ids m.ids_room m.seats m.seats_room) (ok_or a (RowFull id))
    done_meta bytes k v ms' h (Some u) l i =
        let c = ap (λ z. z.count) i.head in
        let a = i.place in
        done_noted bytes (meta (bytes k) (bytes v)) (with_meta_head h y) ms' m.segment_metrics refl refl l refl i.others (λ j n. refl) (omega (arith, c, a), few_are.1) (row_grew y.meta h i.head, inl refl)
        (λ s t n. lt-ltb (length (texts s.since)) 32 (omega (arith, t, a)))
        (λ s like. meta-like bytes y h g m.segment_meta ms' (row 16 g m.segment_metrics) k v s i.head i.pairs like)
    done_meta bytes k v ms' h None l i =
        let same : set m.segments g (with_meta_head h y) ≡ m.segments = ap (λ z. set m.segments g (with_meta_head z y)) i.2 ∙ set-same m.segments g y is in
        subst (λ zs. Done bytes (write_segment id (meta (bytes k) (bytes v))) NoneMade m (store m.spans m.span_meta m.span_metrics zs ms' m.segment_metrics m.strings m.defaults m.settings m.ids m.ids_room m.seats m.seats_room) (Err (RowFull id))) (sym same)
        (subst (λ zs. Done bytes (write_segment id (meta (bytes k) (bytes v))) NoneMade m (store m.spans m.span_meta m.span_metrics m.segments zs m.segment_metrics m.strings m.defaults m.settings m.ids m.ids_room m.seats m.seats_room) (Err (RowFull id))) (sym i.1)
        (done_full bytes (meta (bytes k) (bytes v)) (λ s t n. let le = i.0 in le-ltb (length (texts s.since)) 32 (omega (arith, t, le)))))

    -- a number pair
    pub done_metric : (bytes : T → Text) (k : T) (v : ℕ) (ns' : List (T × ℕ)) (h : Head) (a : Option (Unit {0})) → length ns' ≡ length m.segment_metrics → Inserts 16 g 16 m.segment_metrics ns' y.metrics h (k, v) a
        → Done bytes (write_segment id (metric (bytes k) v)) NoneMade m (store m.spans m.span_meta m.span_metrics (set m.segments g (with_metrics_head h y)) m.segment_meta ns' m.strings m.defaults m.settings m.ids m.ids_room m.seats m.seats_room) (ok_or a (RowFull id))
    done_metric bytes k v ns' h (Some u) l i =
        let c = ap (λ z. z.count) i.head in
        let a = i.place in
        done_noted bytes (metric (bytes k) v) (with_metrics_head h y) m.segment_meta ns' refl refl refl l (λ j n. refl) i.others (few_are.0, omega (arith, c, a)) (inl refl, row_grew y.metrics h i.head)
        (λ s t n. lt-ltb (length (numbers s.since)) 16 (omega (arith, n, a)))
        (λ s like. metric-like bytes y h g (row 32 g m.segment_meta) m.segment_metrics ns' k v s i.head i.pairs like)
    done_metric bytes k v ns' h None l i =
        let same : set m.segments g (with_metrics_head h y) ≡ m.segments = ap (λ z. set m.segments g (with_metrics_head z y)) i.2 ∙ set-same m.segments g y is in
        subst (λ zs. Done bytes (write_segment id (metric (bytes k) v)) NoneMade m (store m.spans m.span_meta m.span_metrics zs m.segment_meta ns' m.strings m.defaults m.settings m.ids m.ids_room m.seats m.seats_room) (Err (RowFull id))) (sym same)
        (subst (λ zs. Done bytes (write_segment id (metric (bytes k) v)) NoneMade m (store m.spans m.span_meta m.span_metrics m.segments m.segment_meta zs m.strings m.defaults m.settings m.ids m.ids_room m.seats m.seats_room) (Err (RowFull id))) (sym i.1)
        (done_full bytes (metric (bytes k) v) (λ s t n. let le = i.0 in le-ltb (length (numbers s.since)) 16 (omega (arith, n, le)))))

-- ---- a pair on a segment that is looked up, and stands

pub seated : {T : Type 0} (bytes : T → Text) (id g : ℕ) (w : Writing) (k : PairKind) (t n : FlushTables T) (ys ys' : List (Segment T)) (es : List Entry) (a : Result (Unit {0}) ChangeBufferError) → at es id ≡ Some g
    → OnSeat bytes id g w (with_segment_pairs k t ys) (with_segment_pairs k n ys') a → OnSegmentIfStanding bytes id w (λ m. with_seats es (with_segment_pairs k t ys m)) (λ m. with_seats es (with_segment_pairs k n ys' m)) a
seated bytes id g w Meta t n ys ys' es a own d = λ m o. d (with_seats es m) o own
seated bytes id g w Metric t n ys ys' es a own d = λ m o. d (with_seats es m) o own
