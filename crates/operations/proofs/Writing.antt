-- One writing to a live span.
use Rattle.std.proofs.Common.{◌≡◌, ℕ, ◌+◌, ◌*◌, ◌<◌, ◌≤◌, true, false, cond, List, [], ◌∷◌, ◌++◌, map, length, take, drop, set, Some, None, Ok, Err, Option, sym, refl, ap, ◌∙◌, subst, inl, inr, mul-le-mul_right, add-mul, one-mul, arith, length-drop}
use lib.ListN.{length-map}
use Rattle.std.specs.List.{slice_get}
use Rattle.std.specs.Option.{ok_or}
use Rattle.std.proofs.lemmas.List.{map-append, length-take-le, set-get_or}
use Rattle.std.proofs.lemmas.Option.{none-some, get_or_from_slice_get}
use Rattle.std.proofs.lemmas.Bool.{lt-ltb, le-ltb}
use Rattle.vec_map.specs.declared.head.Head.{Head}
use Rattle.vec_map.specs.Tables.{row, OthersStay}
use Rattle.index.specs.Held.{at}
use Rattle.index.proofs.Entries.{same_some}
use Rattle.refusals.specs.declared.ChangeBufferError.{ChangeBufferError}
use Rattle.refusals.specs.declared.ChangeBufferError.TheVariants.{RowFull}
use Rattle.book.specs.Limits.{span_text_limit, span_number_limit}
use Rattle.book.specs.Maps.{find, put}
use Rattle.book.specs.Book.{Text, Field, trace, parent, service, name, resource, type, start, duration, error, origin, rule, limit, agent, Writing, ◌≔◌, meta, metric, texts, has_place, written, span_texts, span_numbers, write, Book, with_live}
use Rattle.book.specs.Book as book
use Rattle.book.specs.Refusals.{Cause, because, row_full}
use Rattle.book.specs.Actions.{fault, went, stopped, Act, ◌>>=◌, look, the, ask, change}
use Rattle.book.specs.Acts.{Acts}
use Rattle.book.specs.Flush.{live_span, write_span}
use Rattle.tables.specs.declared.span.Mark.{Mark}
use Rattle.tables.specs.declared.span.Mark.TheVariants.{Free, Live, HandedOut}
use Rattle.tables.specs.declared.span.Span.{Span}
use Rattle.tables.specs.Store.{Store, store, Rowed, live_key, is_live, is_free, free}
use Rattle.tables.specs.InOrder.{Within, InOrder}
use Rattle.tables.specs.Shows.{text_pair, number_pair, LikeSpan, Shows}
use Rattle.recorder.specs.Answers.{refusal}
use Rattle.operations.specs.declared.values.SpanField.{SpanField}
use Rattle.operations.specs.declared.values.SpanField.TheVariants.{Service, Resource, Kind, Name, Error, Start, Duration}
use Rattle.operations.specs.Fields.{with_field, field_written}
use Rattle.operations.specs.Inserts.{one_longer, Inserts}
use Rattle.operations.specs.Done.{RowMoved, ending, Done, NoneMade, gone}
use Rattle.operations.proofs.Taking.{put_same, key-is, ids-within}
use Rattle.operations.proofs.Keeping.{records-same, records-set}
use Rattle.operations.proofs.Spans.{same-settings, span-order, span-shown, span_own}

-- ---- the book's action, played

module _ {T : Type 0} (bytes : T → Text) (act : Act (Unit {0})) where
  pub plays-on : (m m' : Store T) → ((b : Book) (rest : List ℕ) → Shows bytes m b → (b' : Book) × (act b rest ≡ went tt b' rest) × Shows bytes m' b')
      → (buffer : List ℕ) (offset : ℕ) → Acts act buffer (Shows bytes m) offset (Shows bytes m') (ending offset (Ok tt))
  plays-on m m' h buffer offset = record {
    acts = λ b l s. let x = h b (drop offset buffer) s in (x.0, x.1, l, x.2);
  }

  -- refused with nothing changed
  pub done_refused : (Made : ℕ → Type 0) (m : Store T) (c : Cause) (e : ChangeBufferError) → refusal e ≡ because c → InOrder m
      → ((b : Book) (rest : List ℕ) → Shows bytes m b → act b rest ≡ stopped (fault c) b) → Done bytes act Made m m (Err e)
  done_refused Made m c e r o h = record {
    order = o;
    plays = λ buffer offset. record { acts = λ b l s. (fault c, (b, h b (drop offset buffer) s, r, s)) };
    spans_kept = records-same free (λ x. x.meta) (λ x. x.metrics) Made m.spans m.ids;
    segments_kept = records-same gone (λ y. y.meta) (λ y. y.metrics) _ m.segments m.seats;
  }

module _ (id : ℕ) (w : Writing) (b : Book) (rest : List ℕ) (s : book.Span) (e : find id b.live ≡ Some s) where
  write-went : has_place span_text_limit span_number_limit (written s) w ≡ true → write_span id w b rest ≡ went tt (with_live (put id (write w s) b.live) b) rest
  unfolding write_span live_span ◌>>=◌ look the ask change
  write-went k = rw (e, k) refl

  write-full : has_place span_text_limit span_number_limit (written s) w ≡ false → write_span id w b rest ≡ stopped (fault (row_full id)) b
  unfolding write_span live_span ◌>>=◌ look the ask change
  write-full k = rw (e, k) refl

-- ---- rows

-- a record written where it stands already
pub set-same : {A : Type 0} (xs : List A) (r : ℕ) (x : A) → slice_get xs r ≡ Some x → set xs r x ≡ xs
set-same xs r x is = ap (set xs r) (sym (get_or_from_slice_get xs r x x is)) ∙ set-get_or xs r x

-- the rows of a record lie in their table
pub rows_within : (r n w l : ℕ) → r < n → l ≡ n * w → r * w + w ≤ l
rows_within r n w l lt e =
    let a : r + 1 ≤ n = omega arith in
    omega (arith, e, mul-le-mul_right {m = r + 1} {n = n} w a, add-mul r 1 w, one-mul w)

-- a row's pairs in the book are as many as its count says
pub row_count : {P Q : Type 0} (f : P → Q) (n w k : ℕ) (ms : List P) (ps : List Q) → map f (take n (row w k ms)) ≡ ps → n ≤ w → k * w + w ≤ length ms → length ps ≡ n
row_count f n w k ms ps e le l =
    let a : w ≤ length (drop (k * w) ms) = simp length-drop (omega arith) in
    let b : length (row w k ms) ≡ w = length-take-le w (drop (k * w) ms) a in
    ap length (sym e) ∙ (length-map (take n (row w k ms)) f ∙ length-take-le n (row w k ms) (omega (arith, b)))

-- one pair more
pub row_more : {P Q : Type 0} (f : P → Q) (n w k : ℕ) (ms ms' : List P) (p : P) (ps : List Q) → take (n + 1) (row w k ms') ≡ take n (row w k ms) ++ p ∷ [] → map f (take n (row w k ms)) ≡ ps
    → map f (take (n + 1) (row w k ms')) ≡ ps ++ f p ∷ []
row_more f n w k ms ms' p ps e h = ap (map f) e ∙ (map-append f (take n (row w k ms)) (p ∷ []) ∙ ap (λ z. z ++ f p ∷ []) h)

pub row_grew : (old new : Head) → new ≡ one_longer old → RowMoved old new
row_grew old new e = inr (let c = ap (λ h. h.count) e in omega (arith, c), ap (λ h. h.deduped) e)

-- ---- what is shown

pub by_field : (P : Field → Type 0) → P trace → P parent → P service → P name → P resource → P type → P start → P duration → P error → P origin → P rule → P limit → P agent → (f : Field) → P f
by_field P a b c d e g h i j k l n o trace = a
by_field P a b c d e g h i j k l n o parent = b
by_field P a b c d e g h i j k l n o service = c
by_field P a b c d e g h i j k l n o name = d
by_field P a b c d e g h i j k l n o resource = e
by_field P a b c d e g h i j k l n o type = g
by_field P a b c d e g h i j k l n o start = h
by_field P a b c d e g h i j k l n o duration = i
by_field P a b c d e g h i j k l n o error = j
by_field P a b c d e g h i j k l n o origin = k
by_field P a b c d e g h i j k l n o rule = l
by_field P a b c d e g h i j k l n o limit = n
by_field P a b c d e g h i j k l n o agent = o

module _ {T : Type 0} where
  -- a span record with another head of a row
  abbrev pub with_meta_head : Head → Span T → Span T
  with_meta_head h x = record { mark = x.mark; id = x.id; segment = x.segment; meta = h; metrics = x.metrics; trace = x.trace; parent = x.parent; start = x.start; duration = x.duration; error = x.error; service = x.service; name = x.name; resource = x.resource; kind = x.kind }

  abbrev pub with_metrics_head : Head → Span T → Span T
  with_metrics_head h x = record { mark = x.mark; id = x.id; segment = x.segment; meta = x.meta; metrics = h; trace = x.trace; parent = x.parent; start = x.start; duration = x.duration; error = x.error; service = x.service; name = x.name; resource = x.resource; kind = x.kind }

  abbrev pub rowed : Span T → List (T × T) → List (T × ℕ) → Rowed (Span T) T
  rowed x ms ns = record { head = x; texts = take x.meta.count ms; numbers = take x.metrics.count ns }

module _ {T : Type 0} (bytes : T → Text) where
  meta-like : (x : Span T) (h : Head) (r : ℕ) (ms ms' : List (T × T)) (ns : List (T × ℕ)) (k v : T) (s : book.Span) → h ≡ one_longer x.meta
      → take (x.meta.count + 1) (row 99 r ms') ≡ take x.meta.count (row 99 r ms) ++ (k, v) ∷ [] → LikeSpan bytes (rowed x (row 99 r ms) ns) s
      → LikeSpan bytes (rowed (with_meta_head h x) (row 99 r ms') ns) (write (meta (bytes k) (bytes v)) s)
  meta-like x h r ms ms' ns k v s e p l = record {
    own_id = l.own_id;
    in_segment = l.in_segment;
    fields = by_field _ (l.fields trace) (l.fields parent) (l.fields service) (l.fields name) (l.fields resource) (l.fields type) (l.fields start) (l.fields duration) (l.fields error) (l.fields origin) (l.fields rule) (l.fields limit) (l.fields agent);
    text_row = ap (λ (n : ℕ). map (text_pair bytes) (take n (row 99 r ms'))) (ap (λ z. z.count) e) ∙ row_more (text_pair bytes) x.meta.count 99 r ms ms' (k, v) _ p l.text_row;
    number_row = l.number_row;
  }

  metric-like : (x : Span T) (h : Head) (r : ℕ) (ms : List (T × T)) (ns ns' : List (T × ℕ)) (k : T) (v : ℕ) (s : book.Span) → h ≡ one_longer x.metrics
      → take (x.metrics.count + 1) (row 54 r ns') ≡ take x.metrics.count (row 54 r ns) ++ (k, v) ∷ [] → LikeSpan bytes (rowed x ms (row 54 r ns)) s
      → LikeSpan bytes (rowed (with_metrics_head h x) ms (row 54 r ns')) (write (metric (bytes k) v) s)
  metric-like x h r ms ns ns' k v s e p l = record {
    own_id = l.own_id;
    in_segment = l.in_segment;
    fields = by_field _ (l.fields trace) (l.fields parent) (l.fields service) (l.fields name) (l.fields resource) (l.fields type) (l.fields start) (l.fields duration) (l.fields error) (l.fields origin) (l.fields rule) (l.fields limit) (l.fields agent);
    text_row = l.text_row;
    number_row = ap (λ (n : ℕ). map (number_pair bytes) (take n (row 54 r ns'))) (ap (λ z. z.count) e) ∙ row_more (number_pair bytes) x.metrics.count 54 r ns ns' (k, v) _ p l.number_row;
  }

  field-like : (f : SpanField T) (x : Span T) (ms : List (T × T)) (ns : List (T × ℕ)) (s : book.Span) → LikeSpan bytes (rowed x ms ns) s
      → LikeSpan bytes (rowed (with_field f x) ms ns) (write (field_written bytes f) s)
  field-like (Service t) x ms ns s l = record {
    own_id = l.own_id;
    in_segment = l.in_segment;
    text_row = l.text_row;
    number_row = l.number_row;
    fields = by_field _ (l.fields trace) (l.fields parent) refl (l.fields name) (l.fields resource) (l.fields type) (l.fields start) (l.fields duration) (l.fields error) (l.fields origin) (l.fields rule) (l.fields limit) (l.fields agent);
  }
  field-like (Resource t) x ms ns s l = record {
    own_id = l.own_id;
    in_segment = l.in_segment;
    text_row = l.text_row;
    number_row = l.number_row;
    fields = by_field _ (l.fields trace) (l.fields parent) (l.fields service) (l.fields name) refl (l.fields type) (l.fields start) (l.fields duration) (l.fields error) (l.fields origin) (l.fields rule) (l.fields limit) (l.fields agent);
  }
  field-like (Kind t) x ms ns s l = record {
    own_id = l.own_id;
    in_segment = l.in_segment;
    text_row = l.text_row;
    number_row = l.number_row;
    fields = by_field _ (l.fields trace) (l.fields parent) (l.fields service) (l.fields name) (l.fields resource) refl (l.fields start) (l.fields duration) (l.fields error) (l.fields origin) (l.fields rule) (l.fields limit) (l.fields agent);
  }
  field-like (Name t) x ms ns s l = record {
    own_id = l.own_id;
    in_segment = l.in_segment;
    text_row = l.text_row;
    number_row = l.number_row;
    fields = by_field _ (l.fields trace) (l.fields parent) (l.fields service) refl (l.fields resource) (l.fields type) (l.fields start) (l.fields duration) (l.fields error) (l.fields origin) (l.fields rule) (l.fields limit) (l.fields agent);
  }
  field-like (Error t) x ms ns s l = record {
    own_id = l.own_id;
    in_segment = l.in_segment;
    text_row = l.text_row;
    number_row = l.number_row;
    fields = by_field _ (l.fields trace) (l.fields parent) (l.fields service) (l.fields name) (l.fields resource) (l.fields type) (l.fields start) (l.fields duration) refl (l.fields origin) (l.fields rule) (l.fields limit) (l.fields agent);
  }
  field-like (Start t) x ms ns s l = record {
    own_id = l.own_id;
    in_segment = l.in_segment;
    text_row = l.text_row;
    number_row = l.number_row;
    fields = by_field _ (l.fields trace) (l.fields parent) (l.fields service) (l.fields name) (l.fields resource) (l.fields type) refl (l.fields duration) (l.fields error) (l.fields origin) (l.fields rule) (l.fields limit) (l.fields agent);
  }
  field-like (Duration t) x ms ns s l = record {
    own_id = l.own_id;
    in_segment = l.in_segment;
    text_row = l.text_row;
    number_row = l.number_row;
    fields = by_field _ (l.fields trace) (l.fields parent) (l.fields service) (l.fields name) (l.fields resource) (l.fields type) (l.fields start) refl (l.fields error) (l.fields origin) (l.fields rule) (l.fields limit) (l.fields agent);
  }

-- ---- a live record

-- the mark and the id of a record that has a key
marked_of : (k : Mark) (i q : ℕ) → cond (is_live k) (Some i) None ≡ Some q → (k ≡ Live) × (i ≡ q)
marked_of Free i q e = absurd (none-some q e)
marked_of Live i q e = (refl, same_some (Some i) i q refl e)
marked_of HandedOut i q e = absurd (none-some q e)

within_of : (k : Mark) (t n : ℕ) → k ≡ Live → Within k t n → (t ≤ span_text_limit) × (n ≤ span_number_limit)
within_of k t n e w = subst (λ z. Within z t n) e w

module _ {T : Type 0} (m : Store T) (o : InOrder m) (id r : ℕ) (own : at m.ids id ≡ Some r) where
  -- its number is one of the table's
  pub span-within : r < length m.spans
  span-within = ids-within m o id r own

  -- and its rows lie in theirs
  pub text_row-within : r * 99 + 99 ≤ length m.span_meta
  text_row-within = rows_within r (length m.spans) 99 _ span-within o.span_lengths.text_rows

  pub number_row-within : r * 54 + 54 ≤ length m.span_metrics
  number_row-within = rows_within r (length m.spans) 54 _ span-within o.span_lengths.number_rows

  module _ (x : Span T) (is : slice_get m.spans r ≡ Some x) where
    live-is : (x.mark ≡ Live) × (x.id ≡ id)
    live-is = marked_of x.mark x.id id (key-is live_key m.spans m.ids o.spans.indexed r id x is (inl own) id own)

    few_are : (x.meta.count ≤ span_text_limit) × (x.metrics.count ≤ span_number_limit)
    few_are = within_of x.mark _ _ live-is.0 (o.spans.limits r x is)

    -- the live span of the book, and how long its rows are
    record Own (bytes : T → Text) (b : Book) : Type 0 where
      span : book.Span
      found : find id b.live ≡ Some span
      like : LikeSpan bytes (rowed x (row 99 r m.span_meta) (row 54 r m.span_metrics)) span
      texts_long : length (span_texts span) ≡ x.meta.count
      numbers_long : length (span_numbers span) ≡ x.metrics.count

    own_span : (bytes : T → Text) (b : Book) → Shows bytes m b → Own bytes b
    own_span bytes b h =
        let k = span_own m o r id x is (inl own) bytes b h own in
        let f = few_are in
        record {
          span = k.0;
          found = k.1;
          like = k.2;
          texts_long = row_count (text_pair bytes) x.meta.count 99 r m.span_meta _ k.2.text_row (omega (arith, f.0)) text_row-within;
          numbers_long = row_count (number_pair bytes) x.metrics.count 54 r m.span_metrics _ k.2.number_row (omega (arith, f.1)) number_row-within;
        }

    -- a writing that finds its place
    module _ (bytes : T → Text) (w : Writing) (x' : Span T) (ms' : List (T × T)) (ns' : List (T × ℕ)) (marked : x'.mark ≡ x.mark) (named : x'.id ≡ x.id)
        (lm : length ms' ≡ length m.span_meta) (ln : length ns' ≡ length m.span_metrics) (om : OthersStay 99 r m.span_meta ms') (on : OthersStay 54 r m.span_metrics ns')
        (few : (x'.meta.count ≤ span_text_limit) × (x'.metrics.count ≤ span_number_limit)) (moved : RowMoved x.meta x'.meta × RowMoved x.metrics x'.metrics)
        (placed : (s : book.Span) → length (span_texts s) ≡ x.meta.count → length (span_numbers s) ≡ x.metrics.count → has_place span_text_limit span_number_limit (written s) w ≡ true)
        (like : (s : book.Span) → LikeSpan bytes (rowed x (row 99 r m.span_meta) (row 54 r m.span_metrics)) s → LikeSpan bytes (rowed x' (row 99 r ms') (row 54 r ns')) (write w s)) where
      abbrev pub span_written : Store T
      span_written = store (set m.spans r x') ms' ns' m.segments m.segment_meta m.segment_metrics m.strings m.defaults m.settings m.ids m.ids_room m.seats m.seats_room

      pub done_written : Done bytes (write_span id w) NoneMade m span_written (Ok tt)
      done_written =
          let l = live-is in
          let k : x'.mark ≡ Live = marked ∙ l.0 in
          let i : x'.id ≡ id = named ∙ l.1 in
          let p = put_same m.ids id r own in
          record {
            order = span-order m o r id x is (inl own) x' ms' ns' m.settings m.ids m.ids_room k i (same-settings m.settings) p lm ln refl few;
            plays = plays-on bytes (write_span id w) m span_written (λ b rest h.
                let s = own_span bytes b h in (
                  with_live (put id (write w s.span) b.live) b,
                  write-went id w b rest s.span s.found (placed s.span s.texts_long s.numbers_long),
                  span-shown m o r id x is (inl own) x' ms' ns' m.settings m.ids m.ids_room k i (same-settings m.settings) p lm ln refl few om on bytes b (write w s.span) h (like s.span s.like),
                ));
            spans_kept = records-set free (λ x. x.meta) (λ x. x.metrics) NoneMade m.spans m.ids m.ids r id x x' is (ap is_free k) p (inl own) (inl moved);
            segments_kept = records-same gone (λ y. y.meta) (λ y. y.metrics) _ m.segments m.seats;
          }

    -- a writing that does not
    pub done_full : (bytes : T → Text) (w : Writing) → ((s : book.Span) → length (span_texts s) ≡ x.meta.count → length (span_numbers s) ≡ x.metrics.count → has_place span_text_limit span_number_limit (written s) w ≡ false)
        → Done bytes (write_span id w) NoneMade m m (Err (RowFull id))
    done_full bytes w no_place = done_refused bytes (write_span id w) NoneMade m (row_full id) (RowFull id) refl o (λ b rest h.
        let s = own_span bytes b h in write-full id w b rest s.span s.found (no_place s.span s.texts_long s.numbers_long))

    -- ---- the three kinds

    pub done_field : (bytes : T → Text) (f : SpanField T) (x' : Span T) → x' ≡ with_field f x
        → Done bytes (write_span id (field_written bytes f)) NoneMade m (store (set m.spans r x') m.span_meta m.span_metrics m.segments m.segment_meta m.segment_metrics m.strings m.defaults m.settings m.ids m.ids_room m.seats m.seats_room) (Ok tt)
    done_field bytes f x' e =
        subst (λ z. Done bytes (write_span id (field_written bytes f)) NoneMade m (store (set m.spans r z) m.span_meta m.span_metrics m.segments m.segment_meta m.segment_metrics m.strings m.defaults m.settings m.ids m.ids_room m.seats m.seats_room) (Ok tt)) (sym e)
        (by f (field-like bytes f))
      where
        by : (f : SpanField T) → ((x : Span T) (ms : List (T × T)) (ns : List (T × ℕ)) (s : book.Span) → LikeSpan bytes (rowed x ms ns) s → LikeSpan bytes (rowed (with_field f x) ms ns) (write (field_written bytes f) s))
            → Done bytes (write_span id (field_written bytes f)) NoneMade m (store (set m.spans r (with_field f x)) m.span_meta m.span_metrics m.segments m.segment_meta m.segment_metrics m.strings m.defaults m.settings m.ids m.ids_room m.seats m.seats_room) (Ok tt)
        by (Service t) l = done_written bytes _ (with_field (Service t) x) m.span_meta m.span_metrics refl refl refl refl (λ j n. refl) (λ j n. refl) few_are (inl refl, inl refl) (λ s a b. refl) (λ s h. l x _ _ s h)
        by (Resource t) l = done_written bytes _ (with_field (Resource t) x) m.span_meta m.span_metrics refl refl refl refl (λ j n. refl) (λ j n. refl) few_are (inl refl, inl refl) (λ s a b. refl) (λ s h. l x _ _ s h)
        by (Kind t) l = done_written bytes _ (with_field (Kind t) x) m.span_meta m.span_metrics refl refl refl refl (λ j n. refl) (λ j n. refl) few_are (inl refl, inl refl) (λ s a b. refl) (λ s h. l x _ _ s h)
        by (Name t) l = done_written bytes _ (with_field (Name t) x) m.span_meta m.span_metrics refl refl refl refl (λ j n. refl) (λ j n. refl) few_are (inl refl, inl refl) (λ s a b. refl) (λ s h. l x _ _ s h)
        by (Error t) l = done_written bytes _ (with_field (Error t) x) m.span_meta m.span_metrics refl refl refl refl (λ j n. refl) (λ j n. refl) few_are (inl refl, inl refl) (λ s a b. refl) (λ s h. l x _ _ s h)
        by (Start t) l = done_written bytes _ (with_field (Start t) x) m.span_meta m.span_metrics refl refl refl refl (λ j n. refl) (λ j n. refl) few_are (inl refl, inl refl) (λ s a b. refl) (λ s h. l x _ _ s h)
        by (Duration t) l = done_written bytes _ (with_field (Duration t) x) m.span_meta m.span_metrics refl refl refl refl (λ j n. refl) (λ j n. refl) few_are (inl refl, inl refl) (λ s a b. refl) (λ s h. l x _ _ s h)

    -- a text pair, or no place for it
    pub done_meta : (bytes : T → Text) (k v : T) (ms' : List (T × T)) (h : Head) (a : Option (Unit {0})) → length ms' ≡ length m.span_meta → Inserts 99 r 64 m.span_meta ms' x.meta h (k, v) a
        → Done bytes (write_span id (meta (bytes k) (bytes v))) NoneMade m (store (set m.spans r (with_meta_head h x)) ms' m.span_metrics m.segments m.segment_meta m.segment_metrics m.strings m.defaults m.settings m.ids m.ids_room m.seats m.seats_room) (ok_or a (RowFull id))
    done_meta bytes k v ms' h (Some u) l i =
        let c = ap (λ z. z.count) i.head in
        let a = i.place in
        done_written bytes (meta (bytes k) (bytes v)) (with_meta_head h x) ms' m.span_metrics refl refl l refl i.others (λ j n. refl) (omega (arith, c, a), few_are.1) (row_grew x.meta h i.head, inl refl)
        (λ s t n. lt-ltb (length (span_texts s)) 64 (omega (arith, t, a)))
        (λ s like. meta-like bytes x h r m.span_meta ms' (row 54 r m.span_metrics) k v s i.head i.pairs like)
    done_meta bytes k v ms' h None l i =
        let same : set m.spans r (with_meta_head h x) ≡ m.spans = ap (λ z. set m.spans r (with_meta_head z x)) i.2 ∙ set-same m.spans r x is in
        subst (λ zs. Done bytes (write_span id (meta (bytes k) (bytes v))) NoneMade m (store zs ms' m.span_metrics m.segments m.segment_meta m.segment_metrics m.strings m.defaults m.settings m.ids m.ids_room m.seats m.seats_room) (Err (RowFull id))) (sym same)
        (subst (λ zs. Done bytes (write_span id (meta (bytes k) (bytes v))) NoneMade m (store m.spans zs m.span_metrics m.segments m.segment_meta m.segment_metrics m.strings m.defaults m.settings m.ids m.ids_room m.seats m.seats_room) (Err (RowFull id))) (sym i.1)
        (done_full bytes (meta (bytes k) (bytes v)) (λ s t n. let le = i.0 in le-ltb (length (span_texts s)) 64 (omega (arith, t, le)))))

    -- a number pair
    pub done_metric : (bytes : T → Text) (k : T) (v : ℕ) (ns' : List (T × ℕ)) (h : Head) (a : Option (Unit {0})) → length ns' ≡ length m.span_metrics → Inserts 54 r 32 m.span_metrics ns' x.metrics h (k, v) a
        → Done bytes (write_span id (metric (bytes k) v)) NoneMade m (store (set m.spans r (with_metrics_head h x)) m.span_meta ns' m.segments m.segment_meta m.segment_metrics m.strings m.defaults m.settings m.ids m.ids_room m.seats m.seats_room) (ok_or a (RowFull id))
    done_metric bytes k v ns' h (Some u) l i =
        let c = ap (λ z. z.count) i.head in
        let a = i.place in
        done_written bytes (metric (bytes k) v) (with_metrics_head h x) m.span_meta ns' refl refl refl l (λ j n. refl) i.others (few_are.0, omega (arith, c, a)) (inl refl, row_grew x.metrics h i.head)
        (λ s t n. lt-ltb (length (span_numbers s)) 32 (omega (arith, n, a)))
        (λ s like. metric-like bytes x h r (row 99 r m.span_meta) m.span_metrics ns' k v s i.head i.pairs like)
    done_metric bytes k v ns' h None l i =
        let same : set m.spans r (with_metrics_head h x) ≡ m.spans = ap (λ z. set m.spans r (with_metrics_head z x)) i.2 ∙ set-same m.spans r x is in
        subst (λ zs. Done bytes (write_span id (metric (bytes k) v)) NoneMade m (store zs m.span_meta ns' m.segments m.segment_meta m.segment_metrics m.strings m.defaults m.settings m.ids m.ids_room m.seats m.seats_room) (Err (RowFull id))) (sym same)
        (subst (λ zs. Done bytes (write_span id (metric (bytes k) v)) NoneMade m (store m.spans m.span_meta zs m.segments m.segment_meta m.segment_metrics m.strings m.defaults m.settings m.ids m.ids_room m.seats m.seats_room) (Err (RowFull id))) (sym i.1)
        (done_full bytes (metric (bytes k) v) (λ s t n. let le = i.0 in le-ltb (length (span_numbers s)) 32 (omega (arith, n, le)))))
