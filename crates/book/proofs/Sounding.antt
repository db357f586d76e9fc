-- A flush keeps the book sound.
use Rattle.std.proofs.Common.{◌≡◌, ℕ, suc, ◌+◌, ◌≤◌, true, ◌||◌, ltb, List, [], ◌∷◌, ◌++◌, map, reverse, length, Some, None, Option, sym, refl, ap, ◌∙◌, subst, arith, lit≤, length-append}
use Rattle.std.proofs.lemmas.Bool.{ltb-true}
use Rattle.book.specs.Limits.{span_text_limit, span_number_limit, segment_text_limit, segment_number_limit, most_count}
use Rattle.book.specs.Maps.{Map, find, put, has, Distinct, Each}
use Rattle.book.specs.Book.{Text, Writing, ◌≔◌, meta, metric, and_text, and_number, texts, numbers, has_place, Span, Segment, written, count, write, note, Setup, Book, with_live, with_segments}
use Rattle.book.specs.Flush.{record_for, segment_record_of, segment_record_for, one_more, default_writings, made, created_in, flush}
use Rattle.book.specs.Sound.{Within, LiveSpan, Standing, Sound}
use Rattle.book.proofs.Maps.{distinct_put, each-put, length-put, length-new}
use Rattle.book.proofs.Rows.{text_of, number_of, adds_text, adds_number, row-append, row-reverse, texts_of_texts, numbers_of_texts}
use Rattle.book.proofs.Keeping.{flush_keeps}

-- ---- one more writing keeps the limits

within_more : (t n : ℕ) (w : Writing) (ws : List Writing) → Within t n ws → has_place t n ws w ≡ true → Within t n (w ∷ ws)
within_more t n (f ≔ v) ws h e = h
within_more t n (meta k x) ws h e = (rw length-append (omega (arith, ltb-true (length (texts ws)) t e)), h.1)
within_more t n (metric k x) ws h e = (h.0, rw length-append (omega (arith, ltb-true (length (numbers ws)) n e)))

-- ---- from any set-up

module _ (u : Setup) where
  abbrev pub Good : Book → Type 0
  Good b = (b.setup ≡ u) × Sound b

  pub good_live : (b : Book) (m : Map Span) → Good b → Distinct m → Each LiveSpan m → length m + length b.handed ≤ b.setup.spans → Good (with_live m b)
  good_live b m (e, s) d h l = (
    e,
    record {
      live_once = d;
      handed_once = s.handed_once;
      segments_once = s.segments_once;
      live_spans = h;
      handed_spans = s.handed_spans;
      standing = s.standing;
      strings = s.strings;
      defaults = s.defaults;
      records = l;
      places = s.places;
    },
  )

  pub good_segments : (b : Book) (m : Map Segment) → Good b → Distinct m → Each Standing m → length m ≤ b.setup.segments → Good (with_segments m b)
  good_segments b m (e, s) d h l = (
    e,
    record {
      live_once = s.live_once;
      handed_once = s.handed_once;
      segments_once = d;
      live_spans = s.live_spans;
      handed_spans = s.handed_spans;
      standing = h;
      strings = s.strings;
      defaults = s.defaults;
      records = s.records;
      places = l;
    },
  )

  -- a live span is changed
  good_write : (b : Book) (id : ℕ) (s t : Span) → Good b → find id b.live ≡ Some s → LiveSpan id t → Good (with_live (put id t b.live) b)
  good_write b id s t g f h =
      let e : length (put id t b.live) ≡ length b.live = length-put id t s b.live g.1.live_once f in
      good_live b (put id t b.live) g (distinct_put id t b.live g.1.live_once) (each-put LiveSpan id t b.live g.1.live_spans h) (omega (arith, g.1.records))

  -- a standing segment is changed
  pub good_note : (b : Book) (id : ℕ) (x y : Segment) → Good b → find id b.segments ≡ Some x → Standing id y → Good (with_segments (put id y b.segments) b)
  good_note b id x y g f h =
      let e : length (put id y b.segments) ≡ length b.segments = length-put id y x b.segments g.1.segments_once f in
      good_segments b (put id y b.segments) g (distinct_put id y b.segments g.1.segments_once) (each-put Standing id y b.segments g.1.standing h) (omega (arith, g.1.places))

  -- ---- a create

  -- the segment that it names
  grown : (b : Book) (s : ℕ) → Good b → (o : Option Segment) → find s b.segments ≡ o → segment_record_of o b ≡ true → Good (with_segments (put s (one_more o) b.segments) b)
  grown b s g None e t =
      let n : length (put s (one_more None) b.segments) ≡ suc (length b.segments) = length-new s (one_more None) b.segments e in
      good_segments b _ g (distinct_put s (one_more None) b.segments g.1.segments_once)
      (each-put Standing s (one_more None) b.segments g.1.standing (record { stands = lit≤ tt; counted = lit≤ tt; within = (lit≤ tt, lit≤ tt) }))
      (omega (arith, ltb-true (length b.segments) b.setup.segments t))
  grown b s g (Some x) e t =
      let l : Standing s x = g.1.standing s x e in
      good_note b s x (one_more (Some x)) g e
      (record { stands = omega (arith, l.stands); counted = omega (arith, l.stands, ltb-true (count x) most_count t); within = l.within })

  -- its default pairs keep the limits
  defaults_fit : (ds : List (Text × Text)) (ws : List Writing) → length ds ≤ span_text_limit → Within 0 0 ws → Within span_text_limit span_number_limit (default_writings ds ++ ws)
  defaults_fit ds ws d h =
      let ms : List Writing = map (λ p. meta p.0 p.1) ds in
      let t : texts (default_writings ds ++ ws) ≡ texts ws ++ ds =
      row-append and_text text_of adds_text (reverse ms) ws ∙ ap (λ z. texts ws ++ z) (row-reverse and_text text_of adds_text ms ∙ texts_of_texts ds) in
      let n : numbers (default_writings ds ++ ws) ≡ numbers ws ++ [] =
      row-append and_number number_of adds_number (reverse ms) ws ∙ ap (λ z. numbers ws ++ z) (row-reverse and_number number_of adds_number ms ∙ numbers_of_texts ds) in (
        subst (λ z. length z ≤ span_text_limit) (sym t) (rw length-append (omega (arith, h.0))),
        subst (λ z. length z ≤ span_number_limit) (sym n) (rw length-append (omega (arith, h.1))),
      )

  -- the span that it makes
  entered : (b : Book) (id : ℕ) (s : Span) → Good b → LiveSpan id s → (o : Option Span) → find id b.live ≡ o → (has o || ltb (length b.live + length b.handed) b.setup.spans) ≡ true →
      Good (with_live (put id s b.live) b)
  entered b id s g h (Some x) e t = good_write b id x s g e h
  entered b id s g h None e t =
      let n : length (put id s b.live) ≡ suc (length b.live) = length-new id s b.live e in
      good_live b (put id s b.live) g (distinct_put id s b.live g.1.live_once) (each-put LiveSpan id s b.live g.1.live_spans h)
      (omega (arith, ltb-true (length b.live + length b.handed) b.setup.spans t))

  good_create : (b : Book) (id s : ℕ) (ws : List Writing) → Good b → Within 0 0 ws → record_for id b ≡ true → segment_record_for s b ≡ true → Good (created_in id s ws b)
  good_create b id s ws g h t r =
      entered (with_segments (put s (one_more (find s b.segments)) b.segments) b) id (made id s ws b) (grown b s g (find s b.segments) refl r)
      (record { own_id = refl; within = defaults_fit b.defaults ws (omega (arith, g.1.defaults)) h }) (find id b.live) refl t

  good_span : (b : Book) (id : ℕ) (s : Span) (w : Writing) → Good b → find id b.live ≡ Some s → has_place span_text_limit span_number_limit (written s) w ≡ true → Good (with_live (put id (write w s) b.live) b)
  good_span b id s w g e t =
      let l : LiveSpan id s = g.1.live_spans id s e in
      good_write b id s (write w s) g e (record { own_id = l.own_id; within = within_more span_text_limit span_number_limit w (written s) l.within t })

  good_segment : (b : Book) (id : ℕ) (x : Segment) (w : Writing) → Good b → find id b.segments ≡ Some x → has_place segment_text_limit segment_number_limit x.since w ≡ true → Good (with_segments (put id (note w x) b.segments) b)
  good_segment b id x w g e t =
      let l : Standing id x = g.1.standing id x e in
      good_note b id x (note w x) g e (record { stands = l.stands; counted = l.counted; within = within_more segment_text_limit segment_number_limit w x.since l.within t })

  pub good_flush : (b : Book) (bytes : List ℕ) → Good b → Good (flush b bytes).0
  good_flush b bytes g = flush_keeps Good good_span good_segment good_create b bytes g
