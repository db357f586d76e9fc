-- A create: the questions that it asks, what it leaves, and the book.
use Rattle.std.proofs.Common.{◌≡◌, ℕ, zero, suc, ◌+◌, ◌<◌, ◌≤◌, Bool, true, false, cond, not, ◌⊎◌, List, [], ◌∷◌, length, take, set, is_some, Some, None, Ok, Err, Decides, Option, sym, refl, ap, ◌∙◌, subst, inl, inr, le_of_suc-le-suc, not-suc-le-zero, arith, lit≤}
use Rattle.std.specs.List.{slice_get}
use Rattle.std.proofs.lemmas.Bool.{false≢true, both_ways, cases_lt, cases_Bool, lt-ltb, le-ltb, ltb-false, not-true, or_left, or_right, or_from}
use Rattle.vec_map.specs.Tables.{row, OthersStay}
use Rattle.index.specs.declared.entry.Entry.{Entry}
use Rattle.index.specs.Held.{at, Once}
use Rattle.index.proofs.Entries.{same_some}
use Rattle.refusals.specs.declared.ChangeBufferError.TheVariants.{NoRecord, NoSegmentRecord}
use Rattle.book.specs.Limits.{span_text_limit, span_number_limit, segment_text_limit, segment_number_limit, most_count}
use Rattle.book.specs.Maps.{find, put, has}
use Rattle.book.specs.Book.{Text, Writing, count, Book, with_live, with_segments}
use Rattle.book.specs.Book as book
use Rattle.book.specs.Refusals.{no_record, no_segment_record}
use Rattle.book.specs.Actions.{fault, went, stopped, ◌>>=◌, look, ask, change}
use Rattle.book.specs.Flush.{record_for, segment_record_of, segment_record_for, one_more, made, created_in, make}
use Rattle.book.proofs.Boths.{both-left-none}
use Rattle.tables.specs.declared.span.Mark.{Mark}
use Rattle.tables.specs.declared.span.Mark.TheVariants.{Free, Live, HandedOut}
use Rattle.tables.specs.declared.span.Span.{Span}
use Rattle.tables.specs.declared.segment.Segment.{Segment}
use Rattle.tables.specs.declared.settings.Settings.{Settings}
use Rattle.tables.specs.Store.{Store, store, chained, tally, is_live, is_free, live, free, stands, live_key, standing_key, span_at, segment_at}
use Rattle.tables.specs.InOrder.{InOrder}
use Rattle.tables.specs.Shows.{LikeSpan, LikeSegment, Shows}
use Rattle.std.proofs.lemmas.Option.{none-some, slice_get_within}
use Rattle.operations.specs.declared.values.Making.{Making}
use Rattle.operations.specs.Done.{gone, RowsMoved, HeldWithin, Done}
use Rattle.operations.specs.Made.{RecordFor, NoRecordFor, Puts, Roomy, SameSettings, CanGrow, SeatFor, NoSeat, made_span, new_segment, one_counted, counted_in, Makes, Enters, Gives}
use Rattle.operations.proofs.Taking.{ids-within, seats-within}
use Rattle.operations.proofs.Keeping.{records-set}
use Rattle.operations.proofs.Counting.{held-count, tally_as, three, some_of, none_of, all_of, fewer_of}
use Rattle.operations.proofs.Spans.{span-order, span-shown, span_own}
use Rattle.operations.proofs.Segments.{seat_stands, seat_order, seat_shown, seat_own}
use Rattle.operations.proofs.Writing.{plays-on, done_refused}
use Rattle.operations.proofs.Making.{made-like, more-like, new-like, counted_own, counted-new}

-- ---- records in no use

pub record_within : {A : Type 0} (unused : A → Bool) (es : List Entry) (xs : List A) (id r : ℕ) → HeldWithin es (length xs) → RecordFor unused es xs id r → r < length xs
record_within unused es xs id r w (inl own) = w id r own
record_within unused es xs id r w (inr idle) = slice_get_within xs r idle.1.found idle.1.is

-- no segment stands where the count is 0
gone-count : {T : Type 0} (y : Segment T) → gone y ≡ true → y.count ≡ 0
gone-count y e = let a = ltb-false 0 y.count (not-true (stands y) e) in omega (arith, a)

free-mark : (k : Mark) → is_free k ≡ true → k ≡ Free
free-mark Free e = refl
free-mark Live e = absurd (false≢true e)
free-mark HandedOut e = absurd (false≢true e)

-- what stands at a number below the length
pub at-number : {A : Type 0} (xs : List A) (r : ℕ) → r < length xs → (x : A) × (slice_get xs r ≡ Some x)
at-number [] r lt = absurd (not-suc-le-zero lt)
at-number (x ∷ xs) zero lt = (x, refl)
at-number (x ∷ xs) (suc r) lt = at-number xs r (le_of_suc-le-suc lt)

module _ {T : Type 0} (es : List Entry) (ys : List (Segment T)) (id g : ℕ) (for : RecordFor gone es ys id g) where
  -- the count cannot grow
  pub not_grown : g < length ys → Decides false (CanGrow ys g) → NoSeat es ys id
  not_grown lt d = elim for [
    | inl own ↦
        let there = at-number ys g lt in
        elim (cases_lt there.0.count most_count) [
          | inl below ↦ absurd (false≢true (d.1 (λ y e. subst (λ z. z.count < most_count) (same_some (slice_get ys g) there.0 y there.1 e) below)))
          | inr full ↦ inr (g, there.0, own, there.1, full)
        ]
    | inr idle ↦
        let z = gone-count idle.1.found idle.1.idle in
        absurd (false≢true (d.1 (λ y e. subst (λ z. z.count < most_count) (same_some (slice_get ys g) idle.1.found y idle.1.is e) (omega (arith, z)))))
  ]

  -- a segment that stands there is the id's own
  pub own_seat : (y : Segment T) → slice_get ys g ≡ Some y → gone y ≡ false → at es id ≡ Some g
  own_seat y is standing = elim for [
    | inl own ↦ own
    | inr idle ↦ absurd (both_ways (gone y) standing (ap gone (same_some (slice_get ys g) y idle.1.found is idle.1.is) ∙ idle.1.idle))
  ]

-- ---- the act

module _ (id s : ℕ) (ws : List Writing) (b : Book) (rest : List ℕ) where
  make-went : record_for id b ≡ true → segment_record_for s b ≡ true → make id s ws b rest ≡ went tt (created_in id s ws b) rest
  unfolding make ◌>>=◌ look ask change
  make-went e f = rw (e, f) refl

  make_no_record : record_for id b ≡ false → make id s ws b rest ≡ stopped (fault (no_record id)) b
  unfolding make ◌>>=◌ look ask change
  make_no_record e = rw e refl

  make_no_seat : record_for id b ≡ true → segment_record_for s b ≡ false → make id s ws b rest ≡ stopped (fault (no_segment_record s)) b
  unfolding make ◌>>=◌ look ask change
  make_no_seat e f = rw (e, f) refl

-- ---- tables in order, of whose indexes no id stands twice

isSome_cond : (t : Bool) (n : ℕ) → is_some (cond t (Some n) None) ≡ t
isSome_cond true n = refl
isSome_cond false n = refl

module _ {T : Type 0} (m : Store T) (o : InOrder m) (oi : Once m.ids) (os : Once m.seats) where
  live-count : length m.ids ≡ tally live m.spans
  live-count = held-count live_key m.spans m.ids oi o.spans.indexed ∙ tally_as (λ x. is_some (live_key x)) live (λ x. isSome_cond (live x) x.id) m.spans

  standing-count : length m.seats ≡ tally stands m.segments
  standing-count = held-count standing_key m.segments m.seats os o.segments.indexed ∙ tally_as (λ y. is_some (standing_key y)) stands (λ y. isSome_cond (stands y) y.id) m.segments

  -- a put finds room
  pub ids-roomy : (id r : ℕ) → RecordFor free m.ids m.spans id r → Roomy m.ids m.ids_room id
  ids-roomy id r (inl own) none = absurd (none-some r (sym none ∙ own))
  ids-roomy id r (inr idle) none =
      let u = idle.1 in
      let f = fewer_of live m.spans r u.found u.is (ap is_live (free-mark u.found.mark u.idle)) in
      let k = live-count in
      let l = o.span_lengths.roomy in
      omega (arith, f, k, l)

  pub seats-roomy : (s g : ℕ) → RecordFor gone m.seats m.segments s g → Roomy m.seats m.seats_room s
  seats-roomy s g (inl own) none = absurd (none-some g (sym none ∙ own))
  seats-roomy s g (inr idle) none =
      let u = idle.1 in
      let f = fewer_of stands m.segments g u.found u.is (not-true (stands u.found) u.idle) in
      let k = standing-count in
      let l = o.segment_lengths.roomy in
      omega (arith, f, k, l)

  -- ---- the questions

  module _ (bytes : T → Text) (b : Book) (h : Shows bytes m b) where
    counts_are : length b.live + length b.handed + tally free m.spans ≡ b.setup.spans
    counts_are =
        let t = three m.spans in
        let a = live-count in
        let c = h.live.counted in
        let d = h.handed.counted in
        let e = ap (λ u. u.spans) h.setup in
        omega (arith, t, a, c, d, e)

    absent-span : (id : ℕ) → at m.ids id ≡ None → find id b.live ≡ None
    absent-span id e = both-left-none (LikeSpan bytes) _ _ (h.live.each id) (ap (chained (span_at m.spans m.span_meta m.span_metrics)) e)

    absent-segment : (s : ℕ) → at m.seats s ≡ None → find s b.segments ≡ None
    absent-segment s e = both-left-none (LikeSegment bytes) _ _ (h.segments.each s) (ap (chained (segment_at m.segments m.segment_meta m.segment_metrics)) e)

    record_yes : (id r : ℕ) → RecordFor free m.ids m.spans id r → record_for id b ≡ true
    record_yes id r (inl own) =
        let x = at-number m.spans r (ids-within m o id r own) in
        let k = span_own m o r id x.0 x.1 (inl own) bytes b h own in
        or_left (has (find id b.live)) _ (ap has k.1)
    record_yes id r (inr idle) =
        let k = some_of free m.spans r idle.1.found idle.1.is idle.1.idle in
        let c = counts_are in
        or_right (has (find id b.live)) _ (lt-ltb (length b.live + length b.handed) b.setup.spans (omega (arith, k, c)))

    record_no : (id : ℕ) → NoRecordFor free m.ids m.spans id → record_for id b ≡ false
    record_no id none =
        let k = none_of free m.spans (λ r x e. elim (cases_Bool (free x)) [ inl t ↦ absurd (none.1 r (record { found = x; is = e; idle = t })) | inr f ↦ f ]) in
        let c = counts_are in
        or_from (has (find id b.live)) _ (ap has (absent-span id none.0)) (le-ltb (length b.live + length b.handed) b.setup.spans (omega (arith, k, c)))

    seat_yes : (s g : ℕ) → SeatFor m.seats m.segments s g → segment_record_for s b ≡ true
    seat_yes s g for = by for.0
      where
        by : RecordFor gone m.seats m.segments s g → segment_record_for s b ≡ true
        by (inl own) =
            let y = at-number m.segments g (seats-within m o s g own) in
            let k = seat_own m o g s y.0 y.1 (inl own) bytes b h own in
            let l = for.1 y.0 y.1 in
            let c = k.2.counted in
            ap (λ z. segment_record_of z b) k.1 ∙ lt-ltb (count k.0) most_count (subst (λ (n : ℕ). n < most_count) c l)
        by (inr idle) =
            let f = fewer_of stands m.segments g idle.1.found idle.1.is (not-true (stands idle.1.found) idle.1.idle) in
            let a = standing-count in
            let c = h.segments.counted in
            let d = ap (λ u. u.segments) h.setup in
            ap (λ z. segment_record_of z b) (absent-segment s idle.0) ∙ lt-ltb (length b.segments) b.setup.segments (omega (arith, f, a, c, d))

    seat_no : (s : ℕ) → NoSeat m.seats m.segments s → segment_record_for s b ≡ false
    seat_no s (inl none) =
        let f = all_of stands m.segments (λ g y e. elim (cases_Bool (stands y)) [ inl t ↦ t | inr z ↦ absurd (none.1 g (record { found = y; is = e; idle = ap not z })) ]) in
        let a = standing-count in
        let c = h.segments.counted in
        let d = ap (λ u. u.segments) h.setup in
        ap (λ z. segment_record_of z b) (absent-segment s none.0) ∙ le-ltb (length b.segments) b.setup.segments (omega (arith, f, a, c, d))
    seat_no s (inr full) =
        let k = seat_own m o full.0 s full.1 full.3 (inl full.2) bytes b h full.2 in
        ap (λ z. segment_record_of z b) k.1 ∙ le-ltb (count k.0) most_count (subst (λ (n : ℕ). most_count ≤ n) k.2.counted full.4)

  -- ---- refused

  module _ (bytes : T → Text) (id s : ℕ) (ws : List Writing) where
    pub done_no_record : NoRecordFor free m.ids m.spans id → Done bytes (make id s ws) (λ q. q ≡ id) m m (Err (NoRecord id))
    done_no_record none =
        done_refused bytes (make id s ws) (λ q. q ≡ id) m (no_record id) (NoRecord id) refl o (λ b rest h. make_no_record id s ws b rest (record_no bytes b h id none))

    pub done_no_seat : (r : ℕ) → RecordFor free m.ids m.spans id r → NoSeat m.seats m.segments s → Done bytes (make id s ws) (λ q. q ≡ id) m m (Err (NoSegmentRecord s))
    done_no_seat r for none =
        done_refused bytes (make id s ws) (λ q. q ≡ id) m (no_segment_record s) (NoSegmentRecord s) refl o
        (λ b rest h. make_no_seat id s ws b rest (record_yes bytes b h id r for) (seat_no bytes b h s none))

  -- ---- accepted

  module _ (bytes : T → Text) (id s r g : ℕ) (k : Making T) (for : RecordFor free m.ids m.spans id r) (seat : SeatFor m.seats m.segments s g)
      (ms' : List (T × T)) (st' : Settings T) (ids' seats' : List Entry) (iroom' sroom' : ℕ)
      (lm : length ms' ≡ length m.span_meta) (li : iroom' ≡ m.ids_room) (ls : sroom' ≡ m.seats_room)
      (pairs : take m.settings.defaults (row 99 r ms') ≡ take m.settings.defaults m.defaults) (others : OthersStay 99 r m.span_meta ms')
      (same : SameSettings m.settings st') (p : Puts m.ids ids' id r) (q : Puts m.seats seats' s g) where
    abbrev the_span : (x : Span T) × (slice_get m.spans r ≡ Some x)
    the_span = at-number m.spans r (record_within free m.ids m.spans id r (ids-within m o) for)

    abbrev the_segment : (y : Segment T) × (slice_get m.segments g ≡ Some y)
    the_segment = at-number m.segments g (record_within gone m.seats m.segments s g (seats-within m o) seat.0)

    idle-span : (at m.ids id ≡ Some r) ⊎ ((at m.ids id ≡ None) × (free the_span.0 ≡ true))
    idle-span = elim for [
      | inl own ↦ inl own
      | inr idle ↦ inr (idle.0, ap free (same_some (slice_get m.spans r) the_span.0 idle.1.found the_span.1 idle.1.is) ∙ idle.1.idle)
    ]

    span_way : (at m.ids id ≡ Some r) ⊎ ((at m.ids id ≡ None) × (the_span.0.mark ≡ Free))
    span_way = elim idle-span [ inl own ↦ inl own | inr idle ↦ inr (idle.0, free-mark the_span.0.mark idle.1) ]

    idle-segment : (at m.seats s ≡ Some g) ⊎ ((at m.seats s ≡ None) × (gone the_segment.0 ≡ true))
    idle-segment = elim seat.0 [
      | inl own ↦ inl own
      | inr idle ↦ inr (idle.0, ap gone (same_some (slice_get m.segments g) the_segment.0 idle.1.found the_segment.1 idle.1.is) ∙ idle.1.idle)
    ]

    seat_way : (at m.seats s ≡ Some g) ⊎ ((at m.seats s ≡ None) × (the_segment.0.count ≡ 0))
    seat_way = elim idle-segment [ inl own ↦ inl own | inr idle ↦ inr (idle.0, gone-count the_segment.0 idle.1) ]

    abbrev x' : Span T
    x' = made_span id s k m.settings.defaults

    abbrev y' : Segment T
    y' = counted_in s the_segment.0

    few-pairs : (m.settings.defaults ≤ span_text_limit) × (0 ≤ span_number_limit)
    few-pairs = let f = o.others.few_defaults in (omega (arith, f), lit≤ tt)

    -- the memory with the span made
    abbrev m₁ : Store T
    m₁ = store (set m.spans r x') ms' m.span_metrics m.segments m.segment_meta m.segment_metrics m.strings m.defaults st' ids' iroom' m.seats m.seats_room

    order₁ : InOrder m₁
    order₁ = span-order m o r id the_span.0 the_span.1 span_way x' ms' m.span_metrics st' ids' iroom' refl refl same p lm refl li few-pairs

    -- what the segment is then
    record Entered (z : Segment T) : Type 0 where
      standing : 0 < z.count
      named : z.id ≡ s
      few : (z.meta.count ≤ segment_text_limit) × (z.metrics.count ≤ segment_number_limit) × (z.count ≤ most_count)
      moved : RowsMoved (λ id. at m.seats id ≡ None) seats' g the_segment.0.meta the_segment.0.metrics z.meta z.metrics

    entered : Entered y'
    entered = elim idle-segment [
      | inl own ↦
          let st = seat_stands m o g s the_segment.0 the_segment.1 (inl own) own in
          let l = o.segments.limits g the_segment.0 the_segment.1 (lt-ltb 0 the_segment.0.count st.0) in
          let b = seat.1 the_segment.0 the_segment.1 in
          subst Entered (sym (counted_own s the_segment.0 st.0))
          (record { standing = omega arith; named = st.1; few = (l.0, l.1, omega (arith, b)); moved = inl (inl refl, inl refl) })
      | inr idle ↦
          subst Entered (sym (counted-new s the_segment.0 (not-true (stands the_segment.0) idle.1)))
          (record { standing = lit≤ tt; named = refl; few = (lit≤ tt, lit≤ tt, lit≤ tt); moved = inr (s, q.here, idle.0, refl, refl) })
    ]

    entered-like : (b : Book) → Shows bytes m b → LikeSegment bytes (record { head = y'; texts = take y'.meta.count (row 32 g m.segment_meta); numbers = take y'.metrics.count (row 16 g m.segment_metrics) }) (one_more (find s b.segments))
    entered-like b h = elim idle-segment [
      | inl own ↦
          let st = seat_stands m o g s the_segment.0 the_segment.1 (inl own) own in
          let e = seat_own m o g s the_segment.0 the_segment.1 (inl own) bytes b h own in
          subst (λ z. LikeSegment bytes (record { head = z; texts = take z.meta.count (row 32 g m.segment_meta); numbers = take z.metrics.count (row 16 g m.segment_metrics) }) (one_more (find s b.segments))) (sym (counted_own s the_segment.0 st.0))
          (subst (λ z. LikeSegment bytes (record { head = one_counted the_segment.0; texts = take the_segment.0.meta.count (row 32 g m.segment_meta); numbers = take the_segment.0.metrics.count (row 16 g m.segment_metrics) }) (one_more z)) (sym e.1)
          (more-like bytes the_segment.0 (row 32 g m.segment_meta) (row 16 g m.segment_metrics) e.0 st.0 e.2))
      | inr idle ↦
          subst (λ z. LikeSegment bytes (record { head = z; texts = take z.meta.count (row 32 g m.segment_meta); numbers = take z.metrics.count (row 16 g m.segment_metrics) }) (one_more (find s b.segments))) (sym (counted-new s the_segment.0 (not-true (stands the_segment.0) idle.1)))
          (subst (λ (z : Option book.Segment). LikeSegment bytes (record { head = new_segment s; texts = take 0 (row 32 g m.segment_meta); numbers = take 0 (row 16 g m.segment_metrics) }) (one_more z)) (sym (absent-segment bytes b h s idle.0))
          (new-like bytes s (row 32 g m.segment_meta) (row 16 g m.segment_metrics)))
    ]

    abbrev m₂ : Store T
    m₂ = store (set m.spans r x') ms' m.span_metrics (set m.segments g y') m.segment_meta m.segment_metrics m.strings m.defaults st' ids' iroom' seats' sroom'

    created-shown : (ws : List Writing) → Gives bytes k ws → (b : Book) → Shows bytes m b → Shows bytes m₂ (created_in id s ws b)
    created-shown ws gives b h =
        let h₁ =
        span-shown m o r id the_span.0 the_span.1 span_way x' ms' m.span_metrics st' ids' iroom' refl refl same p lm refl li few-pairs others (λ j n. refl) bytes b (made id s ws b) h
        (made-like bytes id s m.settings.defaults k ws (row 99 r ms') m.defaults (row 54 r m.span_metrics) b.defaults gives pairs h.defaults) in
        seat_shown m₁ order₁ g s the_segment.0 the_segment.1 seat_way y' m.segment_meta m.segment_metrics seats' sroom' entered.standing entered.named q refl refl ls entered.few (λ j n. refl) (λ j n. refl) bytes
        (with_live (put id (made id s ws b) b.live) b) (one_more (find s b.segments)) h₁ (entered-like b h)

    pub done_created : (ws : List Writing) → Gives bytes k ws → Done bytes (make id s ws) (λ q. q ≡ id) m m₂ (Ok tt)
    done_created ws gives = record {
      order = seat_order m₁ order₁ g s the_segment.0 the_segment.1 seat_way y' m.segment_meta m.segment_metrics seats' sroom' entered.standing entered.named q refl refl ls entered.few;
      plays = plays-on bytes (make id s ws) m m₂ (λ b rest h.
          (created_in id s ws b, make-went id s ws b rest (record_yes bytes b h id r for) (seat_yes bytes b h s g seat), created-shown ws gives b h));
      spans_kept =
          records-set free (λ x. x.meta) (λ x. x.metrics) (λ q. q ≡ id) m.spans m.ids ids' r id the_span.0 x' the_span.1 refl p idle-span
          (inr (id, p.here, refl, refl, refl));
      segments_kept =
          records-set gone (λ y. y.meta) (λ y. y.metrics) (λ id. at m.seats id ≡ None) m.segments m.seats seats' g s the_segment.0 y' the_segment.1
          (ap not (lt-ltb 0 y'.count entered.standing)) q idle-segment entered.moved;
    }

  -- by what the code promises of both parts
  pub created : (bytes : T → Text) (id s r g : ℕ) (k : Making T) → RecordFor free m.ids m.spans id r → SeatFor m.seats m.segments s g
      → (xs' : List (Span T)) (ms' : List (T × T)) (ys' : List (Segment T)) (st' : Settings T) (ids' : List Entry) (iroom' : ℕ) (seats' : List Entry) (sroom' : ℕ)
      → length ms' ≡ length m.span_meta → iroom' ≡ m.ids_room → sroom' ≡ m.seats_room
      → Makes m.spans xs' m.span_meta ms' m.defaults m.settings st' m.ids ids' id s r k → Enters m.segments ys' m.seats seats' s g
      → (ws : List Writing) → Gives bytes k ws
      → Done bytes (make id s ws) (λ q. q ≡ id) m (store xs' ms' m.span_metrics ys' m.segment_meta m.segment_metrics m.strings m.defaults st' ids' iroom' seats' sroom') (Ok tt)
  created bytes id s r g k for seat xs' ms' ys' st' ids' iroom' seats' sroom' lm li ls makes enters ws gives =
      let y = at-number m.segments g (record_within gone m.seats m.segments s g (seats-within m o) seat.0) in
      subst (λ xs. Done bytes (make id s ws) (λ q. q ≡ id) m (store xs ms' m.span_metrics ys' m.segment_meta m.segment_metrics m.strings m.defaults st' ids' iroom' seats' sroom') (Ok tt)) (sym makes.spans)
      (subst (λ ys. Done bytes (make id s ws) (λ q. q ≡ id) m (store (set m.spans r (made_span id s k m.settings.defaults)) ms' m.span_metrics ys m.segment_meta m.segment_metrics m.strings m.defaults st' ids' iroom' seats' sroom') (Ok tt)) (sym (enters.segments y.0 y.1))
      (done_created bytes id s r g k for seat ms' st' ids' seats' iroom' sroom' lm li ls makes.pairs makes.others makes.settings makes.entry enters.entry ws gives))
