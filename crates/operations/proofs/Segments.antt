-- One segment record changes, with its rows and its id's entry in the index: the order, and the book.
use Rattle.std.proofs.Common.{◌≡◌, ℕ, ◌+◌, ◌<◌, ◌≤◌, Bool, true, false, cond, ltb, ◌⊎◌, List, length, take, set, is_some, Some, None, sym, refl, ap, ◌∙◌, inl, inr, length-set}
use Rattle.std.specs.Option.{option_map}
use Rattle.std.specs.List.{slice_get}
use Rattle.std.proofs.lemmas.Bool.{lt-ltb, ltb-true}
use Rattle.index.specs.declared.entry.Entry.{Entry}
use Rattle.index.specs.Held.{at}
use Rattle.index.proofs.Entries.{same_some}
use Rattle.vec_map.specs.Tables.{row, OthersStay}
use Rattle.book.specs.Limits.{segment_text_limit, segment_number_limit, most_segments, most_count}
use Rattle.book.specs.Maps.{find, put}
use Rattle.book.specs.Book.{Text, Book, with_segments}
use Rattle.book.specs.Book as book
use Rattle.book.proofs.Boths.{both_left}
use Rattle.tables.specs.declared.segment.Segment.{Segment}
use Rattle.tables.specs.Store.{Store, store, Rowed, chained, stands, standing_key, segment_at}
use Rattle.tables.specs.InOrder.{SegmentLimits, InOrder}
use Rattle.tables.specs.Shows.{segment_view, LikeSegment, Shows}
use Rattle.std.proofs.lemmas.Option.{none-some, slice_get_within}
use Rattle.tables.proofs.Places.{nth_set-same}
use Rattle.operations.specs.Made.{Puts}
use Rattle.operations.proofs.Taking.{key-is, apart, kept_set, shown-put, other-held}
use Rattle.operations.proofs.Spans.{lengths_same}

-- a segment that stands has a key
standing-named : {T : Type 0} (y : Segment T) (id : ℕ) → 0 < y.count → y.id ≡ id → standing_key y ≡ Some id
standing-named y id lt e = ap (λ t. cond t (Some y.id) None) (lt-ltb 0 y.count lt) ∙ ap Some e

pub standing_of : (t : Bool) (i q : ℕ) → cond t (Some i) None ≡ Some q → (t ≡ true) × (i ≡ q)
standing_of true i q e = (refl, same_some (Some i) i q refl e)
standing_of false i q e = absurd (none-some q e)

module _ {T : Type 0} (m : Store T) (o : InOrder m) (g id : ℕ) (y : Segment T) (is : slice_get m.segments g ≡ Some y)
    (way : (at m.seats id ≡ Some g) ⊎ ((at m.seats id ≡ None) × (y.count ≡ 0))) where
  seat_way : (at m.seats id ≡ Some g) ⊎ ((at m.seats id ≡ None) × (standing_key y ≡ None))
  seat_way = elim way [ inl e ↦ inl e | inr e ↦ inr (e.0, ap (λ n. cond (ltb 0 n) (Some y.id) None) e.1) ]

  seat_apart : (q : ℕ) → (q ≡ id → ⊥) → at m.seats q ≡ Some g → ⊥
  seat_apart = apart standing_key m.segments m.seats o.segments.indexed g id y is seat_way

  -- the record of a standing segment
  pub seat_stands : at m.seats id ≡ Some g → (0 < y.count) × (y.id ≡ id)
  seat_stands e =
      let k = standing_of (stands y) y.id id (key-is standing_key m.segments m.seats o.segments.indexed g id y is seat_way id e) in
      (ltb-true 0 y.count k.0, k.1)

  module _ (y' : Segment T) (ms' : List (T × T)) (ns' : List (T × ℕ)) (seats' : List Entry) (room' : ℕ)
      (standing : 0 < y'.count) (named : y'.id ≡ id) (p : Puts m.seats seats' id g) where
    abbrev pub seat_taken : Store T
    seat_taken = store m.spans m.span_meta m.span_metrics (set m.segments g y') ms' ns' m.strings m.defaults m.settings m.ids m.ids_room seats' room'

    module _ (lm : length ms' ≡ length m.segment_meta) (ln : length ns' ≡ length m.segment_metrics) (lr : room' ≡ m.seats_room)
        (few : (y'.meta.count ≤ segment_text_limit) × (y'.metrics.count ≤ segment_number_limit) × (y'.count ≤ most_count)) where
      pub seat_order : InOrder seat_taken
      seat_order = record {
        span_lengths = o.span_lengths;
        segment_lengths = lengths_same most_segments segment_text_limit segment_number_limit _ _ _ _ _ _ _ _ (length-set m.segments g y') lm ln lr o.segment_lengths;
        others = o.others;
        spans = o.spans;
        segments =
            kept_set standing_key m.segments m.seats o.segments.indexed g id y is seat_way y' seats' p (standing-named y' id standing named) SegmentLimits o.segments.limits
            (λ _. few);
      }

      module _ (om : OthersStay 32 g m.segment_meta ms') (on : OthersStay 16 g m.segment_metrics ns') (bytes : T → Text) where
        abbrev cell : ℕ → Segment T → Rowed (Segment T) T
        cell q z = record { head = z; texts = take z.meta.count (row 32 q m.segment_meta); numbers = take z.metrics.count (row 16 q m.segment_metrics) }

        abbrev cell' : ℕ → Segment T → Rowed (Segment T) T
        cell' q z = record { head = z; texts = take z.meta.count (row 32 q ms'); numbers = take z.metrics.count (row 16 q ns') }

        cells_same : (q : ℕ) → (q ≡ g → ⊥) → (z : Segment T) → cell' q z ≡ cell q z
        cells_same q ne z =
            ap (λ u. record { head = z; texts = take z.meta.count u; numbers = take z.metrics.count (row 16 q ns') }) (om q ne)
            ∙ ap (λ u. record { head = z; texts = take z.meta.count (row 32 q m.segment_meta); numbers = take z.metrics.count u }) (on q ne)

        held-there : (q : ℕ) → (q ≡ id → ⊥) → segment_view seat_taken q ≡ segment_view m q
        held-there q ne =
            ap (chained (segment_at (set m.segments g y') ms' ns')) (p.there q ne)
            ∙ other-held cell cell' m.segments g y' cells_same (at m.seats q) (seat_apart q ne)

        here-cell : segment_at (set m.segments g y') ms' ns' g ≡ Some (cell' g y')
        here-cell = ap (λ z. option_map (cell' g) z) (nth_set-same m.segments g y' (slice_get_within m.segments g y is))

        viewed : is_some (segment_view m id) ≡ is_some (at m.seats id)
        viewed = elim way [
          | inl e ↦ ap is_some (ap (chained (segment_at m.segments m.segment_meta m.segment_metrics)) e ∙ ap (λ z. option_map (cell g) z) is) ∙ sym (ap is_some e)
          | inr e ↦ ap is_some (ap (chained (segment_at m.segments m.segment_meta m.segment_metrics)) e.0) ∙ sym (ap is_some e.0)
        ]

        pub seat_shown : (b : Book) (k' : book.Segment) → Shows bytes m b → LikeSegment bytes (cell' g y') k' → Shows bytes seat_taken (with_segments (put id k' b.segments) b)
        seat_shown b k' h like = record {
          order = seat_order;
          setup =
              ap (λ z. record { service = bytes m.settings.service; language = bytes m.settings.language; pid = m.settings.pid; spans = length m.spans; segments = z; strings = length m.strings }) (length-set m.segments g y')
              ∙ h.setup;
          strings = h.strings;
          defaults = h.defaults;
          live = h.live;
          handed = h.handed;
          segments =
              shown-put (LikeSegment bytes) (segment_view m) (segment_view seat_taken) (length m.seats) (length seats') b.segments h.segments id (cell' g y') k'
              (ap (chained (segment_at (set m.segments g y') ms' ns')) p.here ∙ here-cell) held-there
              (p.many ∙ ap (λ z. length m.seats + cond z 0 1) (sym viewed)) like;
        }

  -- the segment of the book that a standing record shows
  pub seat_own : (bytes : T → Text) (b : Book) → Shows bytes m b → at m.seats id ≡ Some g →
      (k : book.Segment) × (find id b.segments ≡ Some k)
      × LikeSegment bytes (record { head = y; texts = take y.meta.count (row 32 g m.segment_meta); numbers = take y.metrics.count (row 16 g m.segment_metrics) }) k
  seat_own bytes b h e =
      both_left (LikeSegment bytes) _ _ _ (h.segments.each id)
      (ap (chained (segment_at m.segments m.segment_meta m.segment_metrics)) e
      ∙ ap (λ z. option_map (λ u. record { head = u; texts = take u.meta.count (row 32 g m.segment_meta); numbers = take u.metrics.count (row 16 g m.segment_metrics) }) z) is)
