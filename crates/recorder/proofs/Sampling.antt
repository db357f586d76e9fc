-- The call on a segment's decisions against the plain book.
use Rattle.std.proofs.Common.{◌≡◌, ℕ, ◌<◌, List, length, get_or, take, set, Some, None, Ok, Option, sym, refl, ap, ◌∙◌, subst, length-set}
use lib.Ieee.{Float}
use Rattle.std.proofs.lemmas.Option.{slice_get-get_or, slice_get_within}
use Rattle.std.specs.Option.{option_map}
use Rattle.std.specs.List.{slice_get}
use Rattle.index.specs.Held.{at}
use Rattle.vec_map.specs.Tables.{row}
use Rattle.book.specs.Maps.{find}
use Rattle.book.specs.Book.{Text, Field, trace, parent, service, name, resource, type, start, duration, error, origin, rule, limit, agent, ◌≔◌, note, segment_shows, Book}
use Rattle.book.specs.Book as book
use Rattle.book.specs.Calls.{decisions, decision, step}
use Rattle.book.specs.Refusals.{accepted}
use Rattle.book.proofs.Boths.{both_left}
use Rattle.refusals.specs.declared.ChangeBufferError.{ChangeBufferError}
use Rattle.tables.specs.declared.segment.Decisions.{Decisions}
use Rattle.tables.specs.declared.segment.Segment.{Segment}
use Rattle.tables.specs.Store.{Store, Rowed, chained, standing_key, segment_at}
use Rattle.tables.specs.InOrder.{InOrder, Lengths, SegmentLimits}
use Rattle.tables.specs.Shows.{Shows, LikeSegment, float_or_nothing, segment_field, segment_view}
use Rattle.tables.proofs.Changing.{kept_set, found-apart, retold}
use Rattle.tables.proofs.Places.{nth_set-same, nth_set-other, chained-there}
use Rattle.recorder.specs.Decisions.{decided, changed_there, changed_at, with_segments, decided_in}
use Rattle.recorder.specs.Performs.{Changes}

-- the segment that the index finds has a record
pub found-within : {T : Type 0} (m : Store T) (id p : ℕ) → InOrder m → at m.seats id ≡ Some p → p < length m.segments
found-within m id p o e =
    let x = chained-there standing_key (slice_get m.segments p) id (o.segments.indexed.0 id p e) in
    slice_get_within m.segments p x.0 x.1

module _ {T : Type 0} (d : Decisions) where
  -- the order is kept
  decided-order : (m : Store T) (p : ℕ) (x : Segment T) → slice_get m.segments p ≡ Some x → InOrder m → InOrder (with_segments (set m.segments p (decided d x)) m)
  decided-order m p x there o = record {
    span_lengths = o.span_lengths;
    segment_lengths =
        subst (λ (n : ℕ). Lengths 256 32 16 n (length m.segment_meta) (length m.segment_metrics) m.seats_room) (sym (length-set m.segments p (decided d x))) o.segment_lengths;
    others = o.others;
    spans = o.spans;
    segments =
        kept_set standing_key SegmentLimits m.segments p x (decided d x) there refl m.seats (o.segments.limits p x there) o.segments;
  }

  module _ (bytes : T → Text) where
    decision-shown : (o : Option Float) → float_or_nothing bytes o ≡ decision o
    decision-shown None = refl
    decision-shown (Some x) = refl

    -- the book's segment with the three writings
    abbrev noted : book.Segment → book.Segment
    noted g = note (agent ≔ decision d.agent) (note (limit ≔ decision d.limit) (note (rule ≔ decision d.rule) g))

    decided-fields : (c : Rowed (Segment T) T) (g : book.Segment) → LikeSegment bytes c g → (f : Field) → segment_field bytes (decided d c.head) f ≡ segment_shows (noted g) f
    decided-fields c g like trace = like.fields trace
    decided-fields c g like parent = like.fields parent
    decided-fields c g like service = like.fields service
    decided-fields c g like name = like.fields name
    decided-fields c g like resource = like.fields resource
    decided-fields c g like type = like.fields type
    decided-fields c g like start = like.fields start
    decided-fields c g like duration = like.fields duration
    decided-fields c g like error = like.fields error
    decided-fields c g like origin = like.fields origin
    decided-fields c g like rule = decision-shown d.rule
    decided-fields c g like limit = decision-shown d.limit
    decided-fields c g like agent = decision-shown d.agent

    decided-like : (x : Segment T) (ts : List (T × T)) (ns : List (T × ℕ)) (g : book.Segment)
        → LikeSegment bytes (record { head = x; texts = ts; numbers = ns }) g
        → LikeSegment bytes (record { head = decided d x; texts = ts; numbers = ns }) (noted g)
    decided-like x ts ns g like = record {
      counted = like.counted;
      fields = decided-fields (record { head = x; texts = ts; numbers = ns }) g like;
      text_row = like.text_row;
      number_row = like.number_row;
    }

    -- a record with the pairs of its rows
    abbrev with_rows : Store T → ℕ → Segment T → Rowed (Segment T) T
    with_rows m p x = record { head = x; texts = take x.meta.count (row 32 p m.segment_meta); numbers = take x.metrics.count (row 16 p m.segment_metrics) }

    module _ (m : Store T) (id p : ℕ) (x : Segment T) (finds : at m.seats id ≡ Some p) (there : slice_get m.segments p ≡ Some x) where
      view_before : segment_view m id ≡ Some (with_rows m p x)
      view_before = ap (chained (segment_at m.segments m.segment_meta m.segment_metrics)) finds ∙ ap (option_map (with_rows m p)) there

      view_after : segment_view (with_segments (set m.segments p (decided d x)) m) id ≡ Some (with_rows m p (decided d x))
      view_after =
          ap (chained (segment_at (set m.segments p (decided d x)) m.segment_meta m.segment_metrics)) finds
          ∙ ap (option_map (with_rows m p)) (nth_set-same m.segments p (decided d x) (slice_get_within m.segments p x there))

      view_other : InOrder m → (q : ℕ) → (q ≡ id → ⊥) → segment_view (with_segments (set m.segments p (decided d x)) m) q ≡ segment_view m q
      view_other o q ne = by (at m.seats q) refl where
        by : (n : Option ℕ) → at m.seats q ≡ n
            → chained (segment_at (set m.segments p (decided d x)) m.segment_meta m.segment_metrics) n ≡ chained (segment_at m.segments m.segment_meta m.segment_metrics) n
        by None e = refl
        by (Some n) e =
            ap (option_map (with_rows m n))
            (nth_set-other m.segments p n (decided d x)
            (λ i. ne (found-apart standing_key m.segments m.seats o.segments.indexed q id p (e ∙ ap Some i) finds)))

      decided-shows : (b : Book) → Shows bytes m b
          → Shows bytes (with_segments (set m.segments p (decided d x)) m) (step (decisions id d.rule d.limit d.agent) b).0 × (accepted ≡ (step (decisions id d.rule d.limit d.agent) b).1)
      decided-shows b s =
          let had = both_left (LikeSegment bytes) (segment_view m id) (find id b.segments) (with_rows m p x) (s.segments.each id) view_before in
          rw had.1 (
            record {
              order = decided-order m p x there s.order;
              setup = ap (λ n. record { service = bytes m.settings.service; language = bytes m.settings.language; pid = m.settings.pid; spans = length m.spans; segments = n; strings = length m.strings }) (length-set m.segments p (decided d x)) ∙ s.setup;
              strings = s.strings;
              defaults = s.defaults;
              live = s.live;
              handed = s.handed;
              segments =
                  retold (LikeSegment bytes) (segment_view m) (segment_view (with_segments (set m.segments p (decided d x)) m)) (length m.seats) b.segments id had.0 (noted had.0) (with_rows m p (decided d x))
                  s.segments had.1 view_after
                  (decided-like x (take x.meta.count (row 32 p m.segment_meta)) (take x.metrics.count (row 16 p m.segment_metrics)) had.0 had.2)
                  (view_other s.order);
            },
            refl,
          )

    pub sampled : (m : Store T) (id p : ℕ) (x y : Segment T) → InOrder m → at m.seats id ≡ Some p → y ≡ decided d (get_or m.segments p x)
        → Changes bytes (decisions id d.rule d.limit d.agent) (decided_in {E = ChangeBufferError} id d (Ok tt)) m (with_segments (set m.segments p y) m) accepted
    sampled m id p x y o finds is =
        let there = slice_get-get_or m.segments p x (found-within m id p o finds) in
        record {
          call = record { untouched = λ n. absurd (n o); shows = λ b s. rw is (decided-shows m id p (get_or m.segments p x) finds there b s) };
          after =
              ap (λ gs. with_segments gs m)
              (ap (set m.segments p) is ∙ sym (ap (changed_at (decided d) m.segments) finds ∙ ap (changed_there (decided d) m.segments p) there));
        }
