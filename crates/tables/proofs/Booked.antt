-- Every memory in order shows a book: the one that is read off it.
use Rattle.std.proofs.Common.{◌≡◌, ℕ, ◌≤◌, Bool, true, false, cond, List, [], map, length, take, is_some, Some, None, Option, unwrap_or, sym, refl, ap}
use Rattle.std.specs.Option.{option_map}
use Rattle.std.specs.List.{slice_get}
use Rattle.std.proofs.lemmas.List.{length-map}
use Rattle.std.proofs.lemmas.Option.{none-some, slice_get_past}
use Rattle.std.proofs.lemmas.Bool.{false≢true}
use Rattle.index.specs.declared.entry.Entry.{Entry}
use Rattle.index.specs.Held.{at, Once}
use Rattle.book.specs.Maps.{Both}
use Rattle.book.specs.Book.{Text, Book}
use Rattle.book.specs.Book as book
use Rattle.tables.specs.Store.{Store, only, chained, tally, handed, live_key, standing_key, span_at, segment_at}
use Rattle.tables.specs.InOrder.{InOrder}
use Rattle.tables.specs.Shows.{text_pair, LikeSpan, LikeSegment, Shown, string_at, setup_of, handed_view, Shows}
use Rattle.tables.proofs.Writings.{span_of, like-span_of, segment_of, like-segment_of}
use Rattle.tables.proofs.Gathered.{entered, find-entered, distinct_entered, gathered, find-gathered, distinct_gathered, length-gathered}

-- ---- what is there
-- a record with a key is there, and so is what is made of it
key-there : {A C : Type 0} (key : A → Option ℕ) (make : A → C) (o : Option A) (k : ℕ) → chained key o ≡ Some k → is_some (option_map make o) ≡ true
key-there key make None k e = absurd (none-some k e)
key-there key make (Some x) k e = refl

-- what is made of a record is there under a test where the record passes that test
test-there : {A C V : Type 0} (test : A → Bool) (head : C → A) (make : A → C) (of : C → V) → ((x : A) → head (make x) ≡ x) → (o : Option A) → is_some (option_map of (only (λ c. test (head c)) (option_map make o))) ≡ is_some (only test o)
test-there test head make of same None = refl
test-there test head make of same (Some x) =
    rw (same x) (elim (test x) as (λ b. is_some (option_map of (cond b (Some (make x)) None)) ≡ is_some (cond b (Some x) None)) [ true ↦ refl | false ↦ refl ])

-- ---- records against a map whose items are made of them
module _ {C V : Type 0} (Like : C → V → Type 0) (of : C → V) (like : (c : C) → Like c (of c)) where
  both-made : (o : Option C) → Both Like o (option_map of o)
  both-made None = tt
  both-made (Some c) = like c

  both-there : (o : Option C) (d : V) → is_some o ≡ true → Both Like o (Some (unwrap_or (option_map of o) d))
  both-there None d there = absurd (false≢true there)
  both-there (Some c) d there = like c

  both-chained : (view : ℕ → Option C) (d : V) (o : Option ℕ) → ((n : ℕ) → o ≡ Some n → is_some (view n) ≡ true) → Both Like (chained view o) (option_map (λ n. unwrap_or (option_map of (view n)) d) o)
  both-chained view d None there = tt
  both-chained view d (Some n) there = both-there (view n) d (there n refl)

  -- by an index, of which each entry has a record
  shown-entered : (view : ℕ → Option C) (d : V) (es : List Entry) → Once es → ((k n : ℕ) → at es k ≡ Some n → is_some (view n) ≡ true) → Shown Like (λ k. chained view (at es k)) (length es) (entered (λ n. unwrap_or (option_map of (view n)) d) es)
  shown-entered view d es once there = record {
    each = λ k. rw (find-entered (λ n. unwrap_or (option_map of (view n)) d) es k) (both-chained view d (at es k) (there k));
    counted = sym (length-map es _);
    once = distinct_entered (λ n. unwrap_or (option_map of (view n)) d) es once;
  }

  -- by the places of a table, at which a test says what is there
  shown-gathered : {A : Type 0} (view : ℕ → Option C) (test : A → Bool) (xs : List A) → ((k : ℕ) → length xs ≤ k → view k ≡ None) → ((k : ℕ) → is_some (option_map of (view k)) ≡ is_some (only test (slice_get xs k))) → Shown Like view (tally test xs) (gathered (λ k. option_map of (view k)) (length xs))
  shown-gathered view test xs past there = record {
    each = λ k. rw (find-gathered (λ j. option_map of (view j)) (length xs) (λ j le. ap (option_map of) (past j le)) k) (both-made (view k));
    counted = sym (length-gathered test xs (λ k. option_map of (view k)) there);
    once = distinct_gathered (λ k. option_map of (view k)) (length xs);
  }

-- ---- the book
-- what is read where there is no record: in a memory in order, nowhere
abbrev no_span : book.Span
no_span = record { id = 0; segment = 0; given = []; since = [] }

abbrev no_segment : book.Segment
no_segment = record { created = 0; charged = 0; since = [] }

-- the book that is read off a memory
abbrev pub book_of : {T : Type 0} → (T → Text) → Store T → Book
book_of bytes m = record {
  setup = setup_of bytes m;
  strings = gathered (string_at bytes m.strings) (length m.strings);
  defaults = map (text_pair bytes) (take m.settings.defaults m.defaults);
  live = entered (λ n. unwrap_or (option_map (span_of bytes) (span_at m.spans m.span_meta m.span_metrics n)) no_span) m.ids;
  segments = entered (λ n. unwrap_or (option_map (segment_of bytes) (segment_at m.segments m.segment_meta m.segment_metrics n)) no_segment) m.seats;
  handed = gathered (λ r. option_map (span_of bytes) (handed_view m r)) (length m.spans);
}

pub booked : {T : Type 0} (bytes : T → Text) (m : Store T) → InOrder m → Once m.ids → Once m.seats → (b : Book) × Shows bytes m b
booked bytes m order ids seats = (
  book_of bytes m,
  record {
    order = order;
    setup = refl;
    strings = λ k. sym (find-gathered (string_at bytes m.strings) (length m.strings) (λ j le. rw (slice_get_past m.strings j le) refl) k);
    defaults = refl;
    live =
        shown-entered (LikeSpan bytes) (span_of bytes) (like-span_of bytes) (span_at m.spans m.span_meta m.span_metrics) no_span m.ids ids
        (λ k n e. key-there live_key _ (slice_get m.spans n) k (order.spans.indexed.0 k n e));
    handed =
        shown-gathered (LikeSpan bytes) (span_of bytes) (like-span_of bytes) (handed_view m) handed m.spans
        (λ k le. rw (slice_get_past m.spans k le) refl)
        (λ k. test-there handed (λ c. c.head) _ (span_of bytes) (λ x. refl) (slice_get m.spans k));
    segments =
        shown-entered (LikeSegment bytes) (segment_of bytes) (like-segment_of bytes) (segment_at m.segments m.segment_meta m.segment_metrics) no_segment m.seats seats
        (λ k n e. key-there standing_key _ (slice_get m.segments n) k (order.segments.indexed.0 k n e));
  },
)
