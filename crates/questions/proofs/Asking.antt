-- The questions against the plain book.
use Rattle.std.proofs.Common.{◌≡◌, ℕ, ◌+◌, ◌-◌, ◌<◌, Bool, true, false, cond, List, length, IsErrAnd, Some, None, Ok, Err, Option, Result, sym, refl, ap, ◌∙◌, subst, inl, inr, arith}
use Rattle.std.specs.Option.{option_map, ok_or}
use Rattle.std.specs.List.{slice_get}
use Rattle.std.proofs.lemmas.Bool.{false≢true}
use Rattle.std.proofs.lemmas.Result.{err_from_is_err_and}
use Rattle.std.proofs.lemmas.Option.{none-some, slice_get_within}
use Rattle.index.specs.declared.entry.Entry.{Entry}
use Rattle.index.specs.Held.{at, Once}
use Rattle.index.specs.Holding.{Holds}
use Rattle.refusals.specs.declared.ChangeBufferError.{ChangeBufferError}
use Rattle.refusals.specs.declared.ChangeBufferError.TheVariants.{OutOfOrder, NotHandedOut, SpanNotFound}
use Rattle.book.specs.Maps.{has, find, Both}
use Rattle.book.specs.Book.{Text, Numbers, Book, numbers_of}
use Rattle.book.specs.Book as book
use Rattle.book.specs.Calls.{Call, get_span, get_segment, get_handed, get_numbers, span_or, step}
use Rattle.book.specs.Refusals.{not_handed, span_not_found, three_numbers, Answer, shown}
use Rattle.tables.specs.declared.span.Span.{Span}
use Rattle.tables.specs.Store.{Store, Rowed, only, chained, tally, key_at, live, handed, free, live_key, standing_key, span_at, segment_at}
use Rattle.tables.specs.InOrder.{InOrder}
use Rattle.tables.specs.Shows.{LikeSpan, LikeSegment, Shows}
use Rattle.questions.specs.Questions.{RecordOf, LiveRecord, handed_at, handed_number, live_number, Three, tallies, Told, Asks, Answers, SpanIn, OneSpan, OneSegment, ThreeNumbers}
use Rattle.questions.proofs.Tallies.{tallies-sum, live-tally}

-- ---- records in use
module _ {A : Type 0} (key : A → Option ℕ) where
  -- a record with a key is there, and so is what is made of it
  key-made : {C : Type 0} (make : A → C) (o : Option A) (k : ℕ) → chained key o ≡ Some k → (c : C) × (option_map make o ≡ Some c)
  key-made make None k e = absurd (none-some k e)
  key-made make (Some x) k e = (make x, refl)

  key-within : (xs : List A) (n k : ℕ) (o : Option A) → slice_get xs n ≡ o → chained key o ≡ Some k → n < length xs
  key-within xs n k None e h = absurd (none-some k h)
  key-within xs n k (Some x) e h = slice_get_within xs n x e

  -- what the index holds for an id is the record in use under it
  pub record_of : (xs : List A) (es : List Entry) → Holds es (key_at key xs) → (id : ℕ) (o : Option ℕ) → o ≡ at es id → RecordOf key xs id o
  record_of xs es h id None e = λ n k. none-some n (e ∙ (h.1 id n k))
  record_of xs es h id (Some n) e = let k = h.0 id n (sym e) in (key-within xs n id (slice_get xs n) refl k, k)

pub live_record : {T : Type 0} (xs : List (Span T)) (es : List Entry) → Holds es (key_at live_key xs) → (id : ℕ) (r : Result ℕ ChangeBufferError) → r ≡ live_number id es → LiveRecord xs id r
live_record xs es h id r e = subst (λ z. LiveRecord xs id z) (sym e) (by (at es id) refl)
  where
    by : (o : Option ℕ) → o ≡ at es id → LiveRecord xs id (ok_or o (SpanNotFound id))
    by None w = λ _. record_of live_key xs es h id None w
    by (Some n) w = record_of live_key xs es h id (Some n) w

-- what an index leads to, by the record's number
by_number : {C V : Type 0} (Like : C → V → Type 0) (view : ℕ → Option C) (o : Option ℕ) (v : Option V) → ((n : ℕ) → o ≡ Some n → (c : C) × (view n ≡ Some c))
    → Both Like (chained view o) v → Both (λ (n : ℕ) (y : V). (c : C) × (view n ≡ Some c) × Like c y) o v
by_number Like view None None there h = tt
by_number Like view None (Some y) there h = h
by_number Like view (Some n) None there h = absurd (subst (λ z. Both Like z None) (there n refl).1 h)
by_number Like view (Some n) (Some y) there h = let c = there n refl in (c.0, c.1, subst (λ z. Both Like z (Some y)) c.1 h)

-- ---- a record's mark
module _ {T : Type 0} where
  pub handed-within : (n : ℕ) (xs : List (Span T)) → handed_at xs n ≡ true → n < length xs
  handed-within n xs is = by (slice_get xs n) refl is
    where
      by : (o : Option (Span T)) → slice_get xs n ≡ o → has (only handed o) ≡ true → n < length xs
      by None e is = absurd (false≢true is)
      by (Some x) e is = slice_get_within xs n x e

  -- ---- the three numbers
  pub three-sum : (xs : List (Span T)) (r : Three) → r ≡ tallies xs → r.0 + r.1 + r.2 ≡ length xs
  three-sum xs r e = ap (λ (z : Three). z.0 + z.1 + z.2) e ∙ tallies-sum xs

same_numbers : (l l' h h' f f' : ℕ) → l ≡ l' → h ≡ h' → f ≡ f' → ◌≡◌ {A = Numbers} (record { live = l; handed = h; free = f }) (record { live = l'; handed = h'; free = f' })
same_numbers l l' h h' f f' a b c =
    ap (λ z. record { live = z; handed = h; free = f }) a
    ∙ (ap (λ z. record { live = l'; handed = z; free = f }) b ∙ ap (λ z. record { live = l'; handed = h'; free = z }) c)

-- ---- what the memory says, by the book
module _ {T : Type 0} (bytes : T → Text) (m : Store T) where
  told-span : (id : ℕ) (o : Option ℕ) (v : Option book.Span) → Both (SpanIn bytes m) o v → Told (OneSpan bytes m) (ok_or o (SpanNotFound id)) (span_or (span_not_found id) v)
  told-span id None None h = refl
  told-span id None (Some s) h = absurd h
  told-span id (Some n) None h = absurd h
  told-span id (Some n) (Some s) h = (s, refl, h)

  told-marked : (n : ℕ) (t : Bool) (x : Span T) (c : Rowed (Span T) T) (v : Option book.Span) → span_at m.spans m.span_meta m.span_metrics n ≡ Some c
      → Both (LikeSpan bytes) (cond t (Some c) None) v
      → Told (λ (_ : Unit {0}). OneSpan bytes m n) (cond (has (cond t (Some x) None)) (Ok tt) (Err (NotHandedOut n))) (span_or (not_handed n) v)
  told-marked n true x c None e h = absurd h
  told-marked n true x c (Some s) e h = (s, refl, (c, e, h))
  told-marked n false x c None e h = refl
  told-marked n false x c (Some s) e h = absurd h

  told-handed : (n : ℕ) (make : Span T → Rowed (Span T) T) → ((x : Span T) → (make x).head ≡ x) → (o : Option (Span T)) (v : Option book.Span)
      → span_at m.spans m.span_meta m.span_metrics n ≡ option_map make o → Both (LikeSpan bytes) (only (λ c. handed c.head) (option_map make o)) v
      → Told (λ (_ : Unit {0}). OneSpan bytes m n) (cond (has (only handed o)) (Ok tt) (Err (NotHandedOut n))) (span_or (not_handed n) v)
  told-handed n make same None None e h = refl
  told-handed n make same None (Some s) e h = absurd h
  told-handed n make same (Some x) v e h =
      told-marked n (handed x) x (make x) v e (subst (λ y. Both (LikeSpan bytes) (cond (handed y) (Some (make x)) None) v) (same x) h)

  told-numbers : (b : Book) → Once m.ids → Shows bytes m b → numbers_of b ≡ record { live = tally live m.spans; handed = tally handed m.spans; free = tally free m.spans }
  told-numbers b once s =
      let l : length b.live ≡ tally live m.spans = sym s.live.counted ∙ live-tally m.spans m.ids once s.order.spans.indexed in
      let h : length b.handed ≡ tally handed m.spans = sym s.handed.counted in
      let n : b.setup.spans ≡ length m.spans = ap (λ u. u.spans) (sym s.setup) in
      same_numbers (length b.live) (tally live m.spans) (length b.handed) (tally handed m.spans)
      (b.setup.spans - (length b.live + length b.handed)) (tally free m.spans) l h (omega (arith, l, h, n, tallies-sum m.spans))

-- ---- the questions
module _ {T : Type 0} (bytes : T → Text) (m : Store T) where
  -- where the tables are not in order, at the exit of a `?`
  pub turned_off : {A : Type 0} (call : Call) (this : Result A ChangeBufferError) (Means : Store T → A → Answer → Type 0) (r : Result A ChangeBufferError) (e : ChangeBufferError)
      → IsErrAnd r (λ x. x ≡ e) → (InOrder m → ⊥) × (e ≡ OutOfOrder) → Answers bytes call this Means m r
  turned_off call this Means r e is out =
      let p = err_from_is_err_and r is in
      rw (p.1, p.2, out.1) (record { value = inr (out.0, refl); call = record { untouched = λ _. refl; shows = λ b s. absurd (out.0 s.order) } })

  -- where they are
  module _ (o : InOrder m) where
    answered : {A : Type 0} (call : Call) (Means : Store T → A → Answer → Type 0) (r x : Result A ChangeBufferError) → r ≡ x
        → ((b : Book) → Shows bytes m b → Shows bytes m (step call b).0 × Told (Means m) x (step call b).1) → Answers bytes call x Means m r
    answered call Means r x e told = record {
      value = inl (o, e);
      call = subst (λ z. Asks bytes call Means m z) (sym e) (record { untouched = λ n. absurd (n o); shows = told });
    }

    pub asked-span : (id : ℕ) (r : Result ℕ ChangeBufferError) → r ≡ live_number id m.ids → Answers bytes (get_span id) (live_number id m.ids) (OneSpan bytes) m r
    asked-span id r e =
        answered (get_span id) (OneSpan bytes) r (live_number id m.ids) e
        (λ b s. (
          s,
          told-span bytes m id (at m.ids id) (find id b.live)
              (by_number (LikeSpan bytes) (span_at m.spans m.span_meta m.span_metrics) (at m.ids id) (find id b.live)
              (λ n h. key-made live_key _ (slice_get m.spans n) id (o.spans.indexed.0 id n h)) (s.live.each id)),
        ))

    pub asked-segment : (id : ℕ) (r : Option ℕ) → r ≡ at m.seats id → Answers bytes (get_segment id) (Ok (at m.seats id)) (OneSegment bytes) m (Ok r)
    asked-segment id r e =
        answered (get_segment id) (OneSegment bytes) (Ok r) (Ok (at m.seats id)) (ap Ok e)
        (λ b s. (
          s,
          (
            find id b.segments,
            refl,
            by_number (LikeSegment bytes) (segment_at m.segments m.segment_meta m.segment_metrics) (at m.seats id) (find id b.segments)
                (λ n h. key-made standing_key _ (slice_get m.segments n) id (o.segments.indexed.0 id n h)) (s.segments.each id),
          ),
        ))

    pub asked-handed : (n : ℕ) (r : Result (Unit {0}) ChangeBufferError) → r ≡ handed_number n m.spans → Answers bytes (get_handed n) (handed_number n m.spans) (λ m _. OneSpan bytes m n) m r
    asked-handed n r e =
        answered (get_handed n) (λ m _. OneSpan bytes m n) r (handed_number n m.spans) e
        (λ b s. (s, told-handed bytes m n _ (λ x. refl) (slice_get m.spans n) (find n b.handed) refl (s.handed.each n)))

    pub asked-numbers : Once m.ids → (r : Three) → r ≡ tallies m.spans → Answers bytes get_numbers (Ok (tallies m.spans)) ThreeNumbers m (Ok r)
    asked-numbers once r e =
        answered get_numbers ThreeNumbers (Ok r) (Ok (tallies m.spans)) (ap Ok e)
        (λ b s. (s, ap (λ z. shown (three_numbers z)) (told-numbers bytes m b once s)))
