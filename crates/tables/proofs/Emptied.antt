-- A memory with every record free, no segment standing, no strings and empty indexes shows the new book.
use Rattle.std.proofs.Common.{◌≡◌, ℕ, suc, Bool, false, cond, ltb, List, [], ◌∷◌, length, Some, None, Option, sym, refl, ap, ◌∙◌, subst, lit≤}
use Rattle.std.specs.List.{slice_get}
use Rattle.index.specs.declared.entry.Entry.{Entry}
use Rattle.index.specs.Held.{at}
use Rattle.std.proofs.lemmas.Option.{none-some}
use Rattle.book.specs.Book.{Text, new_book}
use Rattle.tables.specs.declared.span.Mark.TheVariants.{Free}
use Rattle.tables.specs.declared.span.Span.{Span}
use Rattle.tables.specs.declared.segment.Segment.{Segment}
use Rattle.tables.specs.Store.{Store, tally, is_live, is_handed, handed, live_key, standing_key}
use Rattle.tables.specs.InOrder.{InOrder, Sized, KeptIn, Within, SpanLimits, SegmentLimits}
use Rattle.std.proofs.lemmas.Bool.{false≢true}
use Rattle.tables.proofs.Places.{chained-there}
use Rattle.tables.specs.Shows.{Shows, Shown, LikeSpan, LikeSegment, string_of, string_at, setup_of, live_view, handed_view, segment_view}

-- no record has a key: an empty index is the right one
no_keys : {A : Type 0} (key : A → Option ℕ) (Limits : A → Type 0) (xs : List A) (es : List Entry) → es ≡ []
    → ((k : ℕ) (x : A) → slice_get xs k ≡ Some x → key x ≡ None) → ((k : ℕ) (x : A) → slice_get xs k ≡ Some x → Limits x) → KeptIn key Limits xs es
no_keys key Limits xs es e none all = record {
  limits = all;
  indexed = (
    (λ k n f. absurd (none-some n (sym (ap (λ zs. at zs k) e) ∙ f))),
    λ k n f.
        let x = chained-there key (slice_get xs n) k f in
        absurd (none-some k (sym (none n x.0 x.1) ∙ x.2)),
  );
}

-- none passes
no_tally : {A : Type 0} (test : A → Bool) (xs : List A) → ((k : ℕ) (x : A) → slice_get xs k ≡ Some x → test x ≡ false) → tally test xs ≡ 0
no_tally test [] none = refl
no_tally test (x ∷ xs) none = rw (none 0 x refl) (no_tally test xs (λ k y e. none (suc k) y e))

-- nothing is shown where nothing is found
none-shown : {C V : Type 0} (Like : C → V → Type 0) (view : ℕ → Option C) (n : ℕ) → n ≡ 0 → ((k : ℕ) → view k ≡ None) → Shown Like view n []
none-shown Like view n e none = record { each = λ k. rw (none k) tt; counted = e; once = tt }

module _ {T : Type 0} (bytes : T → Text) (m : Store T) (sized : Sized m)
    (free : (k : ℕ) (x : Span T) → slice_get m.spans k ≡ Some x → x.mark ≡ Free)
    (ended : (k : ℕ) (x : Segment T) → slice_get m.segments k ≡ Some x → x.count ≡ 0)
    (no-strings : (k : ℕ) (x : Option T) → slice_get m.strings k ≡ Some x → x ≡ None)
    (no_ids : m.ids ≡ []) (no-seats : m.seats ≡ []) (no-defaults : m.settings.defaults ≡ 0) where
  emptied-order : InOrder m
  emptied-order = record {
    span_lengths = sized.span_lengths;
    segment_lengths = sized.segment_lengths;
    others = record {
      some_strings = sized.others.some_strings;
      few_strings = sized.others.few_strings;
      default_table = sized.others.default_table;
      few_defaults = rw no-defaults (lit≤ tt);
    };
    spans =
        no_keys live_key SpanLimits m.spans m.ids no_ids
        (λ k x e. ap (λ t. cond (is_live t) (Some x.id) None) (free k x e))
        (λ k x e. subst (λ t. Within t x.meta.count x.metrics.count) (sym (free k x e)) tt);
    segments =
        no_keys standing_key SegmentLimits m.segments m.seats no-seats
        (λ k x e. ap (λ n. cond (ltb 0 n) (Some x.id) None) (ended k x e))
        (λ k x e up. absurd (false≢true (sym (ap (ltb 0) (ended k x e)) ∙ up)));
  }

  no_handed : (k : ℕ) → handed_view m k ≡ None
  no_handed k = by (slice_get m.spans k) refl where
    by : (o : Option (Span T)) → slice_get m.spans k ≡ o → handed_view m k ≡ None
    by None e = rw e refl
    by (Some x) e = rw (e, free k x e) refl

  nothing-there : (k : ℕ) → string_at bytes m.strings k ≡ None
  nothing-there k = by (slice_get m.strings k) refl where
    by : (o : Option (Option T)) → slice_get m.strings k ≡ o → string_of bytes o ≡ None
    by None e = refl
    by (Some x) e = ap (λ y. string_of bytes (Some y)) (no-strings k x e)

  pub emptied : Shows bytes m (new_book (setup_of bytes m))
  emptied = record {
    order = emptied-order;
    setup = refl;
    strings = nothing-there;
    defaults = rw no-defaults refl;
    live = none-shown (LikeSpan bytes) (live_view m) (length m.ids) (ap length no_ids) (λ k. rw no_ids refl);
    handed =
        none-shown (LikeSpan bytes) (handed_view m) (tally handed m.spans)
        (no_tally handed m.spans (λ k x e. ap is_handed (free k x e))) no_handed;
    segments = none-shown (LikeSegment bytes) (segment_view m) (length m.seats) (ap length no-seats) (λ k. rw no-seats refl);
  }
