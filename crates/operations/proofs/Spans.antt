-- One span record changes, with its rows and its id's entry in the index: the order, and the book.
use Rattle.std.proofs.Common.{◌≡◌, ℕ, ◌+◌, ◌≤◌, false, cond, ◌⊎◌, List, map, length, take, set, is_some, Some, None, sym, refl, ap, ◌∙◌, subst, inl, inr, length-set}
use Rattle.std.specs.Option.{option_map}
use Rattle.std.specs.List.{slice_get}
use Rattle.index.specs.declared.entry.Entry.{Entry}
use Rattle.index.specs.Held.{at}
use Rattle.vec_map.specs.Tables.{row, OthersStay}
use Rattle.book.specs.Limits.{span_text_limit, span_number_limit, most_spans, span_text_row, span_number_row}
use Rattle.book.specs.Maps.{find, put}
use Rattle.book.specs.Book.{Text, Book, with_live}
use Rattle.book.specs.Book as book
use Rattle.book.proofs.Boths.{both_left}
use Rattle.tables.specs.declared.span.Mark.{Mark}
use Rattle.tables.specs.declared.span.Mark.TheVariants.{Free, Live, HandedOut}
use Rattle.tables.specs.declared.span.Span.{Span}
use Rattle.tables.specs.declared.settings.Settings.{Settings}
use Rattle.tables.specs.Store.{Store, store, Rowed, only, chained, is_live, is_handed, handed, live_key, span_at}
use Rattle.tables.specs.InOrder.{Within, Lengths, OthersInOrder, SpanLimits, InOrder}
use Rattle.tables.specs.Shows.{text_pair, live_view, handed_view, LikeSpan, Shows}
use Rattle.std.proofs.lemmas.Option.{none-some, slice_get_within}
use Rattle.tables.proofs.Places.{nth_set-same}
use Rattle.operations.specs.Made.{Puts, SameSettings}
use Rattle.operations.proofs.Taking.{key-is, apart, kept_set, shown-put, other-cell, other-held, tally-set, only_not, shown_aside}

pub same-settings : {T : Type 0} (s : Settings T) → SameSettings s s
same-settings s = record { service = refl; language = refl; pid = refl; defaults = refl }

pub lengths_same : (most t n a a' b b' c c' d d' : ℕ) → a' ≡ a → b' ≡ b → c' ≡ c → d' ≡ d → Lengths most t n a b c d → Lengths most t n a' b' c' d'
lengths_same most t n a a' b b' c c' d d' ea eb ec ed l =
    subst (λ (z : ℕ). Lengths most t n z b' c' d') (sym ea) (subst (λ (z : ℕ). Lengths most t n a z c' d') (sym eb) (subst (λ (z : ℕ). Lengths most t n a b z d') (sym ec) (subst (λ (z : ℕ). Lengths most t n a b c z) (sym ed) l)))

-- a live span has a key, and is not handed out
live-named : {T : Type 0} (x : Span T) (id : ℕ) → x.mark ≡ Live → x.id ≡ id → live_key x ≡ Some id
live-named x id e f = ap (λ k. cond (is_live k) (Some x.id) None) e ∙ ap Some f

live-handed : {T : Type 0} (x : Span T) → x.mark ≡ Live → handed x ≡ false
live-handed x e = ap is_handed e

keyed_handed : (k : Mark) (id q : ℕ) → cond (is_live k) (Some id) None ≡ Some q → is_handed k ≡ false
keyed_handed Free id q e = refl
keyed_handed Live id q e = refl
keyed_handed HandedOut id q e = absurd (none-some q e)

within-live : (k : Mark) (t n : ℕ) → k ≡ Live → (t ≤ span_text_limit) × (n ≤ span_number_limit) → Within k t n
within-live k t n e l = subst (λ k. Within k t n) (sym e) l

module _ {T : Type 0} (m : Store T) (o : InOrder m) (r id : ℕ) (x : Span T) (is : slice_get m.spans r ≡ Some x)
    (way : (at m.ids id ≡ Some r) ⊎ ((at m.ids id ≡ None) × (x.mark ≡ Free))) where
  span_way : (at m.ids id ≡ Some r) ⊎ ((at m.ids id ≡ None) × (live_key x ≡ None))
  span_way = elim way [ inl e ↦ inl e | inr e ↦ inr (e.0, ap (λ k. cond (is_live k) (Some x.id) None) e.1) ]

  was_handed : handed x ≡ false
  was_handed = elim way [
    | inl e ↦ keyed_handed x.mark x.id id (key-is live_key m.spans m.ids o.spans.indexed r id x is span_way id e)
    | inr e ↦ ap is_handed e.1
  ]

  span-apart : (q : ℕ) → (q ≡ id → ⊥) → at m.ids q ≡ Some r → ⊥
  span-apart = apart live_key m.spans m.ids o.spans.indexed r id x is span_way

  module _ (x' : Span T) (ms' : List (T × T)) (ns' : List (T × ℕ)) (settings' : Settings T) (ids' : List Entry) (room' : ℕ)
      (marked : x'.mark ≡ Live) (named : x'.id ≡ id) (same : SameSettings m.settings settings') (p : Puts m.ids ids' id r) where
    abbrev pub span_taken : Store T
    span_taken = store (set m.spans r x') ms' ns' m.segments m.segment_meta m.segment_metrics m.strings m.defaults settings' ids' room' m.seats m.seats_room

    module _ (lm : length ms' ≡ length m.span_meta) (ln : length ns' ≡ length m.span_metrics) (lr : room' ≡ m.ids_room)
        (few : (x'.meta.count ≤ span_text_limit) × (x'.metrics.count ≤ span_number_limit)) where
      pub span-order : InOrder span_taken
      span-order = record {
        span_lengths = lengths_same most_spans span_text_row span_number_row _ _ _ _ _ _ _ _ (length-set m.spans r x') lm ln lr o.span_lengths;
        segment_lengths = o.segment_lengths;
        others = subst (λ (n : ℕ). OthersInOrder (length m.strings) (length m.defaults) n) (sym same.defaults) o.others;
        spans =
            kept_set live_key m.spans m.ids o.spans.indexed r id x is span_way x' ids' p (live-named x' id marked named) SpanLimits o.spans.limits
            (within-live x'.mark _ _ marked few);
        segments = o.segments;
      }

      module _ (om : OthersStay 99 r m.span_meta ms') (on : OthersStay 54 r m.span_metrics ns') (bytes : T → Text) where
        abbrev pub cell : ℕ → Span T → Rowed (Span T) T
        cell q y = record { head = y; texts = take y.meta.count (row 99 q m.span_meta); numbers = take y.metrics.count (row 54 q m.span_metrics) }

        abbrev pub cell' : ℕ → Span T → Rowed (Span T) T
        cell' q y = record { head = y; texts = take y.meta.count (row 99 q ms'); numbers = take y.metrics.count (row 54 q ns') }

        cells_same : (q : ℕ) → (q ≡ r → ⊥) → (y : Span T) → cell' q y ≡ cell q y
        cells_same q ne y =
            ap (λ z. record { head = y; texts = take y.meta.count z; numbers = take y.metrics.count (row 54 q ns') }) (om q ne)
            ∙ ap (λ z. record { head = y; texts = take y.meta.count (row 99 q m.span_meta); numbers = take y.metrics.count z }) (on q ne)

        held-there : (q : ℕ) → (q ≡ id → ⊥) → live_view span_taken q ≡ live_view m q
        held-there q ne =
            ap (chained (span_at (set m.spans r x') ms' ns')) (p.there q ne)
            ∙ other-held cell cell' m.spans r x' cells_same (at m.ids q) (span-apart q ne)

        here-cell : span_at (set m.spans r x') ms' ns' r ≡ Some (cell' r x')
        here-cell = ap (λ z. option_map (cell' r) z) (nth_set-same m.spans r x' (slice_get_within m.spans r x is))

        was_cell : span_at m.spans m.span_meta m.span_metrics r ≡ Some (cell r x)
        was_cell = ap (λ z. option_map (cell r) z) is

        viewed : is_some (live_view m id) ≡ is_some (at m.ids id)
        viewed = elim way [
          | inl e ↦ ap is_some (ap (chained (span_at m.spans m.span_meta m.span_metrics)) e ∙ was_cell) ∙ sym (ap is_some e)
          | inr e ↦ ap is_some (ap (chained (span_at m.spans m.span_meta m.span_metrics)) e.0) ∙ sym (ap is_some e.0)
        ]

        pub span-shown : (b : Book) (s' : book.Span) → Shows bytes m b → LikeSpan bytes (cell' r x') s' → Shows bytes span_taken (with_live (put id s' b.live) b)
        span-shown b s' h like = record {
          order = span-order;
          setup =
              ap (λ z. record { service = bytes z; language = bytes settings'.language; pid = settings'.pid; spans = length (set m.spans r x'); segments = length m.segments; strings = length m.strings }) same.service
              ∙ ap (λ z. record { service = bytes m.settings.service; language = bytes z; pid = settings'.pid; spans = length (set m.spans r x'); segments = length m.segments; strings = length m.strings }) same.language
              ∙ ap (λ z. record { service = bytes m.settings.service; language = bytes m.settings.language; pid = z; spans = length (set m.spans r x'); segments = length m.segments; strings = length m.strings }) same.pid
              ∙ ap (λ z. record { service = bytes m.settings.service; language = bytes m.settings.language; pid = m.settings.pid; spans = z; segments = length m.segments; strings = length m.strings }) (length-set m.spans r x')
              ∙ h.setup;
          strings = h.strings;
          defaults = ap (λ (n : ℕ). map (text_pair bytes) (take n m.defaults)) same.defaults ∙ h.defaults;
          live =
              shown-put (LikeSpan bytes) (live_view m) (live_view span_taken) (length m.ids) (length ids') b.live h.live id (cell' r x') s'
              (ap (chained (span_at (set m.spans r x') ms' ns')) p.here ∙ here-cell) held-there
              (p.many ∙ ap (λ z. length m.ids + cond z 0 1) (sym viewed)) like;
          handed =
              shown_aside (LikeSpan bytes) (handed_view m) (handed_view span_taken) _ _ b.handed h.handed r
              (only_not (λ c. handed c.head) _ (cell r x) was_cell was_handed)
              (only_not (λ c. handed c.head) _ (cell' r x') here-cell (live-handed x' marked))
              (λ q ne. ap (only (λ c. handed c.head)) (other-cell cell cell' m.spans r x' cells_same q ne))
              (tally-set handed m.spans r x x' is (live-handed x' marked ∙ sym was_handed));
          segments = h.segments;
        }

  -- the span of the book that a live record shows
  pub span_own : (bytes : T → Text) (b : Book) → Shows bytes m b → at m.ids id ≡ Some r →
      (s : book.Span) × (find id b.live ≡ Some s)
      × LikeSpan bytes (record { head = x; texts = take x.meta.count (row 99 r m.span_meta); numbers = take x.metrics.count (row 54 r m.span_metrics) }) s
  span_own bytes b h e =
      both_left (LikeSpan bytes) _ _ _ (h.live.each id)
      (ap (chained (span_at m.spans m.span_meta m.span_metrics)) e
      ∙ ap (λ z. option_map (λ y. record { head = y; texts = take y.meta.count (row 99 r m.span_meta); numbers = take y.metrics.count (row 54 r m.span_metrics) }) z) is)
