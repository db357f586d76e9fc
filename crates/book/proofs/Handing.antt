-- A chunk takes its spans out of the live ones, tags them and hands them out, and charges its segment; returns drop them.
use Rattle.std.proofs.Common.{◌≡◌, ℕ, suc, ◌+◌, ◌<◌, ◌≤◌, Bool, true, false, cond, leb, List, [], ◌∷◌, map, length, Some, None, Option, refl, ap, subst, le_refl, arith}
use lib.ListN.{length-map}
use Rattle.std.proofs.lemmas.Bool.{leb-false}
use Rattle.book.specs.Limits.{span_text_limit, span_number_limit, segment_text_limit, segment_number_limit, span_text_row, span_number_row}
use Rattle.book.specs.Maps.{Map, find, put, remove, Distinct, Each}
use Rattle.book.specs.Book.{service, last_value, Span, Segment, written, shows, span_texts, count, Setup, Book}
use Rattle.book.specs.Refusals.{because, list_short, Answer, refused}
use Rattle.book.specs.Chunk.{text_in, tag_first, tag_every, tag_all, Taken, all, missing, and_span, take_one, take_all, charged, charge_one, charge, hand_out, chunk_taken, chunk_of, chunk, returned, return_spans}
use Rattle.book.specs.Sound.{Within, LiveSpan, Standing}
use Rattle.book.proofs.Maps.{distinct_put, distinct_remove, each-put, each-remove, length-put, length-remove, length_removed}
use Rattle.book.proofs.Tagging.{Serves, adds_first, adds_every, within_all}
use Rattle.book.proofs.Sounding.{Good, good_live}

-- ---- spans taken out: those taken, and those left

-- each span keeps these limits
abbrev SpansWithin : ℕ → ℕ → List Span → Type 0
SpansWithin t n [] = Unit {0}
SpansWithin t n (s ∷ ss) = Within t n (written s) × SpansWithin t n ss

-- of k spans that P says of, which keep the limits t and n
module _ (P : ℕ → Span → Type 0) (t n : ℕ) (limits : (k : ℕ) (s : Span) → P k s → Within t n (written s)) where
  abbrev Took : ℕ → Taken → Type 0
  Took k (all m ss) = (length m + length ss ≡ k) × Distinct m × Each P m × SpansWithin t n ss
  Took k (missing id m) = (length m ≤ k) × Distinct m × Each P m

  took_more : (k : ℕ) (s : Span) (x : Taken) → Within t n (written s) → Took k x → Took (suc k) (and_span s x)
  took_more k s (all m ss) w h = (omega (arith, h.0), h.1, h.2, (w, h.3))
  took_more k s (missing id m) w h = (omega (arith, h.0), h.1, h.2)

  took-all : (ids : List ℕ) (m : Map Span) → Distinct m → Each P m → Took (length m) (take_all ids m)
  took-all [] m d h = (omega arith, d, h, tt)
  took-all (id ∷ ids) m d h = turn (find id m) refl (took-all ids (remove id m) (distinct_remove id m d) (each-remove P id m h))
    where
      turn : (o : Option Span) → find id m ≡ o → Took (length (remove id m)) (take_all ids (remove id m)) → Took (length m) (take_one id m o (take_all ids (remove id m)))
      turn None e x = (le_refl (length m), d, h)
      turn (Some s) e x =
          subst (λ (k : ℕ). Took k (and_span s (take_all ids (remove id m)))) (length-remove id s m d e)
          (took_more (length (remove id m)) s (take_all ids (remove id m)) (limits id s (h id s e)) x)

-- ---- with their tags

every_within : (t n : ℕ) (u : Setup) (g : Option Segment) (s : Span) → Within t n (written s) → Within (t + 3) (n + 2) (written (tag_every u g s))
every_within t n u g s h = within_all t n 3 2 _ s h (adds_every u g (last_value _ (span_texts s)) (text_in (shows s service)))

first-within : (u : Setup) (g : Option Segment) (root : Bool) (s : Span) → Serves segment_text_limit segment_number_limit g → Within span_text_limit span_number_limit (written s) →
    Within span_text_row span_number_row (written (tag_every u g (tag_first root g s)))
first-within u g root s h w = every_within 96 52 u g (tag_first root g s) (within_all span_text_limit span_number_limit 32 20 _ s w (adds_first segment_text_limit segment_number_limit root g h))

others-within : (u : Setup) (g : Option Segment) (ss : List Span) → SpansWithin span_text_limit span_number_limit ss → SpansWithin span_text_row span_number_row (map (tag_every u g) ss)
others-within u g [] h = tt
others-within u g (s ∷ ss) h = let w = every_within span_text_limit span_number_limit u g s h.0 in ((omega (arith, w.0), omega (arith, w.1)), others-within u g ss h.1)

all-within : (u : Setup) (g : Option Segment) (root : Bool) (ss : List Span) → Serves segment_text_limit segment_number_limit g → SpansWithin span_text_limit span_number_limit ss →
    SpansWithin span_text_row span_number_row (tag_all u g root ss)
all-within u g root [] h w = tt
all-within u g root (s ∷ ss) h w = (first-within u g root s h w.0, others-within u g ss w.1)

length-tagged : (u : Setup) (g : Option Segment) (root : Bool) (ss : List Span) → length (tag_all u g root ss) ≡ length ss
length-tagged u g root [] = refl
length-tagged u g root (s ∷ ss) = ap suc (length-map ss (tag_every u g))

-- ---- under their numbers

abbrev Held : ℕ → Map Span → Type 0
Held k m = (length m ≤ k) × Distinct m × Each (λ n s. Within span_text_row span_number_row (written s)) m

hands_out : (ns : List ℕ) (ss : List Span) (m : Map Span) (k : ℕ) → Held k m → SpansWithin span_text_row span_number_row ss → Held (k + length ss) (hand_out ns ss m)
hands_out [] ss m k h w = (omega (arith, h.0), h.1, h.2)
hands_out (n ∷ ns) [] m k h w = (omega (arith, h.0), h.1, h.2)
hands_out (n ∷ ns) (s ∷ ss) m k h w =
    let l : length (put n s m) ≤ suc k = omega (arith, length_removed n m, h.0) in
    let r = hands_out ns ss (put n s m) (suc k) (l, distinct_put n s m h.1, each-put (λ n s. Within span_text_row span_number_row (written s)) n s m h.2 w.0) w.1 in
    (omega (arith, r.0), r.1, r.2)

-- ---- the charge

abbrev Segments : ℕ → Map Segment → Type 0
Segments k m = (length m ≤ k) × Distinct m × Each Standing m

charges : (n s k : ℕ) (m : Map Segment) → Segments k m → Segments k (charge n s m)
charges n s k m h = stands (find s m) refl
  where
    less : (x : Segment) → find s m ≡ Some x → (t : Bool) → leb (count x) n ≡ t → Segments k (cond t (remove s m) (put s (charged n x) m))
    less x e true f = (omega (arith, length_removed s m, h.0), distinct_remove s m h.1, each-remove Standing s m h.2)
    less x e false f =
        let l : Standing s x = h.2 s x e in
        let p : n < count x = leb-false (count x) n f in (
          omega (arith, length-put s (charged n x) x m h.1 e, h.0),
          distinct_put s (charged n x) m h.1,
          each-put Standing s (charged n x) m h.2 (record { stands = omega arith; counted = omega (arith, l.counted); within = l.within }),
        )

    stands : (o : Option Segment) → find s m ≡ o → Segments k (charge_one n s o m)
    stands None e = h
    stands (Some x) e = less x e (leb (count x) n) refl

-- ---- the calls

module _ (u : Setup) (b : Book) (g : Good u b) where
  serves : (o : Option Segment) (s : ℕ) → find s b.segments ≡ o → Serves segment_text_limit segment_number_limit o
  serves None s e = tt
  serves (Some x) s e = (g.1.standing s x e).within

  good_taken : (s : ℕ) (o : Option Segment) (root : Bool) (ns : List ℕ) → Serves segment_text_limit segment_number_limit o → (t : Taken) → Took LiveSpan span_text_limit span_number_limit (λ k s l. l.within) (length b.live) t → Good u (chunk_taken b s o root ns t).0
  good_taken s o root ns h (missing id live) t = good_live u b live g t.1 t.2 (omega (arith, t.0, g.1.records))
  good_taken s o root ns h (all live ss) t =
      let ts : List Span = tag_all b.setup o root ss in
      let len : length ts ≡ length ss = length-tagged b.setup o root ss in
      let r = hands_out ns ts b.handed (length b.handed) (le_refl (length b.handed), g.1.handed_once, g.1.handed_spans) (all-within b.setup o root ss h t.3) in
      let c = charges (length ss) s b.setup.segments b.segments (g.1.places, g.1.segments_once, g.1.standing) in (
        g.0,
        record {
          live_once = t.1;
          handed_once = r.1;
          segments_once = c.1;
          live_spans = t.2;
          handed_spans = r.2;
          standing = c.2;
          strings = g.1.strings;
          defaults = g.1.defaults;
          records = omega (arith, t.0, r.0, len, g.1.records);
          places = c.0;
        },
      )

  good_of : (ids : List ℕ) (root : Bool) (ns : List ℕ) (id : ℕ) (o : Option Span) → Good u (chunk_of b ids root ns id o).0
  good_of ids root ns id None = g
  good_of ids root ns id (Some s) =
      good_taken s.segment (find s.segment b.segments) root ns (serves (find s.segment b.segments) s.segment refl) (take_all ids b.live)
      (took-all LiveSpan span_text_limit span_number_limit (λ k s l. l.within) ids b.live g.1.live_once g.1.live_spans)

  pub good_chunk : (ids : List ℕ) (root : Bool) (room : ℕ) (ns : List ℕ) → Good u (chunk b ids root room ns).0
  good_chunk [] root room ns = g
  good_chunk (id ∷ ids) root room ns = long (leb (suc (length ids)) room)
    where
      long : (t : Bool) → Good u (cond {A = Book × Answer} t (chunk_of b (id ∷ ids) root ns id (find id b.live)) (b, refused (because list_short))).0
      long true = good_of (id ∷ ids) root ns id (find id b.live)
      long false = g

  -- a handed-out span
  abbrev RowHeld : ℕ → Span → Type 0
  RowHeld n s = Within span_text_row span_number_row (written s)

  good_returned : (t : Taken) → Took RowHeld span_text_row span_number_row (λ k s w. w) (length b.handed) t → Good u (returned b t).0
  good_returned (missing n left) t = g
  good_returned (all left ss) t = (
    g.0,
    record {
      live_once = g.1.live_once;
      handed_once = t.1;
      segments_once = g.1.segments_once;
      live_spans = g.1.live_spans;
      handed_spans = t.2;
      standing = g.1.standing;
      strings = g.1.strings;
      defaults = g.1.defaults;
      records = omega (arith, t.0, g.1.records);
      places = g.1.places;
    },
  )

  pub good_returns : (ns : List ℕ) → Good u (return_spans b ns).0
  good_returns ns = good_returned (take_all ns b.handed) (took-all RowHeld span_text_row span_number_row (λ k s w. w) ns b.handed g.1.handed_once g.1.handed_spans)
