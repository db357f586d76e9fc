-- What an accepted chunk hands out, and what accepted returns drop.
use Rattle.std.proofs.Common.{◌≡◌, ℕ, suc, Bool, true, false, cond, leb, List, [], ◌∷◌, ◌++◌, map, length, Some, None, Option, sym, refl, ap, ◌∙◌, append_assoc, le_refl, arith}
use Rattle.book.specs.Maps.{Map, Each, find, put, remove}
use Rattle.book.specs.Book.{service, texts, numbers, last_value, Span, Segment, shows, span_texts, span_numbers, Setup, Book, with_handed}
use Rattle.book.specs.Refusals.{list_short, because, Answer, accepted, refused}
use Rattle.book.specs.Chunk.{text_in, tag_first, tag_every, tag_all, Taken, all, missing, take_all, hand_out, chunk_taken, chunk_of, returned}
use Rattle.book.specs.Leaving.{remove_all, Found}
use Rattle.book.specs.HandingOut.{Tagged, Absent, Apart, IsHandedOut, EachWith, ChunkHandsOut, ReturnsDrop}
use Rattle.book.specs.Sound.{LiveSpan, Sound}
use Rattle.book.proofs.Maps.{find-put, find-put-other, found-kept}
use Rattle.book.proofs.Tagging.{Serves, adds_first, adds_every, tagged-all}
use Rattle.book.proofs.Leaving.{clash, FoundAs, Took, took}

-- each id's span, before any was taken out
abbrev Matched : Map Span → List ℕ → List Span → Type 0
Matched live [] [] = Unit {0}
Matched live [] (s ∷ ss) = ⊥
Matched live (id ∷ ids) [] = ⊥
Matched live (id ∷ ids) (s ∷ ss) = (find id live ≡ Some s) × Matched live ids ss

matched-kept : (k : ℕ) (live : Map Span) (ids : List ℕ) (ss : List Span) → Matched (remove k live) ids ss → Matched live ids ss
matched-kept k live [] [] h = tt
matched-kept k live [] (s ∷ ss) h = h
matched-kept k live (id ∷ ids) [] h = h
matched-kept k live (id ∷ ids) (s ∷ ss) h = (found-kept k id s live h.0, matched-kept k live ids ss h.1)

matched : (ids : List ℕ) (live : Map Span) (ss : List Span) → FoundAs ids live ss → Matched live ids ss
matched [] live [] h = tt
matched [] live (s ∷ ss) h = h
matched (id ∷ ids) live [] h = h
matched (id ∷ ids) live (s ∷ ss) h = (h.0, matched-kept id live ids ss (matched ids (remove id live) ss h.1))

-- tags after tags
tagged-more : (s t v : Span) → Tagged s t → Tagged t v → Tagged s v
tagged-more s t v h k = record {
  same_id = k.same_id ∙ h.same_id;
  same_segment = k.same_segment ∙ h.same_segment;
  fields = λ f. k.fields f ∙ h.fields f;
  text_tags = h.text_tags ++ k.text_tags;
  text_row = k.text_row ∙ ap (λ z. z ++ k.text_tags) h.text_row ∙ append_assoc (span_texts s) h.text_tags k.text_tags;
  number_tags = h.number_tags ++ k.number_tags;
  number_row = k.number_row ∙ ap (λ z. z ++ k.number_tags) h.number_row ∙ append_assoc (span_numbers s) h.number_tags k.number_tags;
}

tagged_every : (u : Setup) (g : Option Segment) (s : Span) → Tagged s (tag_every u g s)
tagged_every u g s = tagged-all _ s (adds_every u g (last_value _ (span_texts s)) (text_in (shows s service))).pairs

-- whatever its rows hold
some-limits : (g : Option Segment) → (t n : ℕ) × Serves t n g
some-limits None = (0, 0, tt)
some-limits (Some g) = (length (texts g.since), length (numbers g.since), (le_refl (length (texts g.since)), le_refl (length (numbers g.since))))

tagged-first : (root : Bool) (g : Option Segment) (s : Span) → Tagged s (tag_first root g s)
tagged-first root g s = let l = some-limits g in tagged-all _ s (adds_first l.0 l.1 root g l.2).pairs

abbrev TaggedEach : List Span → List Span → Type 0
TaggedEach [] [] = Unit {0}
TaggedEach [] (t ∷ ts) = ⊥
TaggedEach (s ∷ ss) [] = ⊥
TaggedEach (s ∷ ss) (t ∷ ts) = Tagged s t × TaggedEach ss ts

tagged-others : (u : Setup) (g : Option Segment) (ss : List Span) → TaggedEach ss (map (tag_every u g) ss)
tagged-others u g [] = tt
tagged-others u g (s ∷ ss) = (tagged_every u g s, tagged-others u g ss)

tagged-spans : (u : Setup) (g : Option Segment) (root : Bool) (ss : List Span) → TaggedEach ss (tag_all u g root ss)
tagged-spans u g root [] = tt
tagged-spans u g root (s ∷ ss) = (tagged-more s (tag_first root g s) _ (tagged-first root g s) (tagged_every u g (tag_first root g s)), tagged-others u g ss)

-- a number that no later span gets keeps its span
kept-number : (k : ℕ) (ns : List ℕ) (ts : List Span) (m : Map Span) → Absent k ns → find k (hand_out ns ts m) ≡ find k m
kept-number k [] ts m a = refl
kept-number k (n ∷ ns) [] m a = refl
kept-number k (n ∷ ns) (t ∷ ts) m a = kept-number k ns ts (put n t m) a.1 ∙ find-put-other n k t m a.0

hands : (ids ns : List ℕ) (ss ts : List Span) (live m : Map Span) → Each LiveSpan live → Apart ns → length ns ≡ length ids → Matched live ids ss → TaggedEach ss ts → EachWith (IsHandedOut live (hand_out ns ts m)) ids ns
hands [] [] ss ts live m o a l h k = tt
hands [] (n ∷ ns) ss ts live m o a l h k = let no_way : ⊥ = omega arith in absurd no_way
hands (id ∷ ids) [] ss ts live m o a l h k = let no_way : ⊥ = omega arith in absurd no_way
hands (id ∷ ids) (n ∷ ns) [] ts live m o a l h k = absurd h
hands (id ∷ ids) (n ∷ ns) (s ∷ ss) [] live m o a l h k = absurd k
hands (id ∷ ids) (n ∷ ns) (s ∷ ss) (t ∷ ts) live m o a l h k = (
  record { before = s; after = t; was_live = h.0; own_id = k.0.same_id ∙ (o id s h.0).own_id; is_handed = kept-number n ns ts (put n t m) a.0 ∙ find-put n t m; tagged = k.0 },
  hands ids ns ss ts live (put n t m) o a.1 (omega arith) h.1 k.1,
)

module _ (b : Book) (ids : List ℕ) (root : Bool) (ns : List ℕ) (o : Sound b) (a : Apart ns) (l : length ns ≡ length ids) where
  -- what the law says of a call's outcome
  abbrev Hands : Book × Answer → Type 0
  Hands o = o.1 ≡ accepted → EachWith (IsHandedOut b.live o.0.handed) ids ns × (o.0.live ≡ remove_all ids b.live)

  hands-taken : (s : ℕ) (g : Option Segment) (t : Taken) → Took ids b.live t → Hands (chunk_taken b s g root ns t)
  hands-taken s g (all left ss) h e = (hands ids ns ss (tag_all b.setup g root ss) b.live b.handed o.live_spans a l (matched ids b.live ss h.0) (tagged-spans b.setup g root ss), h.1)
  hands-taken s g (missing id left) h e = clash _ (sym e)

  hands_of : (id : ℕ) (o : Option Span) → Hands (chunk_of b ids root ns id o)
  hands_of id None e = clash _ (sym e)
  hands_of id (Some s) e = hands-taken s.segment (find s.segment b.segments) (take_all ids b.live) (took ids b.live) e

  hands-long : (t : Bool) (id : ℕ) → Hands (cond {A = Book × Answer} t (chunk_of b ids root ns id (find id b.live)) (b, refused (because list_short)))
  hands-long true id e = hands_of id (find id b.live) e
  hands-long false id e = clash _ (sym e)

no_ids : (ns : List ℕ) (b : Book) → length ns ≡ 0 → EachWith (IsHandedOut b.live b.handed) [] ns
no_ids [] b l = tt
no_ids (n ∷ ns) b l = let no_way : ⊥ = omega arith in absurd no_way

pub chunk_hands_out : ChunkHandsOut
chunk_hands_out b [] root room ns o a l e = (no_ids ns b l, refl)
chunk_hands_out b (id ∷ ids) root room ns o a l e = hands-long b (id ∷ ids) root ns o a l (leb (suc (length ids)) room) id e

-- ---- accepted returns

found : (ns : List ℕ) (m : Map Span) (ss : List Span) → FoundAs ns m ss → Found ns m
found [] m [] h = tt
found [] m (s ∷ ss) h = tt
found (n ∷ ns) m [] h = absurd h
found (n ∷ ns) m (s ∷ ss) h = (s, h.0, found ns (remove n m) ss h.1)

pub returns_drop : ReturnsDrop
returns_drop b ns e = by-taken (take_all ns b.handed) (took ns b.handed) e
  where
    by-taken : (t : Taken) → Took ns b.handed t → (returned b t).1 ≡ accepted → Found ns b.handed × ((returned b t).0 ≡ with_handed (remove_all ns b.handed) b)
    by-taken (all left ss) h f = (found ns b.handed ss h.0, ap (λ z. with_handed z b) h.1)
    by-taken (missing n left) h f = clash _ (sym f)
