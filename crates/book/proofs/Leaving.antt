-- What a call may touch, and what it leaves when it is refused.
use Rattle.std.proofs.Common.{◌≡◌, ℕ, suc, Bool, true, false, cond, ltb, leb, List, [], ◌∷◌, length, Some, None, Option, refl, ap, inl, inr, arith}
use lib.Ieee.{Float}
use Rattle.book.specs.Limits.{most_defaults}
use Rattle.book.specs.Maps.{Map, find, put, remove}
use Rattle.book.specs.Book.{Text, Span, Segment, write, note, Book, with_strings, with_defaults, with_live, with_segments, with_handed}
use Rattle.book.specs.Refusals.{list_short, key_beyond, too_many_defaults, Refusal, because, Answer, accepted, refused}
use Rattle.book.specs.Flush.{flush, one_more, made}
use Rattle.book.specs.Chunk.{Taken, all, missing, and_span, take_one, take_all, chunk_taken, chunk_of, chunk, returned}
use Rattle.book.specs.Calls.{string_insert, string_evict, default_meta, decisions, change_buffer, flush_chunk, recycle_spans, get_span, get_segment, get_handed, get_numbers, decided}
use Rattle.book.specs.Leaving.{CallsTouch, remove_all, FirstMissing, RefusedAt, NotReturned, Left, RefusalsLeave}
use Rattle.book.proofs.Keeping.{flush_keeps}

-- an accepted call is not refused, and two refusals that are one have one cause
pub clash : {Z : Type 0} (r : Refusal) → accepted ≡ refused r → Z
clash r e = let w : ◌≡◌ {A = ℕ} 0 1 = cc in let no_way : ⊥ = omega arith in absurd no_way

same-refusal : (q r : Refusal) → refused q ≡ refused r → r ≡ q
same-refusal q r e = cc

-- ---- a flush changes live spans and segments alone

framed : (b : Book) (bytes : List ℕ) → (flush b bytes).0 ≡ with_live (flush b bytes).0.live (with_segments (flush b bytes).0.segments b)
framed b bytes =
    flush_keeps (λ x. x ≡ with_live x.live (with_segments x.segments b))
    (λ x id s w p _ _. ap (λ (z : Book). with_live (put id (write w s) x.live) z) p)
    (λ x id g w p _ _. ap (λ (z : Book). with_segments (put id (note w g) x.segments) z) p)
    (λ x id s ws p _ _ _. ap (λ (z : Book). with_live (put id (made id s ws x) x.live) (with_segments (put s (one_more (find s x.segments)) x.segments) z)) p)
    b bytes refl

-- ---- spans taken out, one after the other

-- each with its span
abbrev pub FoundAs : List ℕ → Map Span → List Span → Type 0
FoundAs [] m [] = Unit {0}
FoundAs [] m (s ∷ ss) = ⊥
FoundAs (n ∷ ns) m [] = ⊥
FoundAs (n ∷ ns) m (s ∷ ss) = (find n m ≡ Some s) × FoundAs ns (remove n m) ss

abbrev pub Took : List ℕ → Map Span → Taken → Type 0
Took ns m (all left ss) = FoundAs ns m ss × (left ≡ remove_all ns m)
Took ns m (missing n left) = (x : FirstMissing ns m n) × (left ≡ remove_all x.earlier m)

took_one : (n : ℕ) (ns : List ℕ) (m : Map Span) (s : Span) → find n m ≡ Some s → (t : Taken) → Took ns (remove n m) t → Took (n ∷ ns) m (and_span s t)
took_one n ns m s e (all left ss) h = ((e, h.0), h.1)
took_one n ns m s e (missing k left) h =
    (record { earlier = n ∷ h.0.earlier; later = h.0.later; split = ap (λ z. n ∷ z) h.0.split; found = (s, e, h.0.found); absent = h.0.absent }, h.1)

pub took : (ns : List ℕ) (m : Map Span) → Took ns m (take_all ns m)
took [] m = (tt, refl)
took (n ∷ ns) m = turn (find n m) refl (took ns (remove n m))
  where
    turn : (o : Option Span) → find n m ≡ o → Took ns (remove n m) (take_all ns (remove n m)) → Took (n ∷ ns) m (take_one n m o (take_all ns (remove n m)))
    turn None e h = (record { earlier = []; later = ns; split = refl; found = tt; absent = e }, refl)
    turn (Some s) e h = took_one n ns m s e (take_all ns (remove n m)) h

-- ---- a refused chunk, and refused returns

refused-taken : (b : Book) (ids : List ℕ) (s : ℕ) (g : Option Segment) (root : Bool) (ns : List ℕ) (r : Refusal) (t : Taken) → Took ids b.live t →
    (chunk_taken b s g root ns t).1 ≡ refused r → RefusedAt ids b (chunk_taken b s g root ns t).0 r
refused-taken b ids s g root ns r (all left ss) h e = clash r e
refused-taken b ids s g root ns r (missing id left) h e = record { id = id; first = h.0; gone = ap (λ z. with_live z b) h.1; refusal = same-refusal _ r e }

refused_of : (b : Book) (id : ℕ) (ids : List ℕ) (root : Bool) (ns : List ℕ) (r : Refusal) (o : Option Span) → find id b.live ≡ o →
    (chunk_of b (id ∷ ids) root ns id o).1 ≡ refused r → RefusedAt (id ∷ ids) b (chunk_of b (id ∷ ids) root ns id o).0 r
refused_of b id ids root ns r None f e = record
    { id = id; first = record { earlier = []; later = ids; split = refl; found = tt; absent = f }; gone = refl; refusal = same-refusal _ r e }
refused_of b id ids root ns r (Some s) f e = refused-taken b (id ∷ ids) s.segment (find s.segment b.segments) root ns r (take_all (id ∷ ids) b.live) (took (id ∷ ids) b.live) e

refused-chunk : (b : Book) (ids : List ℕ) (root : Bool) (room : ℕ) (ns : List ℕ) (r : Refusal) → (chunk b ids root room ns).1 ≡ refused r → Left (flush_chunk ids root room ns) b (chunk b ids root room ns).0 r
refused-chunk b [] root room ns r e = clash r e
refused-chunk b (id ∷ ids) root room ns r e = long (leb (suc (length ids)) room) e
  where
    long : (t : Bool) → (cond {A = Book × Answer} t (chunk_of b (id ∷ ids) root ns id (find id b.live)) (b, refused (because list_short))).1 ≡ refused r →
        Left (flush_chunk (id ∷ ids) root room ns) b (cond {A = Book × Answer} t (chunk_of b (id ∷ ids) root ns id (find id b.live)) (b, refused (because list_short))).0 r
    long true f = inr (refused_of b id ids root ns r (find id b.live) refl f)
    long false f = inl (refl, same-refusal _ r f)

refused_returns : (b : Book) (ns : List ℕ) (r : Refusal) (t : Taken) → Took ns b.handed t → (returned b t).1 ≡ refused r → NotReturned ns b (returned b t).0 r
refused_returns b ns r (all left ss) h e = clash r e
refused_returns b ns r (missing n left) h e = record { n = n; first = h.0; same = refl; refusal = same-refusal _ r e }

-- ---- the other calls

refused-cond : (x : Bool) (b c : Book) (q r : Refusal) → (cond {A = Book × Answer} x (c, accepted) (b, refused q)).1 ≡ refused r → (cond {A = Book × Answer} x (c, accepted) (b, refused q)).0 ≡ b
refused-cond true b c q r e = clash r e
refused-cond false b c q r e = refl

refused-decided : (b : Book) (id : ℕ) (x y z : Option Float) (r : Refusal) (o : Option Segment) → (decided b id x y z o).1 ≡ refused r → (decided b id x y z o).0 ≡ b
refused-decided b id x y z r None e = refl
refused-decided b id x y z r (Some g) e = clash r e

pub refusals_leave : RefusalsLeave
refusals_leave (string_insert k t) b r e = refused-cond (ltb k b.setup.strings) b (with_strings (put k t b.strings) b) (because key_beyond) r e
refusals_leave (string_evict k) b r e = clash r e
refusals_leave (default_meta ps) b r e = refused-cond (leb (length ps) most_defaults) b (with_defaults ps b) (because too_many_defaults) r e
refusals_leave (decisions id x y z) b r e = refused-decided b id x y z r (find id b.segments) e
refusals_leave (change_buffer bytes) b r e = framed b bytes
refusals_leave (flush_chunk ids root room ns) b r e = refused-chunk b ids root room ns r e
refusals_leave (recycle_spans ns) b r e = refused_returns b ns r (take_all ns b.handed) (took ns b.handed) e
refusals_leave (get_span id) b r e = refl
refusals_leave (get_segment id) b r e = refl
refusals_leave (get_handed n) b r e = refl
refusals_leave get_numbers b r e = refl

-- ---- what each call may touch

touches_insert : (b : Book) (k : ℕ) (t : Text) (x : Bool) → let c : Book = (cond {A = Book × Answer} x (with_strings (put k t b.strings) b, accepted) (b, refused (because key_beyond))).0 in c ≡ with_strings c.strings b
touches_insert b k t true = refl
touches_insert b k t false = refl

touches_defaults : (b : Book) (ps : List (Text × Text)) (x : Bool) → let c : Book = (cond {A = Book × Answer} x (with_defaults ps b, accepted) (b, refused (because too_many_defaults))).0 in c ≡ with_defaults c.defaults b
touches_defaults b ps true = refl
touches_defaults b ps false = refl

touches_decided : (b : Book) (id : ℕ) (x y z : Option Float) (o : Option Segment) → (decided b id x y z o).0 ≡ with_segments (decided b id x y z o).0.segments b
touches_decided b id x y z None = refl
touches_decided b id x y z (Some g) = refl

-- a chunk's outcome
abbrev Moved : Book → Book × Answer → Type 0
Moved b o = o.0 ≡ with_live o.0.live (with_segments o.0.segments (with_handed o.0.handed b))

touches_taken : (b : Book) (s : ℕ) (g : Option Segment) (root : Bool) (ns : List ℕ) (t : Taken) → Moved b (chunk_taken b s g root ns t)
touches_taken b s g root ns (all left ss) = refl
touches_taken b s g root ns (missing n left) = refl

touches_of : (b : Book) (ids : List ℕ) (root : Bool) (ns : List ℕ) (id : ℕ) (o : Option Span) → Moved b (chunk_of b ids root ns id o)
touches_of b ids root ns id None = refl
touches_of b ids root ns id (Some s) = touches_taken b s.segment (find s.segment b.segments) root ns (take_all ids b.live)

touches_chunk : (b : Book) (ids : List ℕ) (root : Bool) (room : ℕ) (ns : List ℕ) → Moved b (chunk b ids root room ns)
touches_chunk b [] root room ns = refl
touches_chunk b (id ∷ ids) root room ns = long (leb (suc (length ids)) room)
  where
    long : (t : Bool) → Moved b (cond {A = Book × Answer} t (chunk_of b (id ∷ ids) root ns id (find id b.live)) (b, refused (because list_short)))
    long true = touches_of b (id ∷ ids) root ns id (find id b.live)
    long false = refl

touches_returned : (b : Book) (t : Taken) → (returned b t).0 ≡ with_handed (returned b t).0.handed b
touches_returned b (all left ss) = refl
touches_returned b (missing n left) = refl

pub calls_touch : CallsTouch
calls_touch (string_insert k t) b = touches_insert b k t (ltb k b.setup.strings)
calls_touch (string_evict k) b = refl
calls_touch (default_meta ps) b = touches_defaults b ps (leb (length ps) most_defaults)
calls_touch (decisions id x y z) b = touches_decided b id x y z (find id b.segments)
calls_touch (change_buffer bytes) b = framed b bytes
calls_touch (flush_chunk ids root room ns) b = touches_chunk b ids root room ns
calls_touch (recycle_spans ns) b = touches_returned b (take_all ns b.handed)
calls_touch (get_span id) b = refl
calls_touch (get_segment id) b = refl
calls_touch (get_handed n) b = refl
calls_touch get_numbers b = refl
