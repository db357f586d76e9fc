-- A chunk's tags: how many pairs they add at most, and that they set no field.
use Rattle.std.proofs.Common.{◌≡◌, ℕ, ◌+◌, ◌≤◌, Bool, true, false, cond, List, [], ◌∷◌, ◌++◌, map, length, Some, None, codes, Option, sym, refl, ap, ◌∙◌, subst, append-nil, arith, lit≤, length-append}
use Rattle.std.specs.Str.{bytes_eq}
use Rattle.book.specs.Book.{Text, Field, origin, rule, limit, agent, Value, Writing, ◌≔◌, meta, metric, latest, blank, and_text, and_number, texts, numbers, Span, Segment, written, shows, write, Setup}
use Rattle.book.specs.Chunk.{segment_field, float_in, text_in, number_tag, text_tag, whole, root_tags, segment_tags, measured, base_service, process_tags, write_all}
use Rattle.book.specs.Sound.{Within}
use Rattle.book.specs.HandingOut.{Tagged}
use Rattle.book.proofs.Rows.{text_of, number_of, adds_text, adds_number, in_order, in_order-append, row_write_all, texts_of_texts, numbers_of_texts, numbers_of_numbers, texts_of_numbers}

-- a writing that adds a pair
abbrev Pair : Writing → Type 0
Pair (f ≔ v) = ⊥
Pair (meta k t) = Unit {0}
Pair (metric k n) = Unit {0}

abbrev pub Pairs : List Writing → Type 0
Pairs [] = Unit {0}
Pairs (w ∷ ws) = Pair w × Pairs ws

-- at most t text pairs and n number pairs, and nothing else
pub record Adds (t n : ℕ) (ws : List Writing) : Type 0 where
  pub texts_added : length (in_order text_of ws) ≤ t
  pub numbers_added : length (in_order number_of ws) ≤ n
  pub pairs : Pairs ws

pairs-append : (xs ys : List Writing) → Pairs xs → Pairs ys → Pairs (xs ++ ys)
pairs-append [] ys p q = q
pairs-append (x ∷ xs) ys p q = (p.0, pairs-append xs ys p.1 q)

both : {t n t' n' : ℕ} (xs ys : List Writing) → Adds t n xs → Adds t' n' ys → Adds (t + t') (n + n') (xs ++ ys)
both xs ys a b = record {
  texts_added = rw (in_order-append text_of xs ys, length-append) (omega (arith, a.texts_added, b.texts_added));
  numbers_added = rw (in_order-append number_of xs ys, length-append) (omega (arith, a.numbers_added, b.numbers_added));
  pairs = pairs-append xs ys a.pairs b.pairs;
}

none : (t n : ℕ) → Adds t n []
none t n = record { texts_added = omega arith; numbers_added = omega arith; pairs = tt }

one-text : (k v : Text) → Adds 1 0 (meta k v ∷ [])
one-text k v = record { texts_added = lit≤ tt; numbers_added = lit≤ tt; pairs = (tt, tt) }

one_number : (k : Text) (n : ℕ) → Adds 0 1 (metric k n ∷ [])
one_number k n = record { texts_added = lit≤ tt; numbers_added = lit≤ tt; pairs = (tt, tt) }

-- ---- each rule

adds_number_tag : (k : Text) (o : Option ℕ) → Adds 0 1 (number_tag k o)
adds_number_tag k None = none 0 1
adds_number_tag k (Some n) = one_number k n

adds_text_tag : (k : Text) (o : Option Text) → Adds 1 0 (text_tag k o)
adds_text_tag k None = none 1 0
adds_text_tag k (Some t) = one-text k t

adds_root : (root : Bool) (g : Option Segment) → Adds 0 4 (cond root (root_tags g) [])
adds_root true g =
    both _ _ (both _ _ (both _ _ (adds_number_tag _ (float_in (segment_field g rule))) (adds_number_tag _ (float_in (segment_field g limit)))) (adds_number_tag _ (float_in (segment_field g agent)))) (one_number _ _)
adds_root false g = none 0 4

-- what the segment's rows hold
abbrev pub Serves : ℕ → ℕ → Option Segment → Type 0
Serves t n None = Unit {0}
Serves t n (Some g) = Within t n g.since

pairs-texts : (ps : List (Text × Text)) → Pairs (map (λ p. meta p.0 p.1) ps)
pairs-texts [] = tt
pairs-texts (p ∷ ps) = (tt, pairs-texts ps)

pairs-numbers : (ps : List (Text × ℕ)) → Pairs (map (λ p. metric p.0 p.1) ps)
pairs-numbers [] = tt
pairs-numbers (p ∷ ps) = (tt, pairs-numbers ps)

-- the segment's tags are its rows
pub segment-texts : (g : Segment) → in_order text_of (segment_tags (Some g)) ≡ texts g.since
segment-texts g =
    in_order-append text_of (map (λ p. meta p.0 p.1) (texts g.since)) (map (λ p. metric p.0 p.1) (numbers g.since))
    ∙ ap (λ z. z ++ in_order text_of (map (λ p. metric p.0 p.1) (numbers g.since))) (texts_of_texts (texts g.since))
    ∙ ap (λ z. texts g.since ++ z) (texts_of_numbers (numbers g.since)) ∙ append-nil (texts g.since)

pub segment-numbers : (g : Segment) → in_order number_of (segment_tags (Some g)) ≡ numbers g.since
segment-numbers g =
    in_order-append number_of (map (λ p. meta p.0 p.1) (texts g.since)) (map (λ p. metric p.0 p.1) (numbers g.since))
    ∙ ap (λ z. z ++ in_order number_of (map (λ p. metric p.0 p.1) (numbers g.since))) (numbers_of_texts (texts g.since))
    ∙ numbers_of_numbers (numbers g.since)

adds_segment : (t n : ℕ) (g : Option Segment) → Serves t n g → Adds t n (segment_tags g)
adds_segment t n None h = none t n
adds_segment t n (Some g) h = record {
  texts_added = subst (λ z. length z ≤ t) (sym (segment-texts g)) h.0;
  numbers_added = subst (λ z. length z ≤ n) (sym (segment-numbers g)) h.1;
  pairs = pairs-append (map (λ p. meta p.0 p.1) (texts g.since)) _ (pairs-texts (texts g.since)) (pairs-numbers (numbers g.since));
}

adds_measured : (kind : Option Text) → Adds 0 1 (measured kind)
adds_measured None = none 0 1
adds_measured (Some k) = by (bytes_eq k (codes "internal"))
  where
    by : (t : Bool) → Adds 0 1 (cond t [] (metric (codes "_dd.measured") (whole 1) ∷ []))
    by true = none 0 1
    by false = one_number _ _

adds_base : (tracer : Text) (own : Option Text) → Adds 1 0 (base_service tracer own)
adds_base tracer None = none 1 0
adds_base tracer (Some own) = by (bytes_eq own tracer)
  where
    by : (b : Bool) → Adds 1 0 (cond b [] (meta (codes "_dd.base_service") tracer ∷ []))
    by true = none 1 0
    by false = one-text _ _

adds_process : (u : Setup) (g : Option Segment) (own : Option Text) → Adds 3 1 (process_tags u g own)
adds_process u g own = both _ _ (both _ _ (both _ _ (adds_base u.service own) (one-text _ _)) (one_number _ _)) (adds_text_tag _ (text_in (segment_field g origin)))

pub adds_first : (t n : ℕ) (root : Bool) (g : Option Segment) → Serves t n g → Adds (0 + t) (4 + n) (cond root (root_tags g) [] ++ segment_tags g)
adds_first t n root g h = both _ _ (adds_root root g) (adds_segment t n g h)

pub adds_every : (u : Setup) (g : Option Segment) (kind : Option Text) (own : Option Text) → Adds 3 2 (measured kind ++ process_tags u g own)
adds_every u g kind own = both _ _ (adds_measured kind) (adds_process u g own)

-- ---- a span with such writings

pub within_all : (t n t' n' : ℕ) (ws : List Writing) (s : Span) → Within t n (written s) → Adds t' n' ws → Within (t + t') (n + n') (written (write_all ws s))
within_all t n t' n' ws s h a = (
  rw (row_write_all and_text text_of adds_text ws s, length-append) (omega (arith, h.0, a.texts_added)),
  rw (row_write_all and_number number_of adds_number ws s, length-append) (omega (arith, h.1, a.numbers_added)),
)

same-latest : (w : Writing) (ws : List Writing) (f : Field) (v : Value) → Pair w → latest f v (w ∷ ws) ≡ latest f v ws
same-latest (g ≔ x) ws f v p = absurd p
same-latest (meta k t) ws f v p = refl
same-latest (metric k n) ws f v p = refl

same-fields : (ws : List Writing) (s : Span) → Pairs ws → (f : Field) → shows (write_all ws s) f ≡ shows s f
same-fields [] s p f = refl
same-fields (w ∷ ws) s p f = same-fields ws (write w s) p.1 f ∙ same-latest w (written s) f (blank f) p.0

same_id : (ws : List Writing) (s : Span) → (write_all ws s).id ≡ s.id
same_id [] s = refl
same_id (w ∷ ws) s = same_id ws (write w s)

same_segment : (ws : List Writing) (s : Span) → (write_all ws s).segment ≡ s.segment
same_segment [] s = refl
same_segment (w ∷ ws) s = same_segment ws (write w s)

pub tagged-all : (ws : List Writing) (s : Span) → Pairs ws → Tagged s (write_all ws s)
tagged-all ws s p = record {
  same_id = same_id ws s;
  same_segment = same_segment ws s;
  fields = same-fields ws s p;
  text_tags = in_order text_of ws;
  text_row = row_write_all and_text text_of adds_text ws s;
  number_tags = in_order number_of ws;
  number_row = row_write_all and_number number_of adds_number ws s;
}
