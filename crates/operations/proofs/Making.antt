-- What is made of a span and of a segment, against the book's.
use Rattle.std.proofs.Common.{◌≡◌, ℕ, ◌<◌, false, List, [], ◌∷◌, ◌++◌, map, reverse, take, Some, None, sym, refl, ap, ◌∙◌, arith}
use mathlib.Core.List.{reverse-cons}
use Rattle.std.proofs.lemmas.Bool.{lt-ltb, cond-true, cond-false}
use Rattle.book.specs.Book.{Text, Field, Value, Writing, meta, blank, latest, and_text, and_number, row, texts, numbers, count}
use Rattle.book.specs.Book as book
use Rattle.book.specs.Flush.{one_more, default_writings}
use Rattle.book.proofs.Rows.{text_of, number_of, adds_text, adds_number, row-append, row-reverse, texts_of_texts, numbers_of_texts, latest-append}
use Rattle.tables.specs.declared.segment.Segment.{Segment}
use Rattle.tables.specs.Store.{stands}
use Rattle.tables.specs.Shows.{text_pair, span_field, segment_field, LikeSpan, LikeSegment}
use Rattle.operations.specs.declared.values.Making.{Making}
use Rattle.operations.specs.Made.{made_span, new_segment, one_counted, counted_in, Gives}
use Rattle.operations.proofs.Writing.{by_field}

-- ---- default pairs as writings

default_of : (f : Field) (v : Value) (ps : List (Text × Text)) → latest f v (reverse (map (λ p. meta p.0 p.1) ps)) ≡ v
default_of f v [] = refl
default_of f v (p ∷ ps) =
    ap (latest f v) (reverse-cons (meta p.0 p.1) (map (λ p. meta p.0 p.1) ps))
    ∙ (latest-append f v (reverse (map (λ p. meta p.0 p.1) ps)) (meta p.0 p.1 ∷ []) ∙ default_of f v ps)

default_fields : (f : Field) (ps : List (Text × Text)) (ws : List Writing) → latest f (blank f) (default_writings ps ++ ws) ≡ latest f (blank f) ws
default_fields f ps ws = latest-append f (blank f) (default_writings ps) ws ∙ default_of f (latest f (blank f) ws) ps

default_texts : (ps : List (Text × Text)) (ws : List Writing) → texts ws ≡ [] → texts (default_writings ps ++ ws) ≡ ps
default_texts ps ws none =
    row-append and_text text_of adds_text (default_writings ps) ws
    ∙ (ap (λ z. z ++ texts (default_writings ps)) none ∙ (row-reverse and_text text_of adds_text (map (λ p. meta p.0 p.1) ps) ∙ texts_of_texts ps))

default_numbers : (ps : List (Text × Text)) (ws : List Writing) → numbers ws ≡ [] → numbers (default_writings ps ++ ws) ≡ []
default_numbers ps ws none =
    row-append and_number number_of adds_number (default_writings ps) ws
    ∙ (ap (λ z. z ++ numbers (default_writings ps)) none ∙ (row-reverse and_number number_of adds_number (map (λ p. meta p.0 p.1) ps) ∙ numbers_of_texts ps))

module _ {T : Type 0} (bytes : T → Text) where
  made-field : (id s n : ℕ) (k : Making T) (f : Field) → span_field bytes (made_span id s k n) f ≡ span_field bytes (made_span 0 0 k 0) f
  made-field id s n k = by_field _ refl refl refl refl refl refl refl refl refl refl refl refl refl

  -- a span that is made
  pub made-like : (id s n : ℕ) (k : Making T) (ws : List Writing) (ms ds : List (T × T)) (ns : List (T × ℕ)) (ps : List (Text × Text)) → Gives bytes k ws → take n ms ≡ take n ds → map (text_pair bytes) (take n ds) ≡ ps
      → LikeSpan bytes (record { head = made_span id s k n; texts = take n ms; numbers = take 0 ns }) (record { id = id; segment = s; given = default_writings ps ++ ws; since = [] })
  made-like id s n k ws ms ds ns ps gives taken defaults = record {
    own_id = refl;
    in_segment = refl;
    fields = λ f. made-field id s n k f ∙ (gives.fields f ∙ sym (default_fields f ps ws));
    text_row = ap (map (text_pair bytes)) taken ∙ (defaults ∙ sym (default_texts ps ws gives.no_texts));
    number_row = sym (default_numbers ps ws gives.no_numbers);
  }

  -- a segment that counts one more
  pub more-like : (y : Segment T) (ms : List (T × T)) (ns : List (T × ℕ)) (g : book.Segment) → 0 < y.count
      → LikeSegment bytes (record { head = y; texts = take y.meta.count ms; numbers = take y.metrics.count ns }) g
      → LikeSegment bytes (record { head = one_counted y; texts = take y.meta.count ms; numbers = take y.metrics.count ns }) (one_more (Some g))
  more-like y ms ns g standing l = record {
    counted = let c = l.counted in omega (arith, c, standing);
    fields = λ f. by_field (λ f. segment_field bytes (one_counted y) f ≡ segment_field bytes y f) refl refl refl refl refl refl refl refl refl refl refl refl refl f ∙ l.fields f;
    text_row = l.text_row;
    number_row = l.number_row;
  }

  -- a segment that is made
  pub new-like : (id : ℕ) (ms : List (T × T)) (ns : List (T × ℕ)) → LikeSegment bytes (record { head = new_segment id; texts = take 0 ms; numbers = take 0 ns }) (one_more None)
  new-like id ms ns = record {
    counted = refl;
    fields = by_field (λ f. segment_field bytes (new_segment id) f ≡ latest f (blank f) []) refl refl refl refl refl refl refl refl refl refl refl refl refl;
    text_row = refl;
    number_row = refl;
  }

pub counted_own : {T : Type 0} (id : ℕ) (y : Segment T) → 0 < y.count → counted_in id y ≡ one_counted y
counted_own id y standing = cond-true (stands y) _ _ (lt-ltb 0 y.count standing)

pub counted-new : {T : Type 0} (id : ℕ) (y : Segment T) → stands y ≡ false → counted_in id y ≡ new_segment id
counted-new id y e = cond-false (stands y) _ _ e
