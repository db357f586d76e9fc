-- Writings that leave given fields and rows, and the span and the segment of the book that a record shows.
use Rattle.std.proofs.Common.{◌≡◌, ℕ, List, [], ◌∷◌, ◌++◌, map, sym, refl, ap, ◌∙◌}
use native.Mathlib.Nat.{sub-zero}
use Rattle.std.proofs.lemmas.List.{append-nil, append_assoc}
use Rattle.book.specs.Book.{Text, Field, trace, parent, service, name, resource, type, start, duration, error, origin, rule, limit, agent, Value, Writing, ◌≔◌, meta, metric, latest, blank, and_text, and_number, row, texts, numbers}
use Rattle.book.specs.Book as book
use Rattle.tables.specs.declared.span.Span.{Span}
use Rattle.tables.specs.declared.segment.Segment.{Segment}
use Rattle.tables.specs.Store.{Rowed}
use Rattle.tables.specs.Shows.{text_pair, number_pair, span_field, segment_field, LikeSpan, LikeSegment}

-- ---- one writing for each field
abbrev fields_set : (Field → Value) → List Writing
fields_set value =
    map (λ f. f ≔ value f)
    (trace ∷ parent ∷ service ∷ name ∷ resource ∷ type ∷ start ∷ duration ∷ error ∷ origin ∷ rule ∷ limit ∷ agent ∷ [])

latest-fields : (value : Field → Value) (v : Value) (f : Field) → latest f v (fields_set value) ≡ value f
latest-fields value v trace = refl
latest-fields value v parent = refl
latest-fields value v service = refl
latest-fields value v name = refl
latest-fields value v resource = refl
latest-fields value v type = refl
latest-fields value v start = refl
latest-fields value v duration = refl
latest-fields value v error = refl
latest-fields value v origin = refl
latest-fields value v rule = refl
latest-fields value v limit = refl
latest-fields value v agent = refl

-- ---- then pairs, one after the other
abbrev then_pairs : {P : Type 0} → (P → Writing) → List P → List Writing → List Writing
then_pairs w [] ws = ws
then_pairs w (p ∷ ps) ws = then_pairs w ps (w p ∷ ws)

-- what no pair changes
pairs_keep : {P Q : Type 0} (w : P → Writing) (read : List Writing → Q) → ((p : P) (ws : List Writing) → read (w p ∷ ws) ≡ read ws) → (ps : List P) (ws : List Writing) → read (then_pairs w ps ws) ≡ read ws
pairs_keep w read same [] ws = refl
pairs_keep w read same (p ∷ ps) ws = pairs_keep w read same ps (w p ∷ ws) ∙ same p ws

-- the row at whose end each pair is added
pairs_add : {P : Type 0} (w : P → Writing) (and_one : Writing → List P → List P) → ((p : P) (qs : List P) → and_one (w p) qs ≡ qs ++ p ∷ []) → (ps : List P) (ws : List Writing) → row and_one (then_pairs w ps ws) ≡ row and_one ws ++ ps
pairs_add w and_one adds [] ws = sym (append-nil (row and_one ws))
pairs_add w and_one adds (p ∷ ps) ws =
    pairs_add w and_one adds ps (w p ∷ ws) ∙ ap (λ z. z ++ ps) (adds p (row and_one ws)) ∙ append_assoc (row and_one ws) (p ∷ []) ps

abbrev text_written : Text × Text → Writing
text_written p = meta p.0 p.1

abbrev number_written : Text × ℕ → Writing
number_written p = metric p.0 p.1

-- ---- the fields, then both rows of a record
module _ {H T : Type 0} (bytes : T → Text) (value : Field → Value) (c : Rowed H T) where
  abbrev text_pairs : List (Text × Text)
  text_pairs = map (text_pair bytes) c.texts

  abbrev number_pairs : List (Text × ℕ)
  number_pairs = map (number_pair bytes) c.numbers

  abbrev with_texts : List Writing
  with_texts = then_pairs text_written text_pairs (fields_set value)

  abbrev writings : List Writing
  writings = then_pairs number_written number_pairs with_texts

  latest-writings : (f : Field) → latest f (blank f) writings ≡ value f
  latest-writings f =
      pairs_keep number_written (latest f (blank f)) (λ p ws. refl) number_pairs with_texts
      ∙ pairs_keep text_written (latest f (blank f)) (λ p ws. refl) text_pairs (fields_set value)
      ∙ latest-fields value (blank f) f

  texts-writings : texts writings ≡ text_pairs
  texts-writings =
      pairs_keep number_written texts (λ p ws. refl) number_pairs with_texts
      ∙ pairs_add text_written and_text (λ p qs. refl) text_pairs (fields_set value)

  numbers-writings : numbers writings ≡ number_pairs
  numbers-writings =
      pairs_add number_written and_number (λ p qs. refl) number_pairs with_texts
      ∙ ap (λ z. z ++ number_pairs) (pairs_keep text_written numbers (λ p ws. refl) text_pairs (fields_set value))

-- ---- a record's span, and a record's segment
module _ {T : Type 0} (bytes : T → Text) where
  -- all that it shows given by its making
  abbrev pub span_of : Rowed (Span T) T → book.Span
  span_of c = record
      { id = c.head.id; segment = c.head.segment; given = writings bytes (span_field bytes c.head) c; since = [] }

  pub like-span_of : (c : Rowed (Span T) T) → LikeSpan bytes c (span_of c)
  like-span_of c = record {
    own_id = refl;
    in_segment = refl;
    fields = λ f. sym (latest-writings bytes (span_field bytes c.head) c f);
    text_row = sym (texts-writings bytes (span_field bytes c.head) c);
    number_row = sym (numbers-writings bytes (span_field bytes c.head) c);
  }

  -- as many creations as it counts, none charged
  abbrev pub segment_of : Rowed (Segment T) T → book.Segment
  segment_of c = record
      { created = c.head.count; charged = 0; since = writings bytes (segment_field bytes c.head) c }

  pub like-segment_of : (c : Rowed (Segment T) T) → LikeSegment bytes c (segment_of c)
  like-segment_of c = record {
    counted = sym (sub-zero c.head.count);
    fields = λ f. sym (latest-writings bytes (segment_field bytes c.head) c f);
    text_row = sym (texts-writings bytes (segment_field bytes c.head) c);
    number_row = sym (numbers-writings bytes (segment_field bytes c.head) c);
  }
