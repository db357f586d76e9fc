-- Rows that writings make: what more writings add to them, and lookups in them.
use Rattle.std.proofs.Common.{◌≡◌, ℕ, cond, List, [], ◌∷◌, ◌++◌, map, reverse, Some, None, Option, sym, refl, ap, ◌∙◌, append_assoc, append-nil}
use mathlib.Core.List.{reverse-cons}
use Rattle.std.specs.Str.{bytes_eq}
use Rattle.book.specs.Book.{Text, Field, Value, Writing, ◌≔◌, meta, metric, rewritten, latest, and_text, and_number, row, or_else, last_value, Span, written, write}
use Rattle.book.specs.Chunk.{write_all}

-- what one writing adds to a row
abbrev pub text_of : Writing → List (Text × Text)
text_of (f ≔ v) = []
text_of (meta k t) = (k, t) ∷ []
text_of (metric k n) = []

abbrev pub number_of : Writing → List (Text × ℕ)
number_of (f ≔ v) = []
number_of (meta k t) = []
number_of (metric k n) = (k, n) ∷ []

pub adds_text : (w : Writing) (ps : List (Text × Text)) → and_text w ps ≡ ps ++ text_of w
adds_text (f ≔ v) ps = sym (append-nil ps)
adds_text (meta k t) ps = refl
adds_text (metric k n) ps = sym (append-nil ps)

pub adds_number : (w : Writing) (ps : List (Text × ℕ)) → and_number w ps ≡ ps ++ number_of w
adds_number (f ≔ v) ps = sym (append-nil ps)
adds_number (meta k t) ps = sym (append-nil ps)
adds_number (metric k n) ps = refl

-- the pairs of writings that stand in their order, the oldest first
abbrev pub in_order : {P : Type 0} → (Writing → List P) → List Writing → List P
in_order one [] = []
in_order one (w ∷ ws) = one w ++ in_order one ws

pub in_order-append : {P : Type 0} (one : Writing → List P) (xs ys : List Writing) → in_order one (xs ++ ys) ≡ in_order one xs ++ in_order one ys
in_order-append one [] ys = refl
in_order-append one (x ∷ xs) ys = ap (λ z. one x ++ z) (in_order-append one xs ys) ∙ sym (append_assoc (one x) (in_order one xs) (in_order one ys))

-- for rows of any kind of pair, of which each writing adds some at the end
module _ {P : Type 0} (and_one : Writing → List P → List P) (one : Writing → List P) (adds : (w : Writing) (ps : List P) → and_one w ps ≡ ps ++ one w) where
  -- newer writings, the newest first
  pub row-append : (newer older : List Writing) → row and_one (newer ++ older) ≡ row and_one older ++ row and_one newer
  row-append [] older = sym (append-nil (row and_one older))
  row-append (w ∷ newer) older =
      ap (λ z. and_one w z) (row-append newer older) ∙ adds w (row and_one older ++ row and_one newer)
      ∙ append_assoc (row and_one older) (row and_one newer) (one w) ∙ ap (λ z. row and_one older ++ z) (sym (adds w (row and_one newer)))

  -- writings to a span, in their order
  pub row_write_all : (ws : List Writing) (s : Span) → row and_one (written (write_all ws s)) ≡ row and_one (written s) ++ in_order one ws
  row_write_all [] s = sym (append-nil (row and_one (written s)))
  row_write_all (w ∷ ws) s =
      row_write_all ws (write w s) ∙ ap (λ z. z ++ in_order one ws) (adds w (row and_one (written s)))
      ∙ append_assoc (row and_one (written s)) (one w) (in_order one ws)

  -- writings turned round
  pub row-reverse : (ws : List Writing) → row and_one (reverse ws) ≡ in_order one ws
  row-reverse [] = refl
  row-reverse (w ∷ ws) =
      ap (λ z. row and_one z) (reverse-cons w ws) ∙ row-append (reverse ws) (w ∷ [])
      ∙ ap (λ z. z ++ row and_one (reverse ws)) (adds w []) ∙ ap (λ z. one w ++ z) (row-reverse ws)

-- ---- rows of pairs as writings

pub texts_of_texts : (ps : List (Text × Text)) → in_order text_of (map (λ p. meta p.0 p.1) ps) ≡ ps
texts_of_texts [] = refl
texts_of_texts (p ∷ ps) = ap (λ z. p ∷ z) (texts_of_texts ps)

pub numbers_of_texts : (ps : List (Text × Text)) → in_order number_of (map (λ p. meta p.0 p.1) ps) ≡ []
numbers_of_texts [] = refl
numbers_of_texts (p ∷ ps) = numbers_of_texts ps

pub numbers_of_numbers : (ps : List (Text × ℕ)) → in_order number_of (map (λ p. metric p.0 p.1) ps) ≡ ps
numbers_of_numbers [] = refl
numbers_of_numbers (p ∷ ps) = ap (λ z. p ∷ z) (numbers_of_numbers ps)

pub texts_of_numbers : (ps : List (Text × ℕ)) → in_order text_of (map (λ p. metric p.0 p.1) ps) ≡ []
texts_of_numbers [] = refl
texts_of_numbers (p ∷ ps) = texts_of_numbers ps

-- ---- lookups

pub last-append : {V : Type 0} (k : Text) (ps qs : List (Text × V)) → last_value k (ps ++ qs) ≡ or_else (last_value k qs) (last_value k ps)
last-append k [] qs = by (last_value k qs)
  where
    by : {V : Type 0} (o : Option V) → o ≡ or_else o None
    by (Some v) = refl
    by None = refl
last-append k (p ∷ ps) qs =
    ap (λ z. or_else z (cond (bytes_eq p.0 k) (Some p.1) None)) (last-append k ps qs) ∙ by (last_value k qs) (last_value k ps) _
  where
    by : {V : Type 0} (a b c : Option V) → or_else (or_else a b) c ≡ or_else a (or_else b c)
    by (Some v) b c = refl
    by None b c = refl

-- ---- fields

-- a value after newer writings
pub latest-append : (f : Field) (v : Value) (newer older : List Writing) → latest f v (newer ++ older) ≡ latest f (latest f v older) newer
latest-append f v [] older = refl
latest-append f v (w ∷ newer) older = ap (λ z. rewritten f w z) (latest-append f v newer older)
