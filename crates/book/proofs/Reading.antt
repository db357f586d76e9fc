-- A reading shows the latest writing.
use Rattle.std.proofs.Common.{◌≡◌, ℕ, Bool, true, false, cond, List, [], ◌∷◌, ◌++◌, get_or, Some, None, sym, refl, ap, ◌∙◌, append_assoc, append-nil}
use Rattle.std.specs.Str.{bytes_eq}
use Rattle.std.proofs.lemmas.Bool.{eq-eqb, eqb-true, cond-true, cond-false}
use Rattle.std.proofs.lemmas.Slice.Eq.{bytes_eq-Decides}
use Rattle.book.specs.Book.{Text, Field, trace, parent, service, name, resource, type, start, duration, error, origin, rule, limit, agent, Value, Writing, ◌≔◌, meta, metric, field_number, same_field, rewritten, latest, blank, and_text, and_number, row, or_else, last_value}
use Rattle.book.specs.Reading.{Sets, TextPair, NumberPair, Untouched, ReadsLatest, LatestShows}
use Rattle.book.proofs.Rows.{text_of, number_of, adds_text, adds_number, last-append, latest-append}

-- ---- whatever is read so of writings is read so of spans

untouched-append : (Such : Writing → Type 0) (xs ys : List Writing) → Untouched Such xs → Untouched Such ys → Untouched Such (xs ++ ys)
untouched-append Such [] ys u v = v
untouched-append Such (x ∷ xs) ys u v = (u.0, untouched-append Such xs ys u.1 v)

reads_latest : {V X : Type 0} (Such : Writing → Type 0) (wrote : V → Writing) (value : V → X) (otherwise : X) (reads : List Writing → X) →
    ((newer older : List Writing) (v : V) → Untouched Such newer → reads (newer ++ wrote v ∷ older) ≡ value v) → ((ws : List Writing) → Untouched Such ws → reads ws ≡ otherwise) →
    ReadsLatest Such wrote value otherwise reads
reads_latest Such wrote value otherwise reads newest never = record {
  newest = newest;
  never = never;
  since = λ s newer older v e u.
      ap (λ z. reads (z ++ s.given)) e ∙ ap reads (append_assoc newer (wrote v ∷ older) s.given) ∙ newest newer (older ++ s.given) v u;
  given = λ s newer older v u e w.
      ap (λ z. reads (s.since ++ z)) e ∙ ap reads (sym (append_assoc s.since newer (wrote v ∷ older))) ∙ newest (s.since ++ newer) older v (untouched-append Such s.since newer u w);
}

-- ---- fields, told apart by their numbers

all-fields : List Field
all-fields = trace ∷ parent ∷ service ∷ name ∷ resource ∷ type ∷ start ∷ duration ∷ error ∷ origin ∷ rule ∷ limit ∷ agent ∷ []

field_at : (f : Field) → get_or all-fields (field_number f) trace ≡ f
unfolding all-fields
field_at trace = refl
field_at parent = refl
field_at service = refl
field_at name = refl
field_at resource = refl
field_at type = refl
field_at start = refl
field_at duration = refl
field_at error = refl
field_at origin = refl
field_at rule = refl
field_at limit = refl
field_at agent = refl

same-fields : (f g : Field) → same_field f g ≡ true → f ≡ g
same-fields f g h = sym (field_at f) ∙ ap (λ (n : ℕ). get_or all-fields n trace) (eqb-true (field_number f) (field_number g) h) ∙ field_at g

pub itself : (f : Field) → same_field f f ≡ true
itself f = eq-eqb (field_number f) (field_number f) refl

never : (t : Bool) → (t ≡ true → ⊥) → t ≡ false
never true h = absurd (h refl)
never false h = refl

-- a writing to something else leaves a field as it was
rewritten-other : (f : Field) (w : Writing) (v : Value) → (Sets f w → ⊥) → rewritten f w v ≡ v
rewritten-other f (g ≔ x) v h = cond-false (same_field f g) x v (never (same_field f g) (λ e. h (same-fields f g e)))
rewritten-other f (meta k t) v h = refl
rewritten-other f (metric k n) v h = refl

untouched-field : (f : Field) (v : Value) (ws : List Writing) → Untouched (Sets f) ws → latest f v ws ≡ v
untouched-field f v [] u = refl
untouched-field f v (w ∷ ws) u = rewritten-other f w (latest f v ws) u.0 ∙ untouched-field f v ws u.1

latest-field : (f : Field) → ReadsLatest (Sets f) (λ v. f ≔ v) (λ v. v) (blank f) (λ ws. latest f (blank f) ws)
latest-field f =
    reads_latest (Sets f) (λ v. f ≔ v) (λ v. v) (blank f) (λ ws. latest f (blank f) ws)
    (λ newer older v u. latest-append f (blank f) newer (f ≔ v ∷ older) ∙ untouched-field f _ newer u ∙ cond-true (same_field f f) v (latest f (blank f) older) (itself f))
    (untouched-field f (blank f))

-- ---- lookups, in rows of either kind

module _ {V : Type 0} (and_one : Writing → List (Text × V) → List (Text × V)) (one : Writing → List (Text × V)) (adds : (w : Writing) (ps : List (Text × V)) → and_one w ps ≡ ps ++ one w)
    (k : Text) (Such : Writing → Type 0) (wrote : V → Writing) (such : (v : V) → one (wrote v) ≡ (k, v) ∷ [])
    (other : (w : Writing) → (Such w → ⊥) → last_value k (one w) ≡ None) where
  after : (w : Writing) (ws : List Writing) → last_value k (row and_one (w ∷ ws)) ≡ or_else (last_value k (one w)) (last_value k (row and_one ws))
  after w ws = ap (λ z. last_value k z) (adds w (row and_one ws)) ∙ last-append k (row and_one ws) (one w)

  untouched-key : (newer ws : List Writing) → Untouched Such newer → last_value k (row and_one (newer ++ ws)) ≡ last_value k (row and_one ws)
  untouched-key [] ws u = refl
  untouched-key (w ∷ newer) ws u =
      after w (newer ++ ws) ∙ ap (λ z. or_else z (last_value k (row and_one (newer ++ ws)))) (other w u.0) ∙ untouched-key newer ws u.1

  pub latest-key : ReadsLatest Such wrote (λ v. Some v) None (λ ws. last_value k (row and_one ws))
  latest-key =
      reads_latest Such wrote (λ v. Some v) None (λ ws. last_value k (row and_one ws))
      (λ newer older v u.
      untouched-key newer (wrote v ∷ older) u ∙ after (wrote v) older
      ∙ ap (λ z. or_else (last_value k z) (last_value k (row and_one older))) (such v)
      ∙ ap (λ z. or_else (cond z (Some v) None) (last_value k (row and_one older))) ((bytes_eq-Decides k k).1 refl))
      (λ ws u. ap (λ z. last_value k (row and_one z)) (sym (append-nil ws)) ∙ untouched-key ws [] u)

absent : {V : Type 0} (k l : Text) (v : V) → (k ≡ l → ⊥) → last_value k ((l, v) ∷ []) ≡ None
absent k l v h = cond-false (bytes_eq l k) (Some v) None (never (bytes_eq l k) (λ e. h (sym ((bytes_eq-Decides l k).0 e))))

text-other : (k : Text) (w : Writing) → (TextPair k w → ⊥) → last_value k (text_of w) ≡ None
text-other k (f ≔ v) h = refl
text-other k (meta l t) h = absent k l t h
text-other k (metric l n) h = refl

number-other : (k : Text) (w : Writing) → (NumberPair k w → ⊥) → last_value k (number_of w) ≡ None
number-other k (f ≔ v) h = refl
number-other k (meta l t) h = refl
number-other k (metric l n) h = absent k l n h

pub latest-shows : LatestShows
latest-shows = record {
  fields = latest-field;
  text_lookups = λ k. latest-key and_text text_of adds_text k (TextPair k) (λ t. meta k t) (λ t. refl) (text-other k);
  number_lookups = λ k. latest-key and_number number_of adds_number k (NumberPair k) (λ n. metric k n) (λ n. refl) (number-other k);
}
