-- A reading of writings shows the latest of them.
use Rattle.std.specs.Prelude.{◌≡◌, List, [], ◌∷◌, ◌++◌, Some, None}
use Rattle.book.specs.Book.{Text, Field, Writing, ◌≔◌, meta, metric, latest, blank, texts, numbers, last_value, Span, written}

-- the writing sets this field
abbrev pub Sets : Field → Writing → Type 0
Sets f (g ≔ v) = f ≡ g
Sets f (meta k t) = ⊥
Sets f (metric k n) = ⊥

-- the writing is a text pair with this key
abbrev pub TextPair : Text → Writing → Type 0
TextPair k (f ≔ v) = ⊥
TextPair k (meta l t) = k ≡ l
TextPair k (metric l n) = ⊥

-- the writing is a number pair with this key
abbrev pub NumberPair : Text → Writing → Type 0
NumberPair k (f ≔ v) = ⊥
NumberPair k (meta l t) = ⊥
NumberPair k (metric l n) = k ≡ l

-- no writing is such
abbrev pub Untouched : (Writing → Type 0) → List Writing → Type 0
Untouched Such [] = Unit {0}
Untouched Such (w ∷ ws) = (Such w → ⊥) × Untouched Such ws

-- what is read of writings is the value of the newest that is such, or else what stands where none is;
-- of a span, that of the newest since its making, or else of the newest that the making gave
pub record ReadsLatest {V X : Type 0} (Such : Writing → Type 0) (wrote : V → Writing) (value : V → X) (otherwise : X) (reads : List Writing → X) : Type 0 where
  pub newest : (newer older : List Writing) (v : V) → Untouched Such newer → reads (newer ++ wrote v ∷ older) ≡ value v
  pub never : (ws : List Writing) → Untouched Such ws → reads ws ≡ otherwise
  pub since : (s : Span) (newer older : List Writing) (v : V) → s.since ≡ newer ++ wrote v ∷ older → Untouched Such newer → reads (written s) ≡ value v
  pub given : (s : Span) (newer older : List Writing) (v : V) → Untouched Such s.since → s.given ≡ newer ++ wrote v ∷ older → Untouched Such newer → reads (written s) ≡ value v

-- of fields and of both kinds of lookup
pub record LatestShows : Type 0 where
  pub fields : (f : Field) → ReadsLatest (Sets f) (λ v. f ≔ v) (λ v. v) (blank f) (λ ws. latest f (blank f) ws)
  pub text_lookups : (k : Text) → ReadsLatest (TextPair k) (λ t. meta k t) (λ t. Some t) None (λ ws. last_value k (texts ws))
  pub number_lookups : (k : Text) → ReadsLatest (NumberPair k) (λ n. metric k n) (λ n. Some n) None (λ ws. last_value k (numbers ws))
