-- The words of texts: the eleven fixed words, the words of listed text, the word that a name means, and the byte at a place.
use Rattle.std.specs.Prelude.{◌≡◌, ℕ, ◌<◌, ◌≤◌, if◌then◌else◌, List, [], ◌∷◌, ◌++◌, length, Some, None, codes, Option, slice_index, slice_index_or}
use Rattle.std.specs.Str.{bytes_eq}

-- the byte at a place of a list of bytes, none past the end
abbrev pub At : List ℕ → ℕ → Option ℕ → Type 0
At bs i None = length bs ≤ i
At bs i (Some b) = (i < length bs) × (b ≡ slice_index bs i)

-- the eleven fixed words, in order
abbrev pub fixed_words : List (List ℕ)
fixed_words =
    codes "_dd.top_level" ∷ codes "_dd.measured" ∷ codes "_dd.base_service" ∷ codes "language" ∷ codes "process_id"
    ∷ codes "_dd.origin" ∷ codes "_dd.rule_psr" ∷ codes "_dd.limit_psr" ∷ codes "_dd.agent_psr" ∷ codes "internal"
    ∷ codes "kind" ∷ []

-- the word if it is one of the given words, else no bytes
abbrev pub among : List (List ℕ) → List ℕ → List ℕ
among [] w = []
among (x ∷ xs) w = if bytes_eq w x then x else among xs w

-- the fixed word that is named, no bytes for any other word
abbrev pub fixed : List ℕ → List ℕ
fixed w = among fixed_words w

-- the words of listed text, by number
abbrev pub listed_words : List (List ℕ)
listed_words =
    [] ∷ (fixed_words ++ (codes "sorter" ∷ codes "belt" ∷ codes "scan" ∷ codes "divert" ∷ codes "chute" ∷ codes "arm" ∷ []))

-- the bytes are those of a listed word
abbrev pub OnList : List ℕ → Type 0
OnList bs = (n : ℕ) × (n < 18) × (slice_index_or listed_words n [] ≡ bs)
