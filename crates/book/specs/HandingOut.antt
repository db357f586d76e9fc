-- A chunk hands its spans out as they are, with tags at the end of their rows; returns drop them.
use Rattle.std.specs.Prelude.{◌≡◌, ℕ, Bool, List, [], ◌∷◌, ◌++◌, length, Some, ◌≢◌}
use Rattle.book.specs.Maps.{Map, find}
use Rattle.book.specs.Book.{Text, Field, Span, shows, span_texts, span_numbers, Book, with_handed}
use Rattle.book.specs.Refusals.{accepted}
use Rattle.book.specs.Chunk.{chunk, return_spans}
use Rattle.book.specs.Sound.{Sound}
use Rattle.book.specs.Leaving.{remove_all, Found}

-- t is s with more pairs
pub record Tagged (s t : Span) : Type 0 where
  pub same_id : t.id ≡ s.id
  pub same_segment : t.segment ≡ s.segment
  pub fields : (f : Field) → shows t f ≡ shows s f
  pub text_tags : List (Text × Text)
  pub text_row : span_texts t ≡ span_texts s ++ text_tags
  pub number_tags : List (Text × ℕ)
  pub number_row : span_numbers t ≡ span_numbers s ++ number_tags

-- n is not among these
abbrev pub Absent : ℕ → List ℕ → Type 0
Absent n [] = Unit {0}
Absent n (m ∷ ms) = (n ≢ m) × Absent n ms

-- no number stands twice
abbrev pub Apart : List ℕ → Type 0
Apart [] = Unit {0}
Apart (n ∷ ns) = Absent n ns × Apart ns

-- the live span of an id, and what then stands under its number, with that id
pub record IsHandedOut (live handed : Map Span) (id n : ℕ) : Type 0 where
  pub before : Span
  pub after : Span
  pub was_live : find id live ≡ Some before
  pub is_handed : find n handed ≡ Some after
  pub own_id : after.id ≡ id
  pub tagged : Tagged before after

-- each id with its number
abbrev pub EachWith : (ℕ → ℕ → Type 0) → List ℕ → List ℕ → Type 0
EachWith R [] [] = Unit {0}
EachWith R [] (n ∷ ns) = ⊥
EachWith R (id ∷ ids) [] = ⊥
EachWith R (id ∷ ids) (n ∷ ns) = R id n × EachWith R ids ns

-- an accepted chunk, under numbers of which none stands twice
abbrev pub ChunkHandsOut : Type 0
ChunkHandsOut =
    (b : Book) (ids : List ℕ) (root : Bool) (room : ℕ) (ns : List ℕ) → Sound b → Apart ns → length ns ≡ length ids → (chunk b ids root room ns).1 ≡ accepted →
    let b' : Book = (chunk b ids root room ns).0 in
    EachWith (IsHandedOut b.live b'.handed) ids ns × (b'.live ≡ remove_all ids b.live)

-- accepted returns drop just the spans that they name
abbrev pub ReturnsDrop : Type 0
ReturnsDrop =
    (b : Book) (ns : List ℕ) → (return_spans b ns).1 ≡ accepted →
    Found ns b.handed × ((return_spans b ns).0 ≡ with_handed (remove_all ns b.handed) b)
