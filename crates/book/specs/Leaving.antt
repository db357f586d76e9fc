-- What a call may touch, and what it leaves when it is refused.
use Rattle.std.specs.Prelude.{◌≡◌, ℕ, ◌⊎◌, List, [], ◌∷◌, ◌++◌, Some, None}
use Rattle.book.specs.Maps.{Map, find, remove}
use Rattle.book.specs.Book.{Span, Book, with_strings, with_defaults, with_live, with_segments, with_handed}
use Rattle.book.specs.Refusals.{span_not_found, not_handed, list_short, because, Refusal, refused}
use Rattle.book.specs.Calls.{Call, string_insert, string_evict, default_meta, decisions, change_buffer, flush_chunk, recycle_spans, get_span, get_segment, get_handed, get_numbers, step}

-- ---- what a call may touch

-- the book b' that a call leaves differs from b at most in these parts
abbrev pub Touches : Call → Book → Book → Type 0
Touches (string_insert k t) b b' = b' ≡ with_strings b'.strings b
Touches (string_evict k) b b' = b' ≡ with_strings b'.strings b
Touches (default_meta ps) b b' = b' ≡ with_defaults b'.defaults b
Touches (decisions id x y z) b b' = b' ≡ with_segments b'.segments b
Touches (change_buffer bytes) b b' = b' ≡ with_live b'.live (with_segments b'.segments b)
Touches (flush_chunk ids root room ns) b b' = b' ≡ with_live b'.live (with_segments b'.segments (with_handed b'.handed b))
Touches (recycle_spans ns) b b' = b' ≡ with_handed b'.handed b
Touches (get_span id) b b' = b' ≡ b
Touches (get_segment id) b b' = b' ≡ b
Touches (get_handed n) b b' = b' ≡ b
Touches get_numbers b b' = b' ≡ b

-- for every call
abbrev pub CallsTouch : Type 0
CallsTouch = (c : Call) (b : Book) → Touches c b (step c b).0

-- ---- what a refusal leaves

-- without these
abbrev pub remove_all : List ℕ → Map Span → Map Span
remove_all [] m = m
remove_all (n ∷ ns) m = remove_all ns (remove n m)

-- each is there at its turn
abbrev pub Found : List ℕ → Map Span → Type 0
Found [] m = Unit {0}
Found (n ∷ ns) m = (s : Span) × (find n m ≡ Some s) × Found ns (remove n m)

-- the first that is not there at its turn
pub record FirstMissing (ns : List ℕ) (m : Map Span) (n : ℕ) : Type 0 where
  pub earlier : List ℕ
  pub later : List ℕ
  pub split : ns ≡ earlier ++ n ∷ later
  pub found : Found earlier m
  pub absent : find n (remove_all earlier m) ≡ None

-- a chunk refused at the first id that is not live at its turn: the earlier spans are gone, and nothing else
pub record RefusedAt (ids : List ℕ) (b b' : Book) (r : Refusal) : Type 0 where
  pub id : ℕ
  pub first : FirstMissing ids b.live id
  pub gone : b' ≡ with_live (remove_all first.earlier b.live) b
  pub refusal : r ≡ because (span_not_found id)

-- returns refused at the first number that names no handed-out span at its turn: nothing changes
pub record NotReturned (ns : List ℕ) (b b' : Book) (r : Refusal) : Type 0 where
  pub n : ℕ
  pub first : FirstMissing ns b.handed n
  pub same : b' ≡ b
  pub refusal : r ≡ because (not_handed n)

-- the book b' that a call leaves when it is refused with r; a refused flush keeps what came before
abbrev pub Left : Call → Book → Book → Refusal → Type 0
Left (string_insert k t) b b' r = b' ≡ b
Left (string_evict k) b b' r = b' ≡ b
Left (default_meta ps) b b' r = b' ≡ b
Left (decisions id x y z) b b' r = b' ≡ b
Left (change_buffer bytes) b b' r = Touches (change_buffer bytes) b b'
Left (flush_chunk ids root room ns) b b' r = ((b' ≡ b) × (r ≡ because list_short)) ⊎ RefusedAt ids b b' r
Left (recycle_spans ns) b b' r = NotReturned ns b b' r
Left (get_span id) b b' r = b' ≡ b
Left (get_segment id) b b' r = b' ≡ b
Left (get_handed n) b b' r = b' ≡ b
Left get_numbers b b' r = b' ≡ b

-- for every refused call
abbrev pub RefusalsLeave : Type 0
RefusalsLeave = (c : Call) (b : Book) (r : Refusal) → (step c b).1 ≡ refused r → Left c b (step c b).0 r
