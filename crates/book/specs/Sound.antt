-- What every run from set-up keeps: limits, ids, counts and numbers.
use Rattle.std.specs.Prelude.{◌≡◌, ℕ, ◌+◌, ◌<◌, ◌≤◌, List, length}
use Rattle.book.specs.Limits.{most_defaults, span_text_limit, span_number_limit, segment_text_limit, segment_number_limit, span_text_row, span_number_row, most_count}
use Rattle.book.specs.Maps.{Distinct, Each}
use Rattle.book.specs.Book.{Writing, texts, numbers, Span, Segment, written, count, Setup, Book, new_book, numbers_of}
use Rattle.book.specs.Calls.{Call, run}

-- writings with at most t text pairs and n number pairs
abbrev pub Within : ℕ → ℕ → List Writing → Type 0
Within t n ws = (length (texts ws) ≤ t) × (length (numbers ws) ≤ n)

-- a live span has its own id and keeps the limits of operations
pub record LiveSpan (id : ℕ) (s : Span) : Type 0 where
  pub own_id : s.id ≡ id
  pub within : Within span_text_limit span_number_limit (written s)

-- a standing segment has a count of 1 or more and keeps the limits
pub record Standing (id : ℕ) (g : Segment) : Type 0 where
  pub stands : g.charged < g.created
  pub counted : count g ≤ most_count
  pub within : Within segment_text_limit segment_number_limit g.since

-- a book within its limits: no id or number twice, each live span under its own id
pub record Sound (b : Book) : Type 0 where
  pub live_once : Distinct b.live
  pub handed_once : Distinct b.handed
  pub segments_once : Distinct b.segments
  pub live_spans : Each LiveSpan b.live
  pub handed_spans : Each (λ n s. Within span_text_row span_number_row (written s)) b.handed
  pub standing : Each Standing b.segments
  pub strings : Each (λ k t. k < b.setup.strings) b.strings
  pub defaults : length b.defaults ≤ most_defaults
  pub records : length b.live + length b.handed ≤ b.setup.spans
  pub places : length b.segments ≤ b.setup.segments

-- after every run from set-up: set-up's values stand, the book is sound, and live, handed out and free sum to the number of records
pub record Kept (u : Setup) (b : Book) : Type 0 where
  pub same_setup : b.setup ≡ u
  pub sound : Sound b
  pub sum : (numbers_of b).live + (numbers_of b).handed + (numbers_of b).free ≡ u.spans

-- for every run
abbrev pub RunsKeep : Type 0
RunsKeep = (u : Setup) (calls : List Call) → Kept u (run calls (new_book u))
