-- The calls and questions on the plain book, and a run of them.
use Rattle.std.specs.Prelude.{ℕ, Bool, if◌then◌else◌, ◌&&◌, List, [], ◌∷◌, length, Some, None, Option, nat_le, nat_lt, Float}
use Rattle.book.specs.Limits.{most_defaults}
use Rattle.book.specs.Maps.{find, remove, put}
use Rattle.book.specs.Book.{Text, rule, limit, agent, Value, nothing, float, ◌≔◌, bits_of, Span, Segment, note, Setup, Book, lengths_allowed, numbers_of, with_strings, with_defaults, with_segments}
use Rattle.book.specs.Refusals.{Cause, out_of_order, too_many_defaults, key_beyond, no_segment, not_handed, span_not_found, because, one_span, one_segment, three_numbers, Answer, accepted, refused, shown}
use Rattle.book.specs.Flush.{flush}
use Rattle.book.specs.Chunk.{chunk, return_spans}

-- a call with its arguments; a chunk also with the record numbers that were handed out if it was accepted
pub data Call : Type 0 where
  string_insert : (key : ℕ) → Text → Call
  string_evict : (key : ℕ) → Call
  default_meta : List (Text × Text) → Call
  decisions : (segment : ℕ) → (rule limit agent : Option Float) → Call
  change_buffer : (bytes : List ℕ) → Call
  flush_chunk : (ids : List ℕ) → (first-is-local-root : Bool) → (room : ℕ) → (numbers : List ℕ) → Call
  recycle_spans : (numbers : List ℕ) → Call
  get_span : (id : ℕ) → Call
  get_segment : (id : ℕ) → Call
  get_handed : (number : ℕ) → Call
  get_numbers : Call

-- set-up's answer; `enough` says whether the indexes' capacities suffice
abbrev pub set_up_answer : Setup → (enough : Bool) → Answer
set_up_answer u enough = if lengths_allowed u && enough then accepted else refused (because out_of_order)

-- a question on one span
abbrev pub span_or : Cause → Option Span → Answer
span_or c None = refused (because c)
span_or c (Some s) = shown (one_span s)

-- a decision as a field's value
abbrev pub decision : Option Float → Value
decision None = nothing
decision (Some x) = float (bits_of x)

-- the three decisions of a segment, if it stands
abbrev pub decided : Book → ℕ → Option Float → Option Float → Option Float → Option Segment → Book × Answer
decided b id r l a None = (b, refused (because (no_segment id)))
decided b id r l a (Some g) =
    (with_segments (put id (note (agent ≔ decision a) (note (limit ≔ decision l) (note (rule ≔ decision r) g))) b.segments) b, accepted)

-- one call: the book afterwards and the answer
abbrev pub step : Call → Book → Book × Answer
step (string_insert k t) b = if nat_lt k b.setup.strings then (with_strings (put k t b.strings) b, accepted) else (b, refused (because key_beyond))
step (string_evict k) b = (with_strings (remove k b.strings) b, accepted)
step (default_meta ps) b = if nat_le (length ps) most_defaults then (with_defaults ps b, accepted) else (b, refused (because too_many_defaults))
step (decisions id r l a) b = decided b id r l a (find id b.segments)
step (change_buffer bytes) b = flush b bytes
step (flush_chunk ids root room ns) b = chunk b ids root room ns
step (recycle_spans ns) b = return_spans b ns
step (get_span id) b = (b, span_or (span_not_found id) (find id b.live))
step (get_segment id) b = (b, shown (one_segment (find id b.segments)))
step (get_handed n) b = (b, span_or (not_handed n) (find n b.handed))
step get_numbers b = (b, shown (three_numbers (numbers_of b)))

-- the book after a run of calls, and the answers
abbrev pub run : List Call → Book → Book
run [] b = b
run (c ∷ cs) b = run cs (step c b).0

abbrev pub answers : List Call → Book → List Answer
answers [] b = []
answers (c ∷ cs) b = (step c b).1 ∷ answers cs (step c b).0
