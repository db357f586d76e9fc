-- A chunk of finished spans is handed out: its tags, the spans moved under their record numbers, the charge to its segment; and returns.
use Rattle.std.specs.Prelude.{ℕ, suc, ◌+◌, Bool, if◌then◌else◌, List, [], ◌∷◌, ◌++◌, map, length, pos, Some, None, codes, Option, nat_le}
use Rattle.std.specs.Float.{binary64}
use Rattle.std.specs.Float.Ieee.{of_int}
use Rattle.std.specs.Str.{bytes_eq}
use Rattle.book.specs.Maps.{Map, find, remove, put}
use Rattle.book.specs.Book.{Text, Field, service, origin, rule, limit, agent, Value, nothing, text, word, int, float, Writing, meta, metric, bits_of, texts, numbers, last_value, Span, Segment, shows, span_texts, segment_shows, count, write, Setup, Book, with_live, with_segments, with_handed}
use Rattle.book.specs.Refusals.{list_short, span_not_found, not_handed, because, Answer, accepted, refused}

-- ---- tags, in the order in which they are inserted

-- what a field of the chunk's segment holds, if that stands
abbrev pub segment_field : Option Segment → Field → Value
segment_field None f = nothing
segment_field (Some g) f = segment_shows g f

-- the float's bits in a value, if it is one
abbrev pub float_in : Value → Option ℕ
float_in nothing = None
float_in (text t) = None
float_in (word n) = None
float_in (int z) = None
float_in (float n) = Some n

-- the text in a value, if it is one
abbrev pub text_in : Value → Option Text
text_in nothing = None
text_in (text t) = Some t
text_in (word n) = None
text_in (int z) = None
text_in (float n) = None

-- a number pair, if there is a number
abbrev pub number_tag : Text → Option ℕ → List Writing
number_tag k None = []
number_tag k (Some n) = metric k n ∷ []

-- a text pair, if there is a text
abbrev pub text_tag : Text → Option Text → List Writing
text_tag k None = []
text_tag k (Some t) = meta k t ∷ []

-- a whole number as a float's bits
abbrev pub whole : ℕ → ℕ
whole n = bits_of (of_int binary64 (pos n))

-- 1. of the first span, if it is a local root: what was decided, and the top level
abbrev pub root_tags : Option Segment → List Writing
root_tags g =
    number_tag (codes "_dd.rule_psr") (float_in (segment_field g rule))
    ++ number_tag (codes "_dd.limit_psr") (float_in (segment_field g limit))
    ++ number_tag (codes "_dd.agent_psr") (float_in (segment_field g agent))
    ++ metric (codes "_dd.top_level") (whole 1) ∷ []

-- 2. of the first span: the segment's pairs
abbrev pub segment_tags : Option Segment → List Writing
segment_tags None = []
segment_tags (Some g) = map (λ p. meta p.0 p.1) (texts g.since) ++ map (λ p. metric p.0 p.1) (numbers g.since)

-- 3. of every span, by its kind
abbrev pub measured : Option Text → List Writing
measured None = []
measured (Some kind) = if bytes_eq kind (codes "internal") then [] else metric (codes "_dd.measured") (whole 1) ∷ []

-- 4. of every span: the tracer's service, if the span's is another
abbrev pub base_service : (tracer : Text) → Option Text → List Writing
base_service tracer None = []
base_service tracer (Some own) = if bytes_eq own tracer then [] else meta (codes "_dd.base_service") tracer ∷ []

-- and after it the language, the process id, and the segment's origin
abbrev pub process_tags : Setup → Option Segment → (own : Option Text) → List Writing
process_tags u g own =
    base_service u.service own
    ++ meta (codes "language") u.language ∷ []
    ++ metric (codes "process_id") (whole u.pid) ∷ []
    ++ text_tag (codes "_dd.origin") (text_in (segment_field g origin))

-- writings in their order
abbrev pub write_all : List Writing → Span → Span
write_all [] s = s
write_all (w ∷ ws) s = write_all ws (write w s)

-- the tags of the first span alone
abbrev pub tag_first : Bool → Option Segment → Span → Span
tag_first root g s = write_all ((if root then root_tags g else []) ++ segment_tags g) s

-- the tags of every span
abbrev pub tag_every : Setup → Option Segment → Span → Span
tag_every u g s = write_all (measured (last_value (codes "kind") (span_texts s)) ++ process_tags u g (text_in (shows s service))) s

-- the spans of a chunk with their tags
abbrev pub tag_all : Setup → Option Segment → Bool → List Span → List Span
tag_all u g root [] = []
tag_all u g root (s ∷ ss) = tag_every u g (tag_first root g s) ∷ map (tag_every u g) ss

-- ---- spans taken out, one after the other

-- all of them and what is left, or the first that was not there at its turn and what was left then
pub data Taken : Type 0 where
  all : (left : Map Span) → List Span → Taken
  missing : ℕ → (left : Map Span) → Taken

-- one more span, taken before these
abbrev pub and_span : Span → Taken → Taken
and_span s (all left ss) = all left (s ∷ ss)
and_span s (missing n left) = missing n left

-- the one under n, if it is there, and then the later ones
abbrev pub take_one : ℕ → Map Span → Option Span → Taken → Taken
take_one n m None later = missing n m
take_one n m (Some s) later = and_span s later

-- all in their order
abbrev pub take_all : List ℕ → Map Span → Taken
take_all [] m = all m []
take_all (n ∷ ns) m = take_one n m (find n m) (take_all ns (remove n m))

-- ---- the charge

-- n more spans charged to a segment
abbrev pub charged : ℕ → Segment → Segment
charged n g = record { created = g.created; charged = g.charged + n; since = g.since }

-- a segment with no more than n to its count goes, any other stays with n more charged
abbrev pub charge_one : ℕ → ℕ → Option Segment → Map Segment → Map Segment
charge_one n id None m = m
charge_one n id (Some g) m = if nat_le (count g) n then remove id m else put id (charged n g) m

-- the charge of n spans to the segment with this id; one that is gone is not charged
abbrev pub charge : ℕ → ℕ → Map Segment → Map Segment
charge n id m = charge_one n id (find id m) m

-- ---- the call

-- spans under their numbers, in order
abbrev pub hand_out : List ℕ → List Span → Map Span → Map Span
hand_out [] ss m = m
hand_out (n ∷ ns) [] m = m
hand_out (n ∷ ns) (s ∷ ss) m = hand_out ns ss (put n s m)

-- once the ids were taken; g is the segment with this id, which gives the tags and takes the charge
abbrev pub chunk_taken : Book → (segment : ℕ) → Option Segment → Bool → (numbers : List ℕ) → Taken → Book × Answer
chunk_taken b segment g root ns (missing id live) = (with_live live b, refused (because (span_not_found id)))
chunk_taken b segment g root ns (all live spans) = (
  with_live live
      (with_segments (charge (length spans) segment b.segments)
      (with_handed (hand_out ns (tag_all b.setup g root spans) b.handed) b)),
  accepted,
)

-- the chunk's segment is that of its first span
abbrev pub chunk_of : Book → List ℕ → Bool → (numbers : List ℕ) → (id : ℕ) → Option Span → Book × Answer
chunk_of b ids root ns id None = (b, refused (because (span_not_found id)))
chunk_of b ids root ns id (Some s) = chunk_taken b s.segment (find s.segment b.segments) root ns (take_all ids b.live)

-- the ids, whether the first is a local root, how long the number list is, and the numbers if the chunk is accepted
abbrev pub chunk : Book → (ids : List ℕ) → Bool → (room : ℕ) → (numbers : List ℕ) → Book × Answer
chunk b [] root room ns = (b, accepted)
chunk b (id ∷ ids) root room ns =
    if nat_le (suc (length ids)) room then chunk_of b (id ∷ ids) root ns id (find id b.live) else (b, refused (because list_short))

-- ---- returns

-- once the spans were taken back
abbrev pub returned : Book → Taken → Book × Answer
returned b (all left spans) = (with_handed left b, accepted)
returned b (missing n left) = (b, refused (because (not_handed n)))

-- each number names a handed-out span at its turn, so none stands twice
abbrev pub return_spans : Book → (numbers : List ℕ) → Book × Answer
return_spans b ns = returned b (take_all ns b.handed)
