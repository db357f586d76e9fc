-- A flush of the change buffer: its operands, the table of opcodes, and what each operation does.
use Rattle.std.specs.Prelude.{ℕ, suc, ◌+◌, ◌%◌, ◌^◌, Bool, ◌||◌, List, [], ◌∷◌, ◌++◌, map, reverse, length, drop, replicate, Some, None, Option, from_bits, nat_lt}
use Rattle.std.specs.Float.{binary64}
use Rattle.std.specs.Int.{w32, w64}
use Rattle.std.proofs.Common.{to_z}
use Rattle.book.specs.Limits.{span_text_limit, span_number_limit, segment_text_limit, segment_number_limit, most_count}
use Rattle.book.specs.Maps.{Map, find, put, has}
use Rattle.book.specs.Book.{Text, Field, trace, parent, service, name, resource, type, start, duration, error, origin, Value, text, word, int, float, Writing, ◌≔◌, meta, metric, bits_of, has_place, Span, Segment, written, count, write, note, Book, with_live, with_segments}
use Rattle.book.specs.Refusals.{span_not_found, unknown_opcode, string_not_found, no_record, no_segment_record, row_full, Answer, accepted, refused, shown}
use Rattle.book.specs.Actions.{Act, ◌>>=◌, give, look, change, the, ask, times, read, settled}

-- ---- operands

-- a string's number, an f64, an i64, an i32
pub data Operand : Type 0 where
  S F I i32 : Operand

-- the text that stands in the string table under the next number
unfoldable pub read_text : Act Text
read_text = do
  n ← read 4
  found ← look (λ b. find n b.strings)
  the found (string_not_found n)

-- a float's bits
unfoldable pub read_bits : Act ℕ
read_bits = do
  n ← read 8
  give (bits_of (from_bits binary64 n))

-- signed numbers are two's complement
unfoldable pub read_operand : Operand → Act Value
read_operand S = do
  t ← read_text
  give (text t)
read_operand F = do
  n ← read_bits
  give (float n)
read_operand I = do
  n ← read 8
  give (int (to_z w64 n))
read_operand i32 = do
  n ← read 4
  give (int (to_z w32 n))

-- ---- the table of opcodes

-- what one operation writes: a field by an operand, a text pair, or a number pair
infix 70 ◌by◌
pub data Attribute : Type 0 where
  ◌by◌ : Field → Operand → Attribute
  S_S S_F : Attribute

-- what an opcode stands for
pub data Operation : Type 0 where
  create : List (Field × Operand) → Operation  -- trace 16, segment 8, parent 8, then these fields
  on_span on_segment : Attribute → Operation  -- of a live span, or of its segment
  batch : Attribute → Operation  -- count 4, then each

-- each opcode with its operation
abbrev pub table : Map Operation
table =
    (0, create [])
    ∷ (1, on_span S_S) ∷ (10, on_segment S_S)
    ∷ (2, on_span S_F) ∷ (11, on_segment S_F)
    ∷ (3, on_span (service by S)) ∷ (4, on_span (resource by S)) ∷ (8, on_span (type by S)) ∷ (9, on_span (name by S)) ∷ (12, on_segment (origin by S))
    ∷ (5, on_span (error by i32))
    ∷ (6, on_span (start by I)) ∷ (7, on_span (duration by I))
    ∷ (13, create ((name, S) ∷ (start, I) ∷ []))
    ∷ (14, create ((name, S) ∷ (service, S) ∷ (resource, S) ∷ (type, S) ∷ (start, I) ∷ []))
    ∷ (15, batch S_S) ∷ (16, batch S_F)
    ∷ []

-- ---- reading what an operation writes

-- a writing by its operands
unfoldable pub read_attribute : Attribute → Act Writing
read_attribute (f by o) = do
  v ← read_operand o
  give (f ≔ v)
read_attribute S_S = do
  k ← read_text
  v ← read_text
  give (meta k v)
read_attribute S_F = do
  k ← read_text
  n ← read_bits
  give (metric k n)

-- fields by their operands, in order
unfoldable pub read_fields : List (Field × Operand) → Act (List Writing)
read_fields [] = give []
read_fields (f ∷ fs) = do
  v ← read_operand f.1
  ws ← read_fields fs
  give (f.0 ≔ v ∷ ws)

-- ---- writing it

-- the live span with this id
unfoldable pub live_span : ℕ → Act Span
live_span id = do
  found ← look (λ b. find id b.live)
  the found (span_not_found id)

-- one more writing to a live span, if its row has a place
unfoldable pub write_span : ℕ → Writing → Act (Unit {0})
write_span id w = do
  s ← live_span id
  _ ← ask (has_place span_text_limit span_number_limit (written s) w) (row_full id)
  change (λ b. with_live (put id (write w s) b.live) b)

-- one more writing to this segment, if its row has a place; none if it is gone
unfoldable pub write_found : ℕ → Writing → Option Segment → Act (Unit {0})
write_found id w None = give tt
write_found id w (Some g) = do
  _ ← ask (has_place segment_text_limit segment_number_limit g.since w) (row_full id)
  change (λ b. with_segments (put id (note w g) b.segments) b)

-- one more writing to the segment with this id
unfoldable pub write_segment : ℕ → Writing → Act (Unit {0})
write_segment id w = do
  found ← look (λ b. find id b.segments)
  write_found id w found

-- ---- making spans and segments

-- has the id a record already, or is one unused?
abbrev pub record_for : ℕ → Book → Bool
record_for id b = has (find id b.live) || nat_lt (length b.live + length b.handed) b.setup.spans

-- can this segment's count grow, or, where none stands, is a segment record unused?
abbrev pub segment_record_of : Option Segment → Book → Bool
segment_record_of (Some g) b = nat_lt (count g) most_count
segment_record_of None b = nat_lt (length b.segments) b.setup.segments

-- the same of the segment with this id
abbrev pub segment_record_for : ℕ → Book → Bool
segment_record_for id b = segment_record_of (find id b.segments) b

-- a segment that one more creation names: where none stood, a new one with nothing written
abbrev pub one_more : Option Segment → Segment
one_more (Some g) = record { created = suc g.created; charged = g.charged; since = g.since }
one_more None = record { created = 1; charged = 0; since = [] }

-- the default pairs as writings
abbrev pub default_writings : List (Text × Text) → List Writing
default_writings ps = reverse (map (λ p. meta p.0 p.1) ps)

-- a new span: its operands, and then the default pairs
abbrev pub made : ℕ → ℕ → List Writing → Book → Span
made id segment ws b = record { id = id; segment = segment; given = default_writings b.defaults ++ ws; since = [] }

-- the book with the span made, in place of a live one with its id, and its segment's count grown
abbrev pub created_in : ℕ → ℕ → List Writing → Book → Book
created_in id segment ws b =
    with_live (put id (made id segment ws b) b.live) (with_segments (put segment (one_more (find segment b.segments)) b.segments) b)

-- a create, once its operands are read
unfoldable pub make : ℕ → ℕ → List Writing → Act (Unit {0})
make id segment ws = do
  free ← look (record_for id)
  _ ← ask free (no_record id)
  room ← look (segment_record_for segment)
  _ ← ask room (no_segment_record segment)
  change (created_in id segment ws)

-- ---- an operation, and the whole buffer

-- one writing to a live span, read and written
unfoldable pub set_attribute : Attribute → ℕ → Act (Unit {0})
set_attribute a id = do
  w ← read_attribute a
  write_span id w

-- a create looks at the book after its last operand, every other operation wants its live span before the first
unfoldable pub perform : Operation → ℕ → Act (Unit {0})
perform (create fs) id = do
  t ← read 16
  s ← read 8
  p ← read 8
  ws ← read_fields fs
  make id s (trace ≔ word t ∷ parent ≔ word p ∷ ws)
perform (on_span a) id = do
  _ ← live_span id
  set_attribute a id
perform (on_segment a) id = do
  s ← live_span id
  w ← read_attribute a
  write_segment s.segment w
perform (batch a) id = do
  _ ← live_span id
  n ← read 4
  times n (set_attribute a id)

-- one operation: its opcode has to be known before its span id is read, and then come its operands
unfoldable pub operation : Act (Unit {0})
operation = do
  code ← read 2
  op ← the (find code table) (unknown_opcode code)
  id ← read 8
  perform op id

-- eight bytes of count, taken modulo 2^32, and then that many operations
unfoldable pub operations : Act (Unit {0})
operations = do
  n ← read 8
  times (n % 2 ^ 32) operation

-- the book and the answer
unfoldable pub flush : Book → List ℕ → Book × Answer
flush b bytes = settled (length bytes) (operations b bytes)

-- the buffer afterwards: its count is zero if the flush was accepted
abbrev pub buffer_after : Answer → List ℕ → List ℕ
buffer_after accepted bytes = replicate 8 0 ++ drop 8 bytes
buffer_after (refused r) bytes = bytes
buffer_after (shown x) bytes = bytes
