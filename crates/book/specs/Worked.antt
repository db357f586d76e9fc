-- More that is worked by hand on the plain book: every opcode once, a chunk with its tags, and a cut.
use Rattle.std.specs.Prelude.{◌≡◌, ℕ, ◌+◌, ◌^◌, true, List, [], ◌∷◌, ◌++◌, map, replicate, pos, negsuc, Some, None, codes, Option, from_bits, Float}
use Rattle.std.specs.Float.{binary64}
use Rattle.book.specs.Maps.{find}
use Rattle.book.specs.Book.{trace, parent, service, name, resource, type, start, duration, error, origin, Value, text, word, int, texts, numbers, Segment, shows, segment_shows, count, Text, Span, span_texts, span_numbers, Book}
use Rattle.book.specs.Cut.{Cut}
use Rattle.book.specs.Calls.{Call, string_insert, decisions, change_buffer, flush_chunk, run}
use Rattle.book.specs.Trips.{u16, u32, u64, small, create_bytes}

-- ---- every opcode once

-- an operation's bytes
abbrev pub op : (code id : ℕ) → (operands : List ℕ) → List ℕ
op code id operands = u16 code ++ u64 id ++ operands

-- trace 3 + 2^64, segment 1, parent 4
abbrev pub made_by : List ℕ
made_by = (u64 3 ++ u64 1) ++ u64 1 ++ u64 4

-- strings 0 to 5
abbrev pub letters : List Call
letters =
    string_insert 0 (codes "a") ∷ string_insert 1 (codes "b") ∷ string_insert 2 (codes "c") ∷ string_insert 3 (codes "d")
    ∷ string_insert 4 (codes "e") ∷ string_insert 5 (codes "f") ∷ []

-- three spans are made, in the three ways, and the first is written to, and its segment
abbrev pub every_opcode : List ℕ
every_opcode =
    u64 17
    ++ op 13 5 (made_by ++ u32 0 ++ u64 10)
    ++ op 1 5 (u32 0 ++ u32 1)
    ++ op 2 5 (u32 1 ++ replicate 8 255)
    ++ op 3 5 (u32 1)
    ++ op 4 5 (u32 2)
    ++ op 5 5 (254 ∷ replicate 3 255)
    ++ op 6 5 (u64 11)
    ++ op 7 5 (replicate 8 255)
    ++ op 8 5 (u32 3)
    ++ op 9 5 (u32 4)
    ++ op 10 5 (u32 2 ++ u32 3)
    ++ op 11 5 (u32 4 ++ replicate 6 0 ++ 240 ∷ 63 ∷ [])
    ++ op 12 5 (u32 5)
    ++ op 15 5 (u32 2 ++ (u32 2 ++ u32 3) ++ (u32 0 ++ u32 5))
    ++ op 16 5 (u32 1 ++ (u32 3 ++ replicate 7 0 ++ 128 ∷ []))
    ++ op 14 6 (made_by ++ u32 0 ++ u32 1 ++ u32 2 ++ u32 3 ++ u64 12)
    ++ op 0 7 made_by

-- the fields of a span: trace, parent, service, name, resource, type, start, duration, error
abbrev pub fields_of : Span → List Value
fields_of s = map (shows s) (trace ∷ parent ∷ service ∷ name ∷ resource ∷ type ∷ start ∷ duration ∷ error ∷ [])

-- what the three spans and their segment then show; the not-a-number has its one pattern, and -0.0 its own
abbrev pub WorkedOperations : Type 0
WorkedOperations =
    let b : Book = run (letters ++ change_buffer every_opcode ∷ []) small in
    let ids : List Value = word (2 ^ 64 + 3) ∷ word 4 ∷ [] in
    ((s : Span) × (find 5 b.live ≡ Some s)
    × (fields_of s ≡ ids ++ text (codes "b") ∷ text (codes "e") ∷ text (codes "c") ∷ text (codes "d") ∷ int (pos 11) ∷ int (negsuc 0) ∷ int (negsuc 1) ∷ [])
    × (span_texts s ≡ (codes "a", codes "b") ∷ (codes "c", codes "d") ∷ (codes "a", codes "f") ∷ [])
    × (span_numbers s ≡ (codes "b", 0x7FF8_0000_0000_0000) ∷ (codes "d", 0x8000_0000_0000_0000) ∷ []))
    × ((s : Span) × (find 6 b.live ≡ Some s)
    × (fields_of s ≡ ids ++ text (codes "b") ∷ text (codes "a") ∷ text (codes "c") ∷ text (codes "d") ∷ int (pos 12) ∷ int (pos 0) ∷ int (pos 0) ∷ []))
    × ((s : Span) × (find 7 b.live ≡ Some s)
    × (fields_of s ≡ ids ++ text [] ∷ text [] ∷ text [] ∷ text [] ∷ int (pos 0) ∷ int (pos 0) ∷ int (pos 0) ∷ []))
    × ((g : Segment) × (find 1 b.segments ≡ Some g) × (count g ≡ 3)
    × (segment_shows g origin ≡ text (codes "f")) × (texts g.since ≡ (codes "c", codes "d") ∷ []) × (numbers g.since ≡ (codes "e", 0x3FF0_0000_0000_0000) ∷ []))

-- ---- a worked chunk

-- a decision of one half
abbrev pub one_half : Option Float
one_half = Some (from_bits binary64 0x3FE0_0000_0000_0000)

-- a span with kind `internal`, in a segment with kind `server`, an origin and two decisions, is handed out as a local root under number 3
abbrev pub worked_calls : List Call
worked_calls =
    string_insert 0 (codes "kind") ∷ string_insert 1 (codes "internal") ∷ string_insert 2 (codes "server") ∷ string_insert 3 (codes "lab")
    ∷ change_buffer (u64 4 ++ create_bytes 5 1 ++ (u16 1 ++ u64 5 ++ u32 0 ++ u32 1) ++ (u16 10 ++ u64 5 ++ u32 0 ++ u32 2) ++ (u16 12 ++ u64 5 ++ u32 3))
    ∷ decisions 1 one_half None one_half
    ∷ flush_chunk (5 ∷ []) true 1 (3 ∷ [])
    ∷ []

-- its text pairs: its own, the segment's, and the tags of every span
abbrev pub worked_texts : List (Text × Text)
worked_texts =
    (codes "kind", codes "internal")
    ∷ (codes "kind", codes "server")
    ∷ (codes "_dd.base_service", codes "belt") ∷ (codes "language", codes "rust") ∷ (codes "_dd.origin", codes "lab")
    ∷ []

-- its number pairs: the decisions present, the top level 1.0, measured 1.0 by the segment's kind, and the process id 7.0
abbrev pub worked_numbers : List (Text × ℕ)
worked_numbers =
    (codes "_dd.rule_psr", 0x3FE0_0000_0000_0000) ∷ (codes "_dd.agent_psr", 0x3FE0_0000_0000_0000)
    ∷ (codes "_dd.top_level", 0x3FF0_0000_0000_0000)
    ∷ (codes "_dd.measured", 0x3FF0_0000_0000_0000)
    ∷ (codes "process_id", 0x401C_0000_0000_0000)
    ∷ []

-- the span is handed out with these and its id; it is live no more, and its segment is gone
abbrev pub WorkedChunk : Type 0
WorkedChunk =
    let b : Book = run worked_calls small in
    ((s : Span) × (find 3 b.handed ≡ Some s) × (s.id ≡ 5) × (span_texts s ≡ worked_texts) × (span_numbers s ≡ worked_numbers))
    × (find 5 b.live ≡ None) × (find 1 b.segments ≡ None)

-- ---- a worked cut

-- two creates, cut into a part with the first, a part with nothing, and a part with the second
abbrev pub WorkedCut : Type 0
WorkedCut =
    let first : List ℕ = create_bytes 5 1 in
    let second : List ℕ = create_bytes 6 1 in
    Cut (u64 2 ++ (first ++ second)) ((u64 1 ++ first) ∷ u64 0 ∷ (u64 1 ++ second) ∷ [])
