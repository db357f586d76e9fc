-- Worked trips on the plain book.
use Rattle.std.specs.Prelude.{◌≡◌, ℕ, true, List, [], ◌∷◌, ◌++◌, length, take, replicate, None, codes}
use Rattle.vec_map.specs.Worked.{Worked as Worked-row}
use Rattle.small_index.specs.Standing.{Worked as Worked-index}
use Rattle.book.specs.Maps.{find}
use Rattle.book.specs.Book.{Book, new_book}
use Rattle.book.specs.Refusals.{told_answer, accepted}
use Rattle.book.specs.Flush.{flush, buffer_after}
use Rattle.book.specs.Counting.{count_in}
use Rattle.book.specs.Calls.{Call, change_buffer, flush_chunk, run, answers}

-- a number below 256 in two little-endian bytes
abbrev pub u16 : ℕ → List ℕ
u16 n = n ∷ replicate 1 0

-- the same in four
abbrev pub u32 : ℕ → List ℕ
u32 n = n ∷ replicate 3 0

-- and in eight
abbrev pub u64 : ℕ → List ℕ
u64 n = n ∷ replicate 7 0

-- a small recorder, just set up
abbrev pub small : Book
small = new_book (record { service = codes "belt"; language = codes "rust"; pid = 7; spans = 4; segments = 2; strings = 8 })

-- the bytes of a Create
abbrev pub create_bytes : (id segment : ℕ) → List ℕ
create_bytes id segment = u16 0 ++ u64 id ++ replicate 16 0 ++ u64 segment ++ u64 0

-- a count of 2^32 is no operation at all: accepted, the book as it was, and the count zeroed
abbrev pub CountPast : Type 0
CountPast =
    (b : Book) (rest : List ℕ) →
    let bytes : List ℕ = u32 0 ++ u32 1 ++ rest in
    (flush b bytes ≡ (b, accepted)) × (buffer_after (flush b bytes).1 bytes ≡ replicate 8 0 ++ rest)

-- one create takes 50 bytes with its count; with the last byte missing, the read of its parent is refused
abbrev pub OneCreate : Type 0
OneCreate =
    let bytes : List ℕ = u64 1 ++ create_bytes 5 1 in
    (length bytes ≡ 50) × ((flush small bytes).1 ≡ accepted) × (told_answer (flush small (take 49 bytes)).1 ≡ (8, 42 ∷ 8 ∷ 49 ∷ []))

-- an error for span 9, which is not live: refused before any operand is missed, and the book as it was
abbrev pub NotLive : Type 0
NotLive =
    (b : Book) → find 9 b.live ≡ None →
    let bytes : List ℕ = u64 1 ++ u16 5 ++ u64 9 in
    (length bytes ≡ 18) × ((flush b bytes).0 ≡ b) × (told_answer (flush b bytes).1 ≡ (7, 9 ∷ []))

-- span 5 is made twice in segment 1 and handed out once: the segment stands, with count 1
abbrev pub CreatedTwice : Type 0
CreatedTwice =
    let calls : List Call = change_buffer (u64 2 ++ create_bytes 5 1 ++ create_bytes 5 1) ∷ flush_chunk (5 ∷ []) true 1 (0 ∷ []) ∷ [] in
    (answers calls small ≡ accepted ∷ accepted ∷ []) × (count_in 1 (run calls small).segments ≡ 1)

-- span 5 of segment 1 and span 6 of segment 2 in one chunk: segment 1 takes the whole charge and goes, segment 2 keeps its count
abbrev pub TwoSegments : Type 0
TwoSegments =
    let calls : List Call = change_buffer (u64 2 ++ create_bytes 5 1 ++ create_bytes 6 2) ∷ flush_chunk (5 ∷ 6 ∷ []) true 2 (0 ∷ 1 ∷ []) ∷ [] in
    (answers calls small ≡ accepted ∷ accepted ∷ []) × (find 1 (run calls small).segments ≡ None) × (count_in 2 (run calls small).segments ≡ 1)

-- all of them
-- all seven: these, the worked row of pairs, and the worked small index
abbrev pub WorkedTrips : Type 0
WorkedTrips = CountPast × OneCreate × NotLive × Worked-row × Worked-index × CreatedTwice × TwoSegments
