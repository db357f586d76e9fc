-- The worked trips, operations, chunk and cut, by computation.
use Rattle.std.proofs.Common.{◌≡◌, ℕ, List, [], ◌++◌, refl, ap}
use lib.Ieee.{of_bits, of_int, to_bits}
use Rattle.vec_map.specs.Rows.{insert_row}
use Rattle.vec_map.specs.Worked.{three, Worked as Worked-row}
use Rattle.small_index.specs.Standing.{Worked as Worked-index}
use Rattle.book.specs.Book.{Book}
use Rattle.book.specs.Refusals.{Answer, accepted}
use Rattle.book.specs.Actions.{◌>>=◌, give, look, change, the, ask, times, read}
use Rattle.book.specs.Flush.{create, read_text, read_bits, read_operand, read_attribute, read_fields, live_span, write_span, write_found, write_segment, make, set_attribute, perform, operation, operations, flush, buffer_after}
use Rattle.book.specs.Trips.{u32, u64, create_bytes, CountPast, OneCreate, NotLive, CreatedTwice, TwoSegments, WorkedTrips}
use Rattle.book.specs.Worked.{WorkedOperations, WorkedChunk, WorkedCut}
use Rattle.book.specs.Cut.{Wholes, none, more, last, part, cut}
use Rattle.book.proofs.Cuts.{flush-counted}

-- all of a flush, open
flush_open : Book → Book
unfolding flush operations operation perform set_attribute make write_segment write_found write_span live_span read_fields read_attribute read_operand read_bits read_text read times ask the change look give ◌>>=◌ of_int to_bits
flush_open b = b

-- the count is read whole, whatever follows it
count_past : CountPast
unfolding times give
count_past b rest =
    let bytes : List ℕ = u32 0 ++ u32 1 ++ rest in
    let e : flush b bytes ≡ (b, accepted) = flush-counted 0 (u32 0 ++ u32 1) rest b refl refl in
    (e, ap (λ (o : Book × Answer). buffer_after o.1 bytes) e)

one-create : OneCreate
unfolding flush_open
one-create = (refl, refl, refl)

not_live : NotLive
unfolding flush_open
not_live b e = (refl, rw e, rw e)

created_twice : CreatedTwice
unfolding flush_open
created_twice = (refl, refl)

two_segments : TwoSegments
unfolding flush_open
two_segments = (refl, refl, refl)

worked_row : Worked-row
unfolding insert_row three
worked_row = (refl, refl, refl, refl)

worked_index : Worked-index
worked_index a b c = refl

pub worked_trips : WorkedTrips
worked_trips = (count_past, one-create, not_live, worked_row, worked_index, created_twice, two_segments)

pub worked_operations : WorkedOperations
unfolding flush_open of_bits
worked_operations = ((_, refl, refl, refl, refl), (_, refl, refl), (_, refl, refl), (_, refl, refl, refl, refl, refl))

pub worked_chunk : WorkedChunk
unfolding flush_open of_bits
worked_chunk = ((_, refl, refl, refl, refl), refl, refl)

-- ---- the cut, part by part

one-whole : (id : ℕ) → Wholes 1 (create_bytes id 1)
one-whole id = more (create_bytes id 1) [] (record { op = create []; known = refl; long = refl }) none

pub worked_cut : WorkedCut
worked_cut =
    cut (u64 2) (create_bytes 5 1 ++ create_bytes 6 1) refl
    (part {k = 1} {n = 1} (u64 1) (create_bytes 5 1) (record { eight = refl; upper = refl; used = refl }) (one-whole 5)
    (part {k = 0} {n = 1} (u64 0) [] (record { eight = refl; upper = refl; used = refl }) none
    (last {n = 1} (u64 1) (create_bytes 6 1) (record { eight = refl; upper = refl; used = refl }))))
