-- Creates and charges move a segment's count.
use Rattle.std.specs.Prelude.{◌≡◌, ℕ, suc, ◌-◌, ◌≤◌, List, Some, None, Option, ◌≢◌}
use Rattle.book.specs.Maps.{Map, find, Each}
use Rattle.book.specs.Book.{Writing, Segment, count, Book}
use Rattle.book.specs.Flush.{created_in}
use Rattle.book.specs.Chunk.{charge}

-- a segment's count, 0 where none stands
abbrev pub count_of : Option Segment → ℕ
count_of None = 0
count_of (Some g) = count g

-- the count under an id
abbrev pub count_in : ℕ → Map Segment → ℕ
count_in id m = count_of (find id m)

-- no more is charged than was created
abbrev pub Covered : Map Segment → Type 0
Covered m = Each (λ id g. g.charged ≤ g.created) m

-- how a create and a charge move counts
pub record Counts_move : Type 0 where
  -- a create adds one to the count of the segment that it names, and to no other
  pub create : (id s : ℕ) (ws : List Writing) (b : Book) → Covered b.segments → count_in s (created_in id s ws b).segments ≡ suc (count_in s b.segments)
  pub create_other : (id s q : ℕ) (ws : List Writing) (b : Book) → (q ≢ s) → find q (created_in id s ws b).segments ≡ find q b.segments
  -- a charge of n takes n off, a count at most n becoming 0: the segment is gone
  pub charge_takes : (n s : ℕ) (m : Map Segment) → count_in s (charge n s m) ≡ count_in s m - n
  pub charge_ends : (n s : ℕ) (m : Map Segment) → count_in s m ≤ n → find s (charge n s m) ≡ None
  pub charge_other : (n s q : ℕ) (m : Map Segment) → (q ≢ s) → find q (charge n s m) ≡ find q m
