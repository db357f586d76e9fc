-- What it means that an index holds the ids of some records and nothing else.
use Rattle.std.specs.Prelude.{◌≡◌, ℕ, List, Some, None, Option, slice_index_or}
use Rattle.index.specs.declared.entry.Entry.{Entry}
use Rattle.index.specs.Held.{at}

-- an id stands for a number if and only if it is the id of the record with that number
abbrev pub Holds : List Entry → (ℕ → Option ℕ) → Type 0
Holds es id-of =
    ((k n : ℕ) → at es k ≡ Some n → id-of n ≡ Some k) × ((k n : ℕ) → id-of n ≡ Some k → at es k ≡ Some n)

-- the id of a record by its place in a list, none past the end
abbrev pub placed : List (Option ℕ) → ℕ → Option ℕ
placed ids n = slice_index_or ids n None
