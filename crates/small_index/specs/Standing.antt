-- What stands in a small index, place by place, and how a put and a removal change it.
use Rattle.std.specs.Prelude.{◌≡◌, ℕ, if◌then◌else◌, List, [], ◌∷◌, length, take, Some, None, Option, ◌==◌, slice_index_or}
use Rattle.index.specs.declared.entry.Entry.{Entry}
use Rattle.index.specs.Held.{blank}

-- the first, and then the list, of whose places n are taken
abbrev pub standing : Option Entry → List Entry → ℕ → List Entry
standing None es n = take n es
standing (Some e) es n = e ∷ take n es

-- a put leaves the entry in the place of the one with its id, or else at the end
abbrev pub puts : List Entry → Entry → List Entry
puts [] e = e ∷ []
puts (x ∷ es) e = if x.id == e.id then e ∷ es else x ∷ puts es e

-- the last, and then the others
abbrev pub last_first : List Entry → List Entry
last_first [] = []
last_first (y ∷ ys) = slice_index_or (y ∷ ys) (length ys) blank ∷ take (length ys) (y ∷ ys)

-- a removal leaves the last in the place of the one with that id
abbrev pub outs : List Entry → ℕ → List Entry
outs [] k = []
outs (x ∷ es) k = if x.id == k then last_first es else x ∷ outs es k

-- an id with its number
abbrev entry : ℕ → ℕ → Entry
entry k n = record { id = k; number = n }

-- where 1, 2 and 3 are put and 1 is removed, 3 stands first, and 2 after it
abbrev pub Worked : Type 0
Worked = (a b c : ℕ) → outs (puts (puts (puts [] (entry 1 a)) (entry 2 b)) (entry 3 c)) 1 ≡ entry 3 c ∷ entry 2 b ∷ []
