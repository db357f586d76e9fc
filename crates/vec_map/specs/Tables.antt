-- A flat table of rows of one width: one row of it with its count and mark, and the table and the row after a change of that row.
use Rattle.std.specs.Prelude.{◌≡◌, ℕ, ◌+◌, ◌*◌, Bool, if◌then◌else◌, List, ◌++◌, length, take, drop, ◌≢◌, nat_le}
use Rattle.vec_map.specs.declared.head.Head.{Head}
use Rattle.vec_map.specs.Rows.{Row}

-- a row's memory with its count and mark
abbrev pub headed : {K V : Type 0} → List (K × V) → Head → Row K V
headed xs h = record { room = xs; len = h.count; deduped = h.deduped }

-- row k of a table whose rows are w long
abbrev pub row : {X : Type 0} → ℕ → ℕ → List X → List X
row w k xs = take w (drop (k * w) xs)

-- the table with another row k
abbrev pub with_row : {X : Type 0} → ℕ → ℕ → List X → List X → List X
with_row w k xs ys = take (k * w) xs ++ (ys ++ drop (k * w + w) xs)

-- row k lies wholly in the table
abbrev pub in_table : {X : Type 0} → ℕ → ℕ → List X → Bool
in_table w k xs = nat_le (k * w + w) (length xs)

-- the table after a change of row k; as it was where the row is not in it
abbrev pub changed : {K V : Type 0} → (Row K V → Row K V) → ℕ → ℕ → List (K × V) → Head → List (K × V)
changed f w k xs h = if in_table w k xs then with_row w k xs (f (headed (row w k xs) h)).room else xs

-- row k after the change; as it was where it is not in the table
abbrev pub changed_row : {K V : Type 0} → (Row K V → Row K V) → ℕ → ℕ → List (K × V) → Head → Row K V
changed_row f w k xs h = if in_table w k xs then f (headed (row w k xs) h) else headed (row w k xs) h

-- every row but k is as before
abbrev pub OthersStay : {X : Type 0} → ℕ → ℕ → List X → List X → Type 0
OthersStay w k before after = (j : ℕ) → (j ≢ k) → row w j after ≡ row w j before
