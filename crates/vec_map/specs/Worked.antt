-- A worked case: rows a=1, b=2, a=3, then without repeats, then c=4 and again without repeats.
use Rattle.std.specs.Prelude.{◌≡◌, ℕ, false, List, [], ◌∷◌, replicate, Some, codes}
use Rattle.std.specs.Str.{bytes_eq}
use Rattle.vec_map.specs.Rows.{Row, items, last_value, insert_row, dedup_row}

-- an empty row of eight places
abbrev pub empty_row : Row (List ℕ) ℕ
empty_row = record { room = replicate 8 ([], 0); len = 0; deduped = false }

-- a=1, b=2, a=3
unfoldable pub three : Row (List ℕ) ℕ
three = insert_row (insert_row (insert_row empty_row (codes "a") 1) (codes "b") 2) (codes "a") 3

abbrev pub Worked : Type 0
Worked =
    (last_value bytes_eq (codes "a") (items three) ≡ Some 3)
    × (three.len ≡ 3)
    × (items (dedup_row bytes_eq three) ≡ (codes "a", 3) ∷ (codes "b", 2) ∷ [])
    × (items (dedup_row bytes_eq (insert_row (dedup_row bytes_eq three) (codes "c") 4)) ≡ (codes "c", 4) ∷ (codes "b", 2) ∷ (codes "a", 3) ∷ [])
