-- Numbers in bytes: the little-endian number of a list of bytes.
use Rattle.std.specs.Prelude.{ℕ, ◌+◌, ◌*◌, List, [], ◌∷◌}

-- the little-endian number of bytes, the first byte the lowest; bytes that are not there count as 0
abbrev pub le : List ℕ → ℕ
le [] = 0
le (b ∷ bs) = b + 256 * le bs
