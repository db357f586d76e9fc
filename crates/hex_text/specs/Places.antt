-- Places in a text and faults there: the line and the column of a byte, and what is said of a fault.
use Rattle.std.specs.Prelude.{ℕ, ◌+◌, Bool, if◌then◌else◌, not, List, ◌∷◌, ◌++◌, take, codes, decimal, count_by, ◌==◌}
use Rattle.std.specs.Char.{is_ascii_graphic}
use Rattle.std.specs.List.{suffix_len}
use Rattle.hex_text.specs.declared.position.Position.{Position}
use Rattle.hex_text.specs.declared.error.HexError.{HexError}
use Rattle.hex_text.specs.declared.error.HexError.TheVariants.{Memory, Odd, Unknown}

-- a byte that ends a line
abbrev pub newline : ℕ → Bool
newline b = b == 10

-- one line more than newlines before the offset, one column more than bytes since the last of them
abbrev pub place : List ℕ → ℕ → Position
place text offset =
    record { line = 1 + count_by newline (take offset text); column = 1 + suffix_len (λ b. not (newline b)) (take offset text) }

-- a position in words
abbrev pub place_words : Position → List ℕ
place_words p = codes "line " ++ (decimal p.line ++ (codes ", column " ++ decimal p.column))

-- a fault in words
abbrev pub said : HexError → List ℕ
said (Odd p) = place_words p ++ codes ": a hexadecimal digit without its pair"
said (Unknown b p) =
    if is_ascii_graphic b then place_words p ++ (codes ": '" ++ (b ∷ codes "' is no hexadecimal digit")) else place_words p ++ (codes ": byte " ++ (decimal b ++ codes " is no hexadecimal digit"))
said Memory = codes "no memory for the bytes"
