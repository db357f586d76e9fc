-- Hexadecimal text: the bytes that it says, or what is wrong with it and where.
use Rattle.std.specs.Prelude.{◌≡◌, ℕ, ◌+◌, ◌-◌, ◌*◌, Bool, if◌then◌else◌, ◌&&◌, ◌||◌, List, [], ◌∷◌, length, Ok, Err, vec_items, Result, Vec, ◌==◌, nat_le}
use Rattle.std.specs.declared.alloc.Global.{Global}
use Rattle.hex_text.specs.declared.error.HexError.{HexError}
use Rattle.hex_text.specs.declared.error.HexError.TheVariants.{Memory, Odd, Unknown}
use Rattle.hex_text.specs.declared.read.Mark.{Mark}
use Rattle.hex_text.specs.declared.read.Mark.TheVariants.{Blank, Digit, Hash, Newline, Other}
use Rattle.hex_text.specs.declared.read.Mode.{Mode}
use Rattle.hex_text.specs.declared.read.Mode.TheVariants.{Comment, First, Outside}
use Rattle.hex_text.specs.Places.{newline, place}

-- b is one of the bytes from low to high
abbrev among : ℕ → ℕ → ℕ → Bool
among low high b = nat_le low b && nat_le b high

-- what a byte is: the newline; space, tab and carriage return; '#'; '0' to '9', 'A' to 'F' and 'a' to 'f'
abbrev pub mark : ℕ → Mark
mark b =
    if newline b then Newline else if b == 32 || (b == 9 || b == 13) then Blank else if b == 35 then Hash else if among 48 57 b then Digit (b - 48) else if among 65 70 b then Digit (b - 65 + 10) else if among 97 102 b then Digit (b - 97 + 10) else Other

-- what a text says: bytes, or a digit alone, or an unknown byte, with the number of bytes from there to the text's end
pub data Saying : Type 0 where
  bytes : List ℕ → Saying
  odd : ℕ → Saying
  unknown : ℕ → ℕ → Saying

-- one byte more in front
abbrev pub before : ℕ → Saying → Saying
before b (bytes bs) = bytes (b ∷ bs)
before b (odd left) = odd left
before b (unknown c left) = unknown c left

-- what the rest of a text says to a reader who stands outside of a byte, in a comment, or after a first digit
abbrev pub reading : Mode → List ℕ → Saying
reading Outside [] = bytes []
reading Comment [] = bytes []
reading (First high) [] = odd 1
reading Outside (b ∷ text) =
    elim (mark b) [
      | Blank ↦ reading Outside text
      | Newline ↦ reading Outside text
      | Hash ↦ reading Comment text
      | Digit high ↦ reading (First high) text
      | Other ↦ unknown b (1 + length text)
    ]
reading Comment (b ∷ text) = if newline b then reading Outside text else reading Comment text
reading (First high) (b ∷ text) =
    elim (mark b) [
      | Blank ↦ odd (2 + length text)
      | Newline ↦ odd (2 + length text)
      | Hash ↦ odd (2 + length text)
      | Digit low ↦ before (16 * high + low) (reading Outside text)
      | Other ↦ odd (2 + length text)
    ]

-- a fault is the text's own, at its line and column
abbrev pub Faults : List ℕ → HexError → Type 0
Faults text (Odd p) = (left : ℕ) × (reading Outside text ≡ odd left) × (p ≡ place text (length text - left))
Faults text (Unknown b p) = (left : ℕ) × (reading Outside text ≡ unknown b left) × (p ≡ place text (length text - left))
Faults text Memory = Unit {0}

-- the answer is what the text says
abbrev pub Reads : List ℕ → Result (Vec ℕ Global) HexError → Type 0
Reads text (Ok v) = reading Outside text ≡ bytes (vec_items v)
Reads text (Err e) = Faults text e
