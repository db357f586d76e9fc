-- The texts that a person may write for some bytes, and the plain one.
use Rattle.std.specs.Prelude.{◌≡◌, ℕ, ◌+◌, ◌*◌, ◌/◌, ◌%◌, ◌<◌, false, if◌then◌else◌, ◌⊎◌, List, [], ◌∷◌, ◌++◌, Ok, Err, vec_items, Result, Vec, nat_lt}
use Rattle.std.specs.declared.alloc.Global.{Global}
use Rattle.hex_text.specs.declared.error.HexError.{HexError}
use Rattle.hex_text.specs.declared.error.HexError.TheVariants.{Memory}
use Rattle.hex_text.specs.declared.read.Mark.TheVariants.{Blank, Digit, Newline}
use Rattle.hex_text.specs.Places.{newline}
use Rattle.hex_text.specs.Texts.{mark}

-- words without a newline
abbrev pub OneLine : List ℕ → Type 0
OneLine [] = Unit {0}
OneLine (b ∷ words) = (newline b ≡ false) × OneLine words

-- a text for bytes: nothing; a blank and a text; a comment line and a text; a comment that ends the text; two digits and a text
pub data Says : List ℕ → List ℕ → Type 0 where
  nothing : Says [] []
  blank : {text bs : List ℕ} (b : ℕ) → (mark b ≡ Blank) ⊎ (mark b ≡ Newline) → Says text bs → Says (b ∷ text) bs
  comment : {text bs : List ℕ} (words : List ℕ) → OneLine words → Says text bs → Says (35 ∷ (words ++ 10 ∷ text)) bs
  remark : (words : List ℕ) → OneLine words → Says (35 ∷ words) []
  byte : {text bs : List ℕ} (a b high low : ℕ) → mark a ≡ Digit high → mark b ≡ Digit low → Says text bs → Says (a ∷ b ∷ text) ((16 * high + low) ∷ bs)

-- the digit of a number below 16
abbrev pub digit : ℕ → ℕ
digit n = if nat_lt n 10 then 48 + n else 87 + n

-- two digits for each byte
abbrev pub written : List ℕ → List ℕ
written [] = []
written (b ∷ bs) = digit (b / 16) ∷ digit (b % 16) ∷ written bs

-- each is a byte
abbrev pub Bytes : List ℕ → Type 0
Bytes [] = Unit {0}
Bytes (b ∷ bs) = (b < 256) × Bytes bs

-- the answer is these bytes, unless there is no memory for them
abbrev pub Gives : List ℕ → Result (Vec ℕ Global) HexError → Type 0
Gives bs (Ok v) = vec_items v ≡ bs
Gives bs (Err e) = e ≡ Memory
