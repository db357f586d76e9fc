-- One step of a reader: how it goes on with the rest of a text, and what it knows there.
use Rattle.std.specs.Prelude.{◌≡◌, ℕ, ◌+◌, ◌<◌, List, length}
use Rattle.hex_text.specs.declared.read.Mode.{Mode}
use Rattle.hex_text.specs.declared.read.Mode.TheVariants.{Comment, First, Outside}
use Rattle.hex_text.specs.declared.read.Step.{Step}
use Rattle.hex_text.specs.declared.read.Step.TheVariants.{Byte, Odd, To, Unknown}
use Rattle.hex_text.specs.Texts.{Saying, before, odd, reading, unknown}

-- what the text from a byte on says after a step there
abbrev pub goes : Step → ℕ → List ℕ → Saying
goes (To mode) b rest = reading mode rest
goes (Byte value) b rest = before value (reading Outside rest)
goes Odd b rest = odd (2 + length rest)
goes Unknown b rest = unknown b (1 + length rest)

-- how many digits of a byte were read
abbrev pub digits : Mode → ℕ
digits Outside = 0
digits Comment = 0
digits (First high) = 1

-- a first digit is below 16
abbrev pub Small : Mode → Type 0
Small Outside = Unit {0}
Small Comment = Unit {0}
Small (First high) = high < 16

-- a step goes to a first digit below 16, and finds a digit alone only after one
abbrev pub Sound : Mode → Step → Type 0
Sound mode (To next) = Small next
Sound mode (Byte value) = Unit {0}
Sound mode Odd = digits mode ≡ 1
Sound mode Unknown = Unit {0}
