-- Floats by their bits: one pattern for every not-a-number, and zeros that differ.
use Rattle.std.specs.Prelude.{◌≡◌, ℕ, true, from_bits, to_bits}
use Rattle.std.specs.Float.Ieee.{nan_bits}
use Rattle.std.specs.Float.{binary64}

-- the bits as they are stored
abbrev pub stored : ℕ → ℕ
stored bits = to_bits binary64 (from_bits binary64 bits)

abbrev pub Patterns : Type 0
Patterns =
    ((bits : ℕ) → nan_bits binary64 bits ≡ true → stored bits ≡ 0x7ff8_0000_0000_0000)
    × (stored 0 ≡ 0)
    × (stored 0x8000_0000_0000_0000 ≡ 0x8000_0000_0000_0000)
