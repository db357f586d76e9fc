-- A refusal's number and its values.
use Rattle.std.specs.Prelude.{ℕ, List, []}
use Rattle.index.specs.declared.entry.Full.{Full}

-- a put that finds no place: 14, with no values
abbrev pub told : Full → ℕ × List ℕ
told f = (14, [])
