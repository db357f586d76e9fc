-- Faults in words.
use Rattle.std.specs.Prelude.{ℕ, List, ◌++◌, codes}
use Rattle.refusals.specs.Told.{said}
use Rattle.decode.specs.declared.error.DecodeError.{DecodeError}
use Rattle.decode.specs.declared.error.DecodeError.TheVariants.{Memory, Refused}

-- the refusal of the buffer, or want of memory
abbrev pub fault_words : DecodeError → List ℕ
fault_words (Refused e) = codes "refused: " ++ said e
fault_words Memory = codes "no memory for the operations"
