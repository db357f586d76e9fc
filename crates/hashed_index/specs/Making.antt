-- How many places a hashed index may have, and why one was not made.
use Rattle.std.specs.Prelude.{ℕ, Bool, if◌then◌else◌, ◌&&◌, List, [], nat_le, nat_lt}
use Rattle.hashed_index.specs.declared.hashed.MakeError.{MakeError}
use Rattle.hashed_index.specs.declared.hashed.MakeError.TheVariants.{Places, Memory}

-- from 1 to 65,536 places
abbrev pub in_range : ℕ → Bool
in_range n = nat_lt 0 n && nat_le n 65536

-- a refusal's number and its values: lengths and capacities are 1, and want of memory has no number of its own
abbrev pub told : MakeError → ℕ × List ℕ
told Places = (1, [])
told Memory = (0, [])

-- the refusal of n places: of their number, or else for want of memory
abbrev pub wanting : ℕ → ℕ × List ℕ
wanting n = if in_range n then (0, []) else (1, [])
