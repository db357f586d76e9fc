-- A trace id: the number of its 16 bytes as two 64-bit words.
use Rattle.std.specs.Prelude.{ℕ, ◌/◌, ◌%◌, ◌^◌}
use Rattle.layout.specs.declared.utils.TraceId.{TraceId}

-- the low word first
abbrev pub words : ℕ → TraceId
words n = record { low = n % 2 ^ 64; high = n / 2 ^ 64 }
