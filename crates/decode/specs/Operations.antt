-- Operations: their bytes and operands, what a read of one answers, and what a whole buffer holds.
use Rattle.std.specs.Prelude.{◌≡◌, ℕ, ◌+◌, ◌%◌, ◌^◌, ◌<◌, ◌≤◌, ◌⊎◌, List, [], ◌∷◌, ◌++◌, map, length, Ok, Err, vec_items, Result}
use Rattle.refusals.specs.declared.ChangeBufferError.{ChangeBufferError}
use Rattle.layout.specs.declared.operation.OpCode.{OpCode}
use Rattle.layout.specs.OpCodes.{code}
use Rattle.layout.specs.Reads.{Misses, ReadsOperation, number_at}
use Rattle.decode.specs.declared.error.DecodeError.{DecodeError}
use Rattle.decode.specs.declared.error.DecodeError.TheVariants as faults
use Rattle.decode.specs.declared.listing.Listing.{Listing}
use Rattle.decode.specs.declared.operand.Operand.{Operand}
use Rattle.decode.specs.declared.operation.Operation.{Operation}
use Rattle.decode.specs.Operands.{field, little}
use Rattle.decode.specs.Runs.{Stand, Stops, asked, operands_bytes}
use Rattle.decode.specs.Table.{table}

-- an operation begins with its opcode, two bytes, and its span's id, eight
abbrev pub head_bytes : OpCode → ℕ → List ℕ
head_bytes opcode span = little 2 (code opcode) ++ little 8 span

-- the operands of an operation
abbrev pub operands_of : Operation → List Operand
operands_of operation = vec_items operation.operands

-- an operation as bytes
abbrev pub bytes_of : Operation → List ℕ
bytes_of operation = head_bytes operation.opcode operation.span_id ++ operands_bytes (operands_of operation)

-- an operation is what stands in the buffer from one place to another, with the operands that the table asks for
pub record Decoded (buffer : List ℕ) (from to : ℕ) (operation : Operation) : Type 0 where
  pub place : operation.offset ≡ from
  pub stand : Stand buffer from to (bytes_of operation)
  pub named : map field (operands_of operation) ≡ asked (table operation.opcode) (operands_of operation)

-- an operation breaks off at an operand that does not fit
pub record Breaks (buffer : List ℕ) (from to : ℕ) (e : ChangeBufferError) : Type 0 where
  pub opcode : OpCode
  pub span : ℕ
  pub stand : Stand buffer from (from + 10) (head_bytes opcode span)
  pub stops : Stops (asked (table opcode)) buffer (from + 10) to e

-- a refusal: of the beginning, or of an operand
abbrev pub Refuses : List ℕ → ℕ → ℕ → ChangeBufferError → Type 0
Refuses buffer from to e = ReadsOperation buffer from to (Err e) ⊎ Breaks buffer from to e

-- a fault: the refusal that comes there, or no memory
abbrev pub Faults : List ℕ → ℕ → ℕ → DecodeError → Type 0
Faults buffer from to (faults.Refused e) = Refuses buffer from to e
Faults buffer from to faults.Memory = Unit {0}

-- what a read of an operation answers
abbrev pub Decodes : List ℕ → ℕ → ℕ → Result Operation DecodeError → Type 0
Decodes buffer from to (Ok operation) = Decoded buffer from to operation
Decodes buffer from to (Err e) = Faults buffer from to e

-- operations that stand one after another
abbrev pub Follow : List ℕ → ℕ → List Operation → ℕ → Type 0
Follow buffer place [] end = place ≡ end
Follow buffer place (o ∷ operations) end = (after : ℕ) × Decoded buffer place after o × Follow buffer after operations end

-- after the operations up to a place: all were read and so many bytes are left, or the next is refused
abbrev pub Ends : List ℕ → ℕ → ℕ → ℕ → Result ℕ ChangeBufferError → Type 0
Ends buffer place done count (Ok rest) = (done ≡ count) × (place + rest ≡ length buffer)
Ends buffer place done count (Err e) = (done < count) × ((to : ℕ) × Refuses buffer place to e)

-- the count that is used, the low half of the first eight bytes; the operations from byte 8 on; how they end
pub record Listed (buffer : List ℕ) (listing : Listing) : Type 0 where
  pub some : 8 ≤ length buffer
  pub counts : listing.count ≡ number_at 8 buffer 0 % 2 ^ 32
  pub end : ℕ
  pub follow : Follow buffer 8 (vec_items listing.operations) end
  pub ends : Ends buffer end (length (vec_items listing.operations)) listing.count listing.ending

-- a buffer without a count is refused
abbrev pub Uncounted : List ℕ → DecodeError → Type 0
Uncounted buffer (faults.Refused e) = Misses 8 buffer 0 0 e
Uncounted buffer faults.Memory = Unit {0}

-- what a read of a whole buffer answers
abbrev pub Lists : List ℕ → Result Listing DecodeError → Type 0
Lists buffer (Ok listing) = Listed buffer listing
Lists buffer (Err e) = Uncounted buffer e
