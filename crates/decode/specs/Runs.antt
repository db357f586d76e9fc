-- Operands as they are read: by the table, one after another, up to one that does not fit.
use Rattle.std.specs.Prelude.{◌≡◌, ℕ, zero, suc, ◌<◌, ◌≤◌, Bool, true, false, List, [], ◌∷◌, ◌++◌, map, length, Ok, Err, vec_items, Result, Vec, slice_index}
use Rattle.std.specs.List.{between, flat_map}
use Rattle.std.specs.declared.alloc.Global.{Global}
use Rattle.refusals.specs.declared.ChangeBufferError.{ChangeBufferError}
use Rattle.layout.specs.declared.operation.OpCode.{OpCode}
use Rattle.layout.specs.Reads.{Misses}
use Rattle.decode.specs.declared.error.DecodeError.{DecodeError}
use Rattle.decode.specs.declared.error.DecodeError.TheVariants.{Memory, Refused}
use Rattle.decode.specs.declared.operand.Field.{Field}
use Rattle.decode.specs.declared.operand.Label.TheVariants as labels
use Rattle.decode.specs.declared.operand.Operand.{Operand}
use Rattle.decode.specs.declared.operand.Value.TheVariants as values
use Rattle.decode.specs.Operands.{field, number, operand_bytes, size}
use Rattle.decode.specs.Table.{count, table}

-- the elements of a buffer are bytes
abbrev pub Bytes : List ℕ → Type 0
Bytes buffer = (k : ℕ) → slice_index buffer k < 256

-- these bytes stand in the buffer from one place to another; that its elements are bytes is a premise, since no clause has it of a lent buffer
abbrev pub Stand : List ℕ → ℕ → ℕ → List ℕ → Type 0
Stand buffer from to bytes = (from ≤ to) × (to ≤ length buffer) × (Bytes buffer → between from to buffer ≡ bytes)

-- the operands as bytes
abbrev pub operands_bytes : List Operand → List ℕ
operands_bytes operands = flat_map operand_bytes operands

-- operands of these fields stand there
pub record Run (buffer : List ℕ) (from to : ℕ) (fields : List Field) (operands : List Operand) : Type 0 where
  pub named : map field operands ≡ fields
  pub stand : Stand buffer from to (operands_bytes operands)

-- fields again and again
abbrev pub repeated : ℕ → List Field → List Field
repeated zero fields = []
repeated (suc n) fields = fields ++ repeated n fields

-- the number of the first operand
abbrev pub first : List Operand → ℕ
first [] = 0
first (o ∷ operands) = number o.value

-- what a row of the table asks for: its fields, or a count and its fields as often as that says
abbrev pub asked : Bool × List Field → List Operand → List Field
asked (false, fields) operands = fields
asked (true, fields) operands = count ∷ repeated (first operands) fields

-- a refusal at the first operand that does not fit, after those before it
pub record Stops (asks : List Operand → List Field) (buffer : List ℕ) (from to : ℕ) (e : ChangeBufferError) : Type 0 where
  pub operands : List Operand
  pub had : List Field
  pub next : Field
  pub rest : List Field
  pub run : Run buffer from to had operands
  pub fields : had ++ next ∷ rest ≡ asks operands
  pub misses : Misses (size next.kind) buffer to to e

-- a fault while operands are read
abbrev pub Fails : (List Operand → List Field) → List ℕ → ℕ → ℕ → DecodeError → Type 0
Fails asks buffer from to (Refused e) = Stops asks buffer from to e
Fails asks buffer from to Memory = Unit {0}

-- all operands of an opcode, or a fault
abbrev pub ReadsOperands : OpCode → List ℕ → ℕ → ℕ → Result (Vec Operand Global) DecodeError → Type 0
ReadsOperands opcode buffer from to (Ok v) =
    Run buffer from to (asked (table opcode) (vec_items v)) (vec_items v)
ReadsOperands opcode buffer from to (Err e) = Fails (asked (table opcode)) buffer from to e

-- operands of these fields after those before, or a fault
abbrev pub Takes : List Field → List ℕ → ℕ → ℕ → List Operand → List Operand → Result (Unit {0}) DecodeError → Type 0
Takes fields buffer from to old new (Ok x) =
    (more : List Operand) × (new ≡ old ++ more) × Run buffer from to fields more
Takes fields buffer from to old new (Err e) = Fails (λ operands. fields) buffer from to e

-- a count as an operand
abbrev pub counted : ℕ → Operand
counted n = record { label = labels.Count; value = values.Count n }

-- a count after the operands before, or a fault
abbrev pub Counts : List ℕ → ℕ → ℕ → List Operand → List Operand → Result ℕ DecodeError → Type 0
Counts buffer from to old new (Ok n) = (new ≡ old ++ counted n ∷ []) × Run buffer from to (count ∷ []) (counted n ∷ [])
Counts buffer from to old new (Err e) = Fails (λ operands. count ∷ []) buffer from to e
