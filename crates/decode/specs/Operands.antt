-- Operands: how many bytes hold one, what the number in them means, and the bytes of one.
use Rattle.std.specs.Prelude.{ℕ, zero, suc, ◌+◌, ◌*◌, ◌/◌, ◌%◌, ◌^◌, List, [], ◌∷◌, codes}
use Rattle.std.specs.Int.{w32, w64}
use Rattle.std.proofs.Common.{of_z, to_z}
use Rattle.layout.specs.Traces.{words}
use Rattle.decode.specs.declared.operand.Field.{Field}
use Rattle.decode.specs.declared.operand.Kind.{Kind}
use Rattle.decode.specs.declared.operand.Kind.TheVariants as kinds
use Rattle.decode.specs.declared.operand.Label.{Label}
use Rattle.decode.specs.declared.operand.Label.TheVariants as labels
use Rattle.decode.specs.declared.operand.Operand.{Operand}
use Rattle.decode.specs.declared.operand.Value.{Value}
use Rattle.decode.specs.declared.operand.Value.TheVariants.{Count, Float, Id, Int, Long, Text, Trace}

-- how many bytes hold an operand
abbrev pub size : Kind → ℕ
size kinds.Trace = 16
size kinds.Id = 8
size kinds.Text = 4
size kinds.Float = 8
size kinds.Long = 8
size kinds.Int = 4
size kinds.Count = 4

-- what the number in those bytes means
abbrev pub meant : Kind → ℕ → Value
meant kinds.Trace n = Trace (words n)
meant kinds.Id n = Id n
meant kinds.Text n = Text n
meant kinds.Float n = Float n
meant kinds.Long n = Long (to_z w64 n)
meant kinds.Int n = Int (to_z w32 n)
meant kinds.Count n = Count n

-- the kind of a value
abbrev pub kind : Value → Kind
kind (Trace t) = kinds.Trace
kind (Id n) = kinds.Id
kind (Text n) = kinds.Text
kind (Float n) = kinds.Float
kind (Long z) = kinds.Long
kind (Int z) = kinds.Int
kind (Count n) = kinds.Count

-- the number of its bytes
abbrev pub number : Value → ℕ
number (Trace t) = t.low + 2 ^ 64 * t.high
number (Id n) = n
number (Text n) = n
number (Float n) = n
number (Long z) = of_z w64 z
number (Int z) = of_z w32 z
number (Count n) = n

-- so many bytes of a number, the lowest first
unfoldable pub little : ℕ → ℕ → List ℕ
little zero n = []
little (suc k) n = n % 256 ∷ little k (n / 256)

-- an operand as bytes
abbrev pub operand_bytes : Operand → List ℕ
operand_bytes o = little (size (kind o.value)) (number o.value)

-- what it is called and how it lies
abbrev pub field : Operand → Field
field o = record { label = o.label; kind = kind o.value }

-- what an operand is called, in words
abbrev pub label_name : Label → List ℕ
label_name labels.Trace = codes "trace"
label_name labels.Segment = codes "segment"
label_name labels.Parent = codes "parent"
label_name labels.Key = codes "key"
label_name labels.Value = codes "value"
label_name labels.Name = codes "name"
label_name labels.Service = codes "service"
label_name labels.Resource = codes "resource"
label_name labels.Type = codes "type"
label_name labels.Start = codes "start"
label_name labels.Duration = codes "duration"
label_name labels.Error = codes "error"
label_name labels.Origin = codes "origin"
label_name labels.Count = codes "count"
