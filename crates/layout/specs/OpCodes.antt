-- Opcodes: the number and the name of each.
use Rattle.std.specs.Prelude.{◌≡◌, ℕ, ◌<◌, List, [], ◌∷◌, Ok, Err, codes, Result}
use Rattle.refusals.specs.declared.ChangeBufferError.{ChangeBufferError}
use Rattle.layout.specs.declared.operation.OpCode.{OpCode}
use Rattle.layout.specs.declared.operation.OpCode.TheVariants.{BatchSetMeta, BatchSetMetric, Create, CreateSpan, CreateSpanFull, SetDuration, SetError, SetMetaAttr, SetMetricAttr, SetName, SetResourceName, SetServiceName, SetStart, SetTraceMetaAttr, SetTraceMetricsAttr, SetTraceOrigin, SetType}
use Rattle.refusals.specs.Told.{told}

-- the number that stands for an opcode in a buffer
abbrev pub code : OpCode → ℕ
code Create = 0
code SetMetaAttr = 1
code SetMetricAttr = 2
code SetServiceName = 3
code SetResourceName = 4
code SetError = 5
code SetStart = 6
code SetDuration = 7
code SetType = 8
code SetName = 9
code SetTraceMetaAttr = 10
code SetTraceMetricsAttr = 11
code SetTraceOrigin = 12
code CreateSpan = 13
code CreateSpanFull = 14
code BatchSetMeta = 15
code BatchSetMetric = 16

-- the bytes of its name
abbrev pub name_of : OpCode → List ℕ
name_of Create = codes "Create"
name_of SetMetaAttr = codes "SetMetaAttr"
name_of SetMetricAttr = codes "SetMetricAttr"
name_of SetServiceName = codes "SetServiceName"
name_of SetResourceName = codes "SetResourceName"
name_of SetError = codes "SetError"
name_of SetStart = codes "SetStart"
name_of SetDuration = codes "SetDuration"
name_of SetType = codes "SetType"
name_of SetName = codes "SetName"
name_of SetTraceMetaAttr = codes "SetTraceMetaAttr"
name_of SetTraceMetricsAttr = codes "SetTraceMetricsAttr"
name_of SetTraceOrigin = codes "SetTraceOrigin"
name_of CreateSpan = codes "CreateSpan"
name_of CreateSpanFull = codes "CreateSpanFull"
name_of BatchSetMeta = codes "BatchSetMeta"
name_of BatchSetMetric = codes "BatchSetMetric"

-- a number above 16 is refused with 9 and the number
abbrev pub Unknown : ℕ → ChangeBufferError → Type 0
Unknown n e = (16 < n) × (told e ≡ (9, n ∷ []))

-- the opcode of a number, if there is one
abbrev pub Names : ℕ → Result OpCode ChangeBufferError → Type 0
Names n (Ok opcode) = code opcode ≡ n
Names n (Err e) = Unknown n e

-- the one answer that a number can have
abbrev pub NamesOnly : ℕ → OpCode → Type 0
NamesOnly n opcode = (answer : Result OpCode ChangeBufferError) → Names n answer → answer ≡ Ok opcode
