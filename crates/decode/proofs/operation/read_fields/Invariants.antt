use Rattle.std.proofs.Common.{◌≡◌, List, ◌++◌, take, vec_items}
use Rattle.layout.specs.Reads.{held}
use Rattle.decode.specs.declared.operand.Operand.{Operand}
use Rattle.decode.specs.Runs.{Run}
use Rattle.decode.proofs.operation.read_fields.Given as goal

abbrev pub invariant-loop-field : goal.invariant-loop-field
invariant-loop-field l =
    (more : List Operand) × (vec_items l.operands ≡ vec_items l.initial.operands ++ more)
    × Run (held l.buffer) l.initial.index l.index (take l.field-index l.fields) more
