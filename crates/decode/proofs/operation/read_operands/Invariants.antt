use Rattle.std.proofs.Common.{◌≡◌, List, ◌++◌, vec_items}
use Rattle.layout.specs.Reads.{held}
use Rattle.decode.specs.declared.operand.Operand.{Operand}
use Rattle.decode.specs.Runs.{Run, repeated}
use Rattle.decode.proofs.operation.read_operands.Given as goal

abbrev pub invariant-loop : goal.invariant-loop
invariant-loop l =
    (more : List Operand) × (vec_items l.operands ≡ vec_items l.initial.operands ++ more)
    × Run (held l.buffer) l.initial.index l.index (repeated l.counter l.fields) more
