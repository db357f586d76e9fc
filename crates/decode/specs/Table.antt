-- The operands of each opcode: a table.
use Rattle.std.specs.Prelude.{Bool, true, false, List, [], ◌∷◌}
use Rattle.layout.specs.declared.operation.OpCode.{OpCode}
use Rattle.layout.specs.declared.operation.OpCode.TheVariants.{BatchSetMeta, BatchSetMetric, Create, CreateSpan, CreateSpanFull, SetDuration, SetError, SetMetaAttr, SetMetricAttr, SetName, SetResourceName, SetServiceName, SetStart, SetTraceMetaAttr, SetTraceMetricsAttr, SetTraceOrigin, SetType}
use Rattle.decode.specs.declared.operand.Field.{Field}
use Rattle.decode.specs.declared.operand.Kind.TheVariants as kind
use Rattle.decode.specs.declared.operand.Label.TheVariants as label

abbrev trace : Field
trace = record { label = label.Trace; kind = kind.Trace }

abbrev segment : Field
segment = record { label = label.Segment; kind = kind.Id }

abbrev parent : Field
parent = record { label = label.Parent; kind = kind.Id }

abbrev key : Field
key = record { label = label.Key; kind = kind.Text }

abbrev text : Field
text = record { label = label.Value; kind = kind.Text }

abbrev number : Field
number = record { label = label.Value; kind = kind.Float }

abbrev name : Field
name = record { label = label.Name; kind = kind.Text }

abbrev service : Field
service = record { label = label.Service; kind = kind.Text }

abbrev resource : Field
resource = record { label = label.Resource; kind = kind.Text }

abbrev type : Field
type = record { label = label.Type; kind = kind.Text }

abbrev start : Field
start = record { label = label.Start; kind = kind.Long }

abbrev duration : Field
duration = record { label = label.Duration; kind = kind.Long }

abbrev error : Field
error = record { label = label.Error; kind = kind.Int }

abbrev origin : Field
origin = record { label = label.Origin; kind = kind.Text }

abbrev pub count : Field
count = record { label = label.Count; kind = kind.Count }

-- these operands
abbrev pub once : List Field → Bool × List Field
once fields = (false, fields)

-- these operands as often as a count in front of them says
abbrev pub each : List Field → Bool × List Field
each fields = (true, fields)

abbrev pub table : OpCode → Bool × List Field
table Create = once (trace ∷ segment ∷ parent ∷ [])
table SetMetaAttr = once (key ∷ text ∷ [])
table SetMetricAttr = once (key ∷ number ∷ [])
table SetServiceName = once (service ∷ [])
table SetResourceName = once (resource ∷ [])
table SetError = once (error ∷ [])
table SetStart = once (start ∷ [])
table SetDuration = once (duration ∷ [])
table SetType = once (type ∷ [])
table SetName = once (name ∷ [])
table SetTraceMetaAttr = once (key ∷ text ∷ [])
table SetTraceMetricsAttr = once (key ∷ number ∷ [])
table SetTraceOrigin = once (origin ∷ [])
table CreateSpan = once (trace ∷ segment ∷ parent ∷ name ∷ start ∷ [])
table CreateSpanFull = once (trace ∷ segment ∷ parent ∷ name ∷ service ∷ resource ∷ type ∷ start ∷ [])
table BatchSetMeta = each (key ∷ text ∷ [])
table BatchSetMetric = each (key ∷ number ∷ [])
