-- Operations as the code names them, in the words of the table of opcodes.
use Rattle.std.specs.Prelude.{◌≡◌, ℕ, ◌+◌, List, Some, Result}
use Rattle.layout.specs.Reads.{number_at}
use Rattle.book.specs.Maps.{find}
use Rattle.refusals.specs.declared.ChangeBufferError.{ChangeBufferError}
use Rattle.book.specs.Book.{Text, Field as BookField}
use Rattle.book.specs.Actions.{Act}
use Rattle.book.specs.Flush.{Operand, table, Attribute, create, on_span, on_segment, batch, set_attribute}
use Rattle.book.specs.Flush as book
use Rattle.tables.specs.Store.{Store}
use Rattle.tables.specs.InOrder.{InOrder}
use Rattle.interpret.specs.Attributes.{attribute_of, pair_attribute, origin_attribute}
use Rattle.interpret.specs.Creation.{fields_of}
use Rattle.interpret.specs.Played.{Played, set_counted}
use Rattle.flush.specs.declared.operation.OnSpan.{OnSpan}
use Rattle.flush.specs.declared.operation.OnSpan.TheVariants.{Field, Batch}
use Rattle.flush.specs.declared.operation.OnSpan.TheVariants as span
use Rattle.flush.specs.declared.operation.OnSegment.{OnSegment}
use Rattle.flush.specs.declared.operation.OnSegment.TheVariants.{Origin}
use Rattle.flush.specs.declared.operation.OnSegment.TheVariants as segment
use Rattle.flush.specs.declared.operation.Operation.{Operation}
use Rattle.flush.specs.declared.operation.Operation.TheVariants.{Creates, Spans, Segments}

-- the operation on a live span, and its action once the span is found
abbrev pub span_meaning : OnSpan → book.Operation
span_meaning (span.Pair k) = on_span (pair_attribute k)
span_meaning (Field n) = on_span (attribute_of n)
span_meaning (Batch k) = batch (pair_attribute k)

abbrev pub span_act : OnSpan → ℕ → Act (Unit {0})
span_act (span.Pair k) id = set_attribute (pair_attribute k) id
span_act (Field n) id = set_attribute (attribute_of n) id
span_act (Batch k) id = set_counted (pair_attribute k) id

-- what is written to its segment
abbrev pub segment_attribute : OnSegment → Attribute
segment_attribute (segment.Pair k) = pair_attribute k
segment_attribute Origin = origin_attribute

abbrev pub meaning : Operation → book.Operation
meaning (Creates extra) = create (fields_of extra)
meaning (Spans o) = span_meaning o
meaning (Segments o) = on_segment (segment_attribute o)

-- an action that makes the span with this id alone, whatever the memory is beside the parts given
abbrev pub MakesOne : {T : Type 0} → (T → Text) → ℕ → Act (Unit {0}) → List ℕ → (before after : Store T → Store T) → (from to : ℕ) → Result (Unit {0}) ChangeBufferError → Type 0
MakesOne {T} bytes id act buffer before after from to answer =
    (m : Store T) → InOrder (before m) → Played bytes act (λ q. q ≡ id) buffer (before m) (after m) from to answer

-- the ids of which an operation makes a span
abbrev pub made_by : Operation → ℕ → ℕ → Type 0
made_by (Creates extra) id q = q ≡ id
made_by (Spans o) id q = ⊥
made_by (Segments o) id q = ⊥

-- a create of this id stands somewhere in the buffer
pub record Created (buffer : List ℕ) (id : ℕ) : Type 0 where
  pub offset : ℕ
  pub fields : List (BookField × Operand)
  pub opcode : find (number_at 2 buffer offset) table ≡ Some (create fields)
  pub its_id : number_at 8 buffer (offset + 2) ≡ id
