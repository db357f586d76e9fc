-- A field of a span, and a pair, as the code names them: the record with the field set, and the writings that they stand for.
use Rattle.book.specs.Book.{Text, service, name, resource, type, start, duration, error, text, int, Writing, ◌≔◌, meta, metric}
use Rattle.tables.specs.declared.span.Span.{Span}
use Rattle.operations.specs.declared.values.Pair.{Pair}
use Rattle.operations.specs.declared.values.Pair.TheVariants.{Meta, Metric}
use Rattle.operations.specs.declared.values.PairKind.{PairKind}
use Rattle.operations.specs.declared.values.PairKind.TheVariants as kind
use Rattle.operations.specs.declared.values.SpanField.{SpanField}
use Rattle.operations.specs.declared.values.SpanField.TheVariants.{Service, Resource, Kind, Name, Error, Start, Duration}

module _ {T : Type 0} where
  abbrev pub with_field : SpanField T → Span T → Span T
  with_field (Service t) x = record { mark = x.mark; id = x.id; segment = x.segment; meta = x.meta; metrics = x.metrics; trace = x.trace; parent = x.parent; start = x.start; duration = x.duration; error = x.error; service = t; name = x.name; resource = x.resource; kind = x.kind }
  with_field (Resource t) x = record { mark = x.mark; id = x.id; segment = x.segment; meta = x.meta; metrics = x.metrics; trace = x.trace; parent = x.parent; start = x.start; duration = x.duration; error = x.error; service = x.service; name = x.name; resource = t; kind = x.kind }
  with_field (Kind t) x = record { mark = x.mark; id = x.id; segment = x.segment; meta = x.meta; metrics = x.metrics; trace = x.trace; parent = x.parent; start = x.start; duration = x.duration; error = x.error; service = x.service; name = x.name; resource = x.resource; kind = t }
  with_field (Name t) x = record { mark = x.mark; id = x.id; segment = x.segment; meta = x.meta; metrics = x.metrics; trace = x.trace; parent = x.parent; start = x.start; duration = x.duration; error = x.error; service = x.service; name = t; resource = x.resource; kind = x.kind }
  with_field (Error n) x = record { mark = x.mark; id = x.id; segment = x.segment; meta = x.meta; metrics = x.metrics; trace = x.trace; parent = x.parent; start = x.start; duration = x.duration; error = n; service = x.service; name = x.name; resource = x.resource; kind = x.kind }
  with_field (Start n) x = record { mark = x.mark; id = x.id; segment = x.segment; meta = x.meta; metrics = x.metrics; trace = x.trace; parent = x.parent; start = n; duration = x.duration; error = x.error; service = x.service; name = x.name; resource = x.resource; kind = x.kind }
  with_field (Duration n) x = record { mark = x.mark; id = x.id; segment = x.segment; meta = x.meta; metrics = x.metrics; trace = x.trace; parent = x.parent; start = x.start; duration = n; error = x.error; service = x.service; name = x.name; resource = x.resource; kind = x.kind }

  -- the span's type is its kind in the code
  abbrev pub field_written : (T → Text) → SpanField T → Writing
  field_written bytes (Service t) = service ≔ text (bytes t)
  field_written bytes (Resource t) = resource ≔ text (bytes t)
  field_written bytes (Kind t) = type ≔ text (bytes t)
  field_written bytes (Name t) = name ≔ text (bytes t)
  field_written bytes (Error n) = error ≔ int n
  field_written bytes (Start n) = start ≔ int n
  field_written bytes (Duration n) = duration ≔ int n

  abbrev pub pair_written : (T → Text) → Pair T → Writing
  pair_written bytes (Meta k v) = meta (bytes k) (bytes v)
  pair_written bytes (Metric k n) = metric (bytes k) n

  abbrev pub kind_of : Pair T → PairKind
  kind_of (Meta k v) = kind.Meta
  kind_of (Metric k n) = kind.Metric
