use Rattle.std.proofs.lemmas.Result.{err_from_is_err_and}
use Rattle.layout.specs.Reads.{held}
use Rattle.recorder.specs.Strings.{with_strings}
use Rattle.interpret.specs.Attributes.{attribute_of}
use Rattle.operations.specs.Parts.{with_spans}
use Rattle.interpret.proofs.Playing.{attribute_unread, attribute_done}
use Rattle.interpret.proofs.inner.spans.set_span_field.Goals as goal

pub returns-in_err-field-clause-played : goal.returns-in_err-field-clause-played
returns-in_err-field-clause-played g c =
    let p = err_from_is_err_and c.from_residual.result c.from_residual.ensures.1 in
    rw (p.1, p.2) (λ m o own.
    attribute_unread g.T.Text.bytes (held c.args.buffer.now) _ c.args.index.now (attribute_of c.args.name) c.args.found.id c.read_field.new.index c.in_err-field.field-0.0 o (c.in_err-field.ensures.reads (with_spans c.args.tables.now.spans.now m)))

pub returns-clause-played : goal.returns-clause-played
returns-clause-played g c = λ m o own.
    attribute_done g.T.Text.bytes (held c.args.buffer.now) _ c.args.index.now (attribute_of c.args.name) c.args.found.id _ c.read_field.new.index _ _ (c.in_ok-field.ensures.reads (with_spans c.args.tables.now.spans.now m))
    (c.set_field.ensures.done (with_strings c.args.tables.now.strings.now m) o own)
