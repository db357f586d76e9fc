use Rattle.std.proofs.lemmas.Option.{slice_get-get_or}
use Rattle.operations.specs.Parts.{with_spans}
use Rattle.operations.proofs.Writing.{done_field}
use Rattle.operations.proofs.inner.fields.set_field.Goals as goal

pub returns : goal.returns
returns g c = record {
  done = λ m o own.
      done_field (with_spans c.args.spans.now m) o c.args.found.id c.args.found.number own _
      (slice_get-get_or c.args.spans.now c.args.found.number c.index-spans-found.result c.requires.within) g.T.Text.bytes c.args.field c.write_field.new.span
      c.write_field.ensures;
}
