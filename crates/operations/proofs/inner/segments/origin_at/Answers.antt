use Rattle.std.proofs.lemmas.Option.{slice_get-get_or}
use Rattle.operations.specs.Parts.{with_segments}
use Rattle.operations.proofs.Noting.{done_origin}
use Rattle.operations.proofs.inner.segments.origin_at.Goals as goal

pub returns : goal.returns
returns g c = record {
  done = λ m o own.
      done_origin (with_segments c.args.segments.now m) o c.args.found.id c.args.found.number own _
      (slice_get-get_or c.args.segments.now c.args.found.number c.index-segments-found.result c.requires.within) g.T.Text.bytes c.args.value;
}
