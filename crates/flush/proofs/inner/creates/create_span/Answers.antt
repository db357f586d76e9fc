use Rattle.std.proofs.Common.{◌≡◌}
use Rattle.std.proofs.lemmas.Result.{err_from_is_err_and}
use Rattle.layout.specs.Reads.{held}
use Rattle.book.specs.Flush.{make}
use Rattle.recorder.specs.Strings.{with_strings}
use Rattle.operations.specs.Parts.{create_parts}
use Rattle.interpret.specs.Creation.{fields_of, read_create}
use Rattle.interpret.proofs.Playing.{unread, read_done}
use Rattle.interpret.proofs.Creations.{gives}
use Rattle.flush.proofs.Performing.{as_create}
use Rattle.flush.proofs.inner.creates.create_span.Goals as goal

pub returns-in_err-segment-clause-played : goal.returns-in_err-segment-clause-played
returns-in_err-segment-clause-played g c =
    let p = err_from_is_err_and c.from_residual.result c.from_residual.ensures.1 in
    rw (p.1, p.2) (λ m o.
    as_create g.T.Text.bytes (held c.args.buffer.now) (fields_of c.args.extra) c.args.id (λ q. q ≡ c.args.id) _ _ c.args.index.now c.read_creation.new.index _
    (unread g.T.Text.bytes (held c.args.buffer.now) _ c.args.index.now (λ q. q ≡ c.args.id) (read_create (fields_of c.args.extra)) (λ x. make c.args.id x.0 x.1) c.read_creation.new.index c.in_err-segment.field-0.0 o
    (c.in_err-segment.ensures.reads (create_parts c.args.tables.now c.args.segments.now c.args.settings.now (g.S.Index.content c.args.by_id.now) (g.G.Index.content c.args.by_segment.now) m))))

pub returns-clause-played : goal.returns-clause-played
returns-clause-played g c = λ m o.
    rw c.create.ensures.only.strings
    (as_create g.T.Text.bytes (held c.args.buffer.now) (fields_of c.args.extra) c.args.id (λ q. q ≡ c.args.id) _ _ c.args.index.now c.read_creation.new.index _
    (read_done g.T.Text.bytes (held c.args.buffer.now) _ c.args.index.now (λ q. q ≡ c.args.id) (read_create (fields_of c.args.extra)) (λ x. make c.args.id x.0 x.1) _ c.read_creation.new.index _ _
    (c.in_ok-segment.ensures.reads (create_parts c.args.tables.now c.args.segments.now c.args.settings.now (g.S.Index.content c.args.by_id.now) (g.G.Index.content c.args.by_segment.now) m))
    (c.create.ensures.done (with_strings c.args.tables.now.strings.now m) _ o (gives g.T.Text.bytes _ c.args.extra c.in_ok-segment.ensures.blank))))
