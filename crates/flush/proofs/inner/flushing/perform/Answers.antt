use Rattle.std.proofs.Common.{◌≡◌, ℕ, ◌<◌, ap, ◌∙◌, subst, sym, length}
use Rattle.std.proofs.lemmas.Result.{err_from_is_err_and}
use Rattle.layout.specs.Reads.{held}
use Rattle.book.specs.Flush.{create, perform}
use Rattle.operations.specs.Parts.{lent}
use Rattle.index.specs.Held.{at}
use Rattle.operations.specs.Done.{NoneMade}
use Rattle.operations.proofs.Taking.{ids-within}
use Rattle.interpret.specs.Creation.{fields_of}
use Rattle.interpret.specs.Played.{Played, note_attribute}
use Rattle.flush.specs.Found.{SegmentAt}
use Rattle.flush.specs.Operation.{span_act, segment_attribute}
use Rattle.flush.proofs.Performing.{as_lent, has_row, segment_rows, segment_tables, segment_then, segment-missing, span_tables, span_then, span-missing}
use Rattle.flush.proofs.Operating.{still_cached}
use Rattle.flush.proofs.inner.flushing.perform.Goals as goal

pub create_span-requires : goal.create_span-requires
create_span-requires g c = record { order = (lent c.args.tables.now c.args.segments.now c.args.settings.now (g.S.Index.content c.args.by_id.now) (g.G.Index.content c.args.by_segment.now), c.requires.order) }

pub returns-in-Creates-clause-played : goal.returns-in-Creates-clause-played
returns-in-Creates-clause-played g c =
    let m = lent c.args.tables.now c.args.segments.now c.args.settings.now (g.S.Index.content c.args.by_id.now) (g.G.Index.content c.args.by_segment.now) in
    let n = c.create_span.new in
    rw c.in-Creates.is
    (subst (λ z. Played g.T.Text.bytes (perform (create (fields_of c.in-Creates.extra)) c.args.id) (λ q. q ≡ c.args.id) (held c.args.buffer.now) m z c.args.index.now n.index c.create_span.result)
    (as_lent c.args.tables.now n.tables c.args.segments.now n.segments c.args.settings.now n.settings (g.S.Index.content c.args.by_id.now) (g.S.Index.content n.by_id) (g.G.Index.content c.args.by_segment.now) (g.G.Index.content n.by_segment) c.create_span.ensures.only)
    (c.create_span.ensures.played m c.requires.order))

pub returns-in-Creates-clause-cached : goal.returns-in-Creates-clause-cached
returns-in-Creates-clause-cached g c = still_cached _ _ c.args.last.now (c.create_span.ensures.played (lent c.args.tables.now c.args.segments.now c.args.settings.now (g.S.Index.content c.args.by_id.now) (g.G.Index.content c.args.by_segment.now)) c.requires.order).spans_kept.stays c.requires.cached

pub returns-in_err-found-in-Spans-clause-played : goal.returns-in_err-found-in-Spans-clause-played
returns-in_err-found-in-Spans-clause-played g c =
    let p = err_from_is_err_and c.from_residual.result c.from_residual.ensures.1 in
    let f = c.in_err-found-in-Spans.ensures.finds in
    rw (p.1, p.2, c.in-Spans.is)
    (span-missing g.T.Text.bytes (held c.args.buffer.now) (lent c.args.tables.now c.args.segments.now c.args.settings.now (g.S.Index.content c.args.by_id.now) (g.G.Index.content c.args.by_segment.now)) c.args.id c.args.index.now c.in-Spans.on c.args.index.now c.in_err-found-in-Spans.field-0.0 c.requires.order f.0 f.1)

pub on_span-requires : goal.on_span-requires
on_span-requires g c = record { rows = has_row c.args.tables.now c.args.segments.now c.args.settings.now (g.S.Index.content c.args.by_id.now) (g.G.Index.content c.args.by_segment.now) c.requires.order c.args.id c.in_ok-found-in-Spans.found.number c.in_ok-found-in-Spans.ensures.finds.1 }

pub returns-in_ok-found-in-Spans-clause-played : goal.returns-in_ok-found-in-Spans-clause-played
returns-in_ok-found-in-Spans-clause-played g c =
    let f = c.in_ok-found-in-Spans.found in
    let finds = c.in_ok-found-in-Spans.ensures.finds in
    let b = held c.args.buffer.now in
    let m = lent c.args.tables.now c.args.segments.now c.args.settings.now (g.S.Index.content c.args.by_id.now) (g.G.Index.content c.args.by_segment.now) in
    let m' = lent c.on_span.new.tables c.args.segments.now c.args.settings.now (g.S.Index.content c.args.by_id.now) (g.G.Index.content c.args.by_segment.now) in
    rw c.in-Spans.is
    (span_then g.T.Text.bytes b m c.args.id c.args.index.now c.requires.order c.in_ok-found-in-Spans.found.number finds.1 c.in-Spans.on m' c.on_span.new.index c.on_span.result
    (subst (λ (q : ℕ). Played g.T.Text.bytes (span_act c.in-Spans.on q) NoneMade b m m' c.args.index.now c.on_span.new.index c.on_span.result) finds.0
    (span_tables g.T.Text.bytes (span_act c.in-Spans.on f.id) b c.args.tables.now c.on_span.new.tables c.args.index.now c.on_span.new.index c.on_span.result f.id f.number c.on_span.ensures.only c.on_span.ensures.played m c.requires.order (ap (at (g.S.Index.content c.args.by_id.now).held) finds.0 ∙ finds.1))))

pub returns-in_err-found-in-Segments-clause-played : goal.returns-in_err-found-in-Segments-clause-played
returns-in_err-found-in-Segments-clause-played g c =
    let p = err_from_is_err_and c.from_residual-in_err-found-in-Segments.result c.from_residual-in_err-found-in-Segments.ensures.1 in
    let f = c.in_err-found-in-Segments.ensures.finds in
    rw (p.1, p.2, c.in-Segments.is)
    (segment-missing g.T.Text.bytes (held c.args.buffer.now) (lent c.args.tables.now c.args.segments.now c.args.settings.now (g.S.Index.content c.args.by_id.now) (g.G.Index.content c.args.by_segment.now)) c.args.id c.args.index.now (segment_attribute c.in-Segments.on) c.args.index.now c.in_err-found-in-Segments.field-0.0 c.requires.order f.0 f.1)

pub segment_of-segment-requires : goal.segment_of-segment-requires
segment_of-segment-requires g c =
    subst (λ xs. c.in_ok-found-in-Segments.found.number < length xs) (sym c.spans.ensures)
    (ids-within (lent c.args.tables.now c.args.segments.now c.args.settings.now (g.S.Index.content c.args.by_id.now) (g.G.Index.content c.args.by_segment.now)) c.requires.order c.args.id c.in_ok-found-in-Segments.found.number c.in_ok-found-in-Segments.ensures.finds.1)

pub on_segment-requires : goal.on_segment-requires
on_segment-requires g c = record { rows = segment_rows c.args.tables.now c.args.segments.now c.args.settings.now (g.S.Index.content c.args.by_id.now) (g.G.Index.content c.args.by_segment.now) c.requires.order }

pub returns-in_ok-found-in-Segments-clause-played : goal.returns-in_ok-found-in-Segments-clause-played
returns-in_ok-found-in-Segments-clause-played g c =
    let m = lent c.args.tables.now c.args.segments.now c.args.settings.now (g.S.Index.content c.args.by_id.now) (g.G.Index.content c.args.by_segment.now) in
    rw c.in-Segments.is
    (segment_then g.T.Text.bytes (held c.args.buffer.now) m c.args.id c.args.index.now c.requires.order c.in_ok-found-in-Segments.found.number c.in_ok-found-in-Segments.ensures.finds.1 (segment_attribute c.in-Segments.on) c.segment_of-segment.result _ _ _ (subst (λ xs. SegmentAt xs c.in_ok-found-in-Segments.found.number c.segment_of-segment.result) c.spans.ensures c.segment_of-segment.ensures)
    (segment_tables g.T.Text.bytes (note_attribute (segment_attribute c.in-Segments.on) c.segment_of-segment.result) (held c.args.buffer.now) c.args.tables.now c.on_segment.new.tables c.args.index.now c.on_segment.new.index c.on_segment.result
    c.args.segments.now c.on_segment.new.segments (g.G.Index.content c.args.by_segment.now).held c.on_segment.ensures.only c.on_segment.ensures.played m c.requires.order))
