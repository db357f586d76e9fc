use Rattle.std.proofs.Common.{sym, subst}
use Rattle.std.proofs.lemmas.Result.{err_from_is_err_and}
use Rattle.layout.specs.Reads.{held}
use Rattle.recorder.specs.Strings.{with_strings}
use Rattle.operations.specs.Fields.{kind_of, pair_written}
use Rattle.operations.specs.Done.{OnSegmentIfStanding, SegmentRows}
use Rattle.operations.specs.Parts.{SegmentPairOnly, with_segment_pairs, with_seats}
use Rattle.interpret.specs.Attributes.{pair_attribute}
use Rattle.interpret.proofs.Playing.{note-unread, note_done}
use Rattle.interpret.proofs.Following.{segment_only_start, seated_beside_strings}
use Rattle.interpret.proofs.inner.segments.set_trace_pair.Goals as goal

pub returns-in_err-pair-clause-played : goal.returns-in_err-pair-clause-played
returns-in_err-pair-clause-played g c =
    let p = err_from_is_err_and c.from_residual.result c.from_residual.ensures.1 in
    let es = (g.G.Index.content c.args.by_segment.now).held in
    let t = c.args.tables.now in
    let ys = c.args.segments.now in
    rw (p.1, p.2) (λ m o.
    note-unread g.T.Text.bytes (held c.args.buffer.now) _ c.args.index.now (pair_attribute c.args.kind) c.args.segment c.read_pair.new.index c.in_err-pair.field-0.0 o
    (c.in_err-pair.ensures.reads (with_seats es (with_segment_pairs c.args.kind t ys m))))

pub returns-clause-played : goal.returns-clause-played
returns-clause-played g c =
    let b = g.T.Text.bytes in
    let es = (g.G.Index.content c.args.by_segment.now).held in
    let t = c.args.tables.now in
    let n = c.add_segment_pair.new.tables in
    let ys = c.args.segments.now in
    let ys' = c.add_segment_pair.new.segments in
    let pair = c.in_ok-pair.pair in
    λ m o.
    note_done b (held c.args.buffer.now) _ c.args.index.now (pair_attribute c.args.kind) c.args.segment _ c.read_pair.new.index _ _
    (c.in_ok-pair.ensures.reads (with_seats es (with_segment_pairs c.args.kind t ys m)))
    (subst (λ k. OnSegmentIfStanding b c.args.segment (pair_written b pair) (λ m. with_strings t.strings.now (with_seats es (with_segment_pairs k t ys m))) (λ m. with_strings n.strings.now (with_seats es (with_segment_pairs k n ys' m))) c.add_segment_pair.result) c.in_ok-pair.ensures.kind
    (seated_beside_strings b c.args.segment (pair_written b pair) t n c.add_segment_pair.result ys ys' es (kind_of pair) c.add_segment_pair.ensures.only c.add_segment_pair.ensures.done) m o)

pub add_segment_pair-requires : goal.add_segment_pair-requires
add_segment_pair-requires g c = record { rows = subst (λ k. SegmentRows k c.args.tables.now c.args.segments.now (g.G.Index.content c.args.by_segment.now).held) (sym c.in_ok-pair.ensures.kind) c.requires.rows }

pub returns-in_err-pair-clause-only : goal.returns-in_err-pair-clause-only
returns-in_err-pair-clause-only g c = segment_only_start c.args.kind _

pub returns-clause-only : goal.returns-clause-only
returns-clause-only g c = subst (λ k. SegmentPairOnly k c.args.tables.now c.add_segment_pair.new.tables) c.in_ok-pair.ensures.kind c.add_segment_pair.ensures.only
