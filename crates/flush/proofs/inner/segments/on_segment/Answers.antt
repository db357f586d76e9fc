use Rattle.layout.specs.Reads.{held}
use Rattle.operations.specs.declared.values.PairKind.TheVariants.{Meta}
use Rattle.operations.specs.Parts.{with_segment_meta, with_segment_metrics}
use Rattle.interpret.specs.Attributes.{pair_attribute}
use Rattle.interpret.specs.Played.{note_attribute}
use Rattle.flush.proofs.Performing.{segment_pair_only, segment_pair_rows}
use Rattle.flush.proofs.inner.segments.on_segment.Goals as goal

pub returns-in-Pair-clause-played : goal.returns-in-Pair-clause-played
returns-in-Pair-clause-played g c = rw c.in-Pair.is
    (segment_pair_rows g.T.Text.bytes (note_attribute (pair_attribute c.in-Pair.kind) c.args.segment) (held c.args.buffer.now) c.args.tables.now c.set_trace_pair.new.tables c.args.index.now c.set_trace_pair.new.index c.set_trace_pair.result
    c.args.segments.now c.set_trace_pair.new.segments (g.G.Index.content c.args.by_segment.now).held c.in-Pair.kind c.set_trace_pair.ensures.only c.set_trace_pair.ensures.played)

pub returns-in-Origin-clause-played : goal.returns-in-Origin-clause-played
returns-in-Origin-clause-played g c =
    let t = c.args.tables.now in
    rw c.in-Origin.is (λ m. c.set_trace_origin.ensures.played (with_segment_metrics t.segment_metrics.now (with_segment_meta t.segment_meta.now m)))

pub set_trace_pair-requires : goal.set_trace_pair-requires
set_trace_pair-requires g c = record { rows = c.requires.rows c.in-Pair.kind }

pub set_trace_origin-requires : goal.set_trace_origin-requires
set_trace_origin-requires g c = record { within = λ id r e. (c.requires.rows Meta id r e).within }

pub returns-in-Pair-clause-only : goal.returns-in-Pair-clause-only
returns-in-Pair-clause-only g c = segment_pair_only _ _ c.in-Pair.kind c.set_trace_pair.ensures.only
