use Rattle.std.proofs.Common.{rules, get_or, set, sym, subst}
use Rattle.std.specs.Option.{ok_or}
use Rattle.std.proofs.lemmas.Option.{slice_get-get_or}
use Rattle.refusals.specs.declared.ChangeBufferError.TheVariants.{RowFull}
use Rattle.book.specs.Book.{meta, metric}
use Rattle.book.specs.Flush.{write_segment}
use Rattle.operations.specs.declared.values.PairKind.TheVariants as kind
use Rattle.operations.specs.Parts.{SegmentTextsOnly, SegmentNumbersOnly, with_segment_pairs}
use Rattle.operations.specs.Done.{Done, NoneMade}
use Rattle.operations.proofs.Noting.{with_meta_head, with_metrics_head, done_meta, done_metric}
use Rattle.operations.proofs.inner.segments.pair_at.Goals.{in-Meta, in-Metric}
use Rattle.operations.proofs.inner.segments.pair_at.Goals as goal

pub returns-clause-only : goal.returns-clause-only
returns-clause-only g c =
    elim c.match-pair.branch [
      | in-Meta w ↦ rw w.in-Meta.is (subst (λ t. SegmentTextsOnly c.args.tables.now t) (sym w.tables-is) (search rules))
      | in-Metric w ↦ rw w.in-Metric.is (subst (λ t. SegmentNumbersOnly c.args.tables.now t) (sym w.tables-is) (search rules))
    ]

pub returns-clause-done : goal.returns-clause-done
returns-clause-done g c =
    let b = g.T.Text.bytes in
    let f = c.args.found in
    let t = c.args.tables.now in
    let ys = c.args.segments.now in
    elim c.match-pair.branch [
      | in-Meta w ↦
          rw (w.in-Meta.is, c.ok_or.ensures.value, w.ok_or-is) (λ m o own.
          subst (λ ys'. Done b (write_segment f.id (meta (b w.in-Meta.key) (b w.in-Meta.value))) NoneMade (with_segment_pairs kind.Meta t ys m) (with_segment_pairs kind.Meta c.match-pair.tables ys' m) (ok_or w.insert_below.result (RowFull f.id))) (sym w.segments-is)
          (subst (λ t'. Done b (write_segment f.id (meta (b w.in-Meta.key) (b w.in-Meta.value))) NoneMade (with_segment_pairs kind.Meta t ys m) (with_segment_pairs kind.Meta t' (set ys f.number (with_meta_head w.insert_below.new.head (get_or ys f.number w.index-segments-number.result))) m) (ok_or w.insert_below.result (RowFull f.id))) (sym w.tables-is)
          (done_meta (with_segment_pairs kind.Meta t ys m) o f.id f.number own _ (slice_get-get_or ys f.number w.index-segments-number.result c.requires.row.within) b w.in-Meta.key w.in-Meta.value
          w.insert_below.new.table w.insert_below.new.head w.insert_below.result w.insert_below.auto.table w.insert_below.ensures.cases)))
      | in-Metric w ↦
          rw (w.in-Metric.is, c.ok_or.ensures.value, w.ok_or-is) (λ m o own.
          subst (λ ys'. Done b (write_segment f.id (metric (b w.in-Metric.key) w.in-Metric.bits)) NoneMade (with_segment_pairs kind.Metric t ys m) (with_segment_pairs kind.Metric c.match-pair.tables ys' m) (ok_or w.insert_below-in-Metric.result (RowFull f.id))) (sym w.segments-is)
          (subst (λ t'. Done b (write_segment f.id (metric (b w.in-Metric.key) w.in-Metric.bits)) NoneMade (with_segment_pairs kind.Metric t ys m) (with_segment_pairs kind.Metric t' (set ys f.number (with_metrics_head w.insert_below-in-Metric.new.head (get_or ys f.number w.index-segments-number-in-Metric.result))) m) (ok_or w.insert_below-in-Metric.result (RowFull f.id))) (sym w.tables-is)
          (done_metric (with_segment_pairs kind.Metric t ys m) o f.id f.number own _ (slice_get-get_or ys f.number w.index-segments-number-in-Metric.result c.requires.row.within) b w.in-Metric.key w.in-Metric.bits
          w.insert_below-in-Metric.new.table w.insert_below-in-Metric.new.head w.insert_below-in-Metric.result w.insert_below-in-Metric.auto.table w.insert_below-in-Metric.ensures.cases)))
    ]
