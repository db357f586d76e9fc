use Rattle.std.proofs.Common.{rules, sym, subst, arith, length-set}
use Rattle.std.specs.Option.{ok_or}
use Rattle.std.proofs.lemmas.Option.{slice_get-get_or}
use Rattle.refusals.specs.declared.ChangeBufferError.TheVariants.{RowFull}
use Rattle.book.specs.Book.{meta, metric}
use Rattle.book.specs.Flush.{write_span}
use Rattle.operations.specs.declared.values.PairKind.TheVariants as kind
use Rattle.operations.specs.Fields.{kind_of}
use Rattle.operations.specs.Parts.{HasRow, TextsOnly, NumbersOnly, with_pairs}
use Rattle.operations.specs.Done.{Done, NoneMade}
use Rattle.operations.proofs.Writing.{done_meta, done_metric}
use Rattle.operations.proofs.inner.pairs.add_pair.Goals.{in-Meta, in-Metric}
use Rattle.operations.proofs.inner.pairs.add_pair.Goals as goal

pub returns-clause-only : goal.returns-clause-only
returns-clause-only g c =
    elim c.match-pair.branch [
      | in-Meta w ↦ rw w.in-Meta.is (subst (λ t. TextsOnly c.args.tables.now t) (sym w.tables-is) (search rules))
      | in-Metric w ↦ rw w.in-Metric.is (subst (λ t. NumbersOnly c.args.tables.now t) (sym w.tables-is) (search rules))
    ]

pub returns-clause-row : goal.returns-clause-row
returns-clause-row g c =
    let f = c.args.found in
    elim c.match-pair.branch [
      | in-Meta w ↦
          let h = subst (λ p. HasRow (kind_of p) c.args.tables.now f.number) w.in-Meta.is c.requires.row in
          rw w.in-Meta.is (subst (λ t. HasRow kind.Meta t f.number) (sym w.tables-is) (let l = w.insert_below.auto.table in record { within = simp length-set h.within; row = omega (arith, l) }))
      | in-Metric w ↦
          let h = subst (λ p. HasRow (kind_of p) c.args.tables.now f.number) w.in-Metric.is c.requires.row in
          rw w.in-Metric.is (subst (λ t. HasRow kind.Metric t f.number) (sym w.tables-is) (let l = w.insert_below-in-Metric.auto.table in record { within = simp length-set h.within; row = omega (arith, l) }))
    ]

pub returns-clause-done : goal.returns-clause-done
returns-clause-done g c =
    let b = g.T.Text.bytes in
    let f = c.args.found in
    let t = c.args.tables.now in
    elim c.match-pair.branch [
      | in-Meta w ↦
          rw (w.in-Meta.is, c.ok_or.ensures.value, w.ok_or-is) (λ m o own.
          subst (λ t'. Done b (write_span f.id (meta (b w.in-Meta.key) (b w.in-Meta.value))) NoneMade (with_pairs kind.Meta t m) (with_pairs kind.Meta t' m) (ok_or w.insert_below.result (RowFull f.id))) (sym w.tables-is)
          (done_meta (with_pairs kind.Meta t m) o f.id f.number own _ (slice_get-get_or t.spans.now f.number w.index-tables-number.result c.requires.row.within) b w.in-Meta.key w.in-Meta.value
          w.insert_below.new.table w.insert_below.new.head w.insert_below.result w.insert_below.auto.table w.insert_below.ensures.cases))
      | in-Metric w ↦
          rw (w.in-Metric.is, c.ok_or.ensures.value, w.ok_or-is) (λ m o own.
          subst (λ t'. Done b (write_span f.id (metric (b w.in-Metric.key) w.in-Metric.bits)) NoneMade (with_pairs kind.Metric t m) (with_pairs kind.Metric t' m) (ok_or w.insert_below-in-Metric.result (RowFull f.id))) (sym w.tables-is)
          (done_metric (with_pairs kind.Metric t m) o f.id f.number own _ (slice_get-get_or t.spans.now f.number w.index-tables-number-in-Metric.result c.requires.row.within) b w.in-Metric.key w.in-Metric.bits
          w.insert_below-in-Metric.new.table w.insert_below-in-Metric.new.head w.insert_below-in-Metric.result w.insert_below-in-Metric.auto.table w.insert_below-in-Metric.ensures.cases))
    ]
