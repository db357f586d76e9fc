use Rattle.layout.specs.Reads.{held}
use Rattle.book.specs.Flush.{set_attribute}
use Rattle.operations.specs.declared.values.PairKind.TheVariants.{Meta}
use Rattle.interpret.specs.Attributes.{attribute_of, pair_attribute}
use Rattle.interpret.specs.Played.{set_counted}
use Rattle.flush.proofs.Performing.{pair_only, field_only, pair_rows, field_rows}
use Rattle.flush.proofs.inner.spans.on_span.Goals as goal

pub set_pair-requires : goal.set_pair-requires
set_pair-requires g c = record { row = c.requires.rows c.in-Pair.kind }

pub set_span_field-requires : goal.set_span_field-requires
set_span_field-requires g c = record { within = (c.requires.rows Meta).within }

pub batch_set_pairs-requires : goal.batch_set_pairs-requires
batch_set_pairs-requires g c = record { row = c.requires.rows c.in-Batch.kind }

pub returns-in-Pair-clause-only : goal.returns-in-Pair-clause-only
returns-in-Pair-clause-only g c = pair_only _ _ c.in-Pair.kind c.set_pair.ensures.only

pub returns-in-Field-clause-only : goal.returns-in-Field-clause-only
returns-in-Field-clause-only g c = field_only _ _ c.set_span_field.ensures.only

pub returns-in-Batch-clause-only : goal.returns-in-Batch-clause-only
returns-in-Batch-clause-only g c = pair_only _ _ c.in-Batch.kind c.batch_set_pairs.ensures.only

pub returns-in-Pair-clause-played : goal.returns-in-Pair-clause-played
returns-in-Pair-clause-played g c = rw c.in-Pair.is
    (pair_rows g.T.Text.bytes (set_attribute (pair_attribute c.in-Pair.kind) c.args.found.id) (held c.args.buffer.now) c.args.tables.now c.set_pair.new.tables c.args.index.now c.set_pair.new.index c.set_pair.result c.args.found.id c.args.found.number c.in-Pair.kind
    c.set_pair.ensures.only c.set_pair.ensures.played)

pub returns-in-Field-clause-played : goal.returns-in-Field-clause-played
returns-in-Field-clause-played g c = rw c.in-Field.is
    (field_rows g.T.Text.bytes (set_attribute (attribute_of c.in-Field.name) c.args.found.id) (held c.args.buffer.now) c.args.tables.now c.set_span_field.new.tables c.args.index.now c.set_span_field.new.index c.set_span_field.result c.args.found.id c.args.found.number
    c.set_span_field.ensures.only c.set_span_field.ensures.played)

pub returns-in-Batch-clause-played : goal.returns-in-Batch-clause-played
returns-in-Batch-clause-played g c = rw c.in-Batch.is
    (pair_rows g.T.Text.bytes (set_counted (pair_attribute c.in-Batch.kind) c.args.found.id) (held c.args.buffer.now) c.args.tables.now c.batch_set_pairs.new.tables c.args.index.now c.batch_set_pairs.new.index c.batch_set_pairs.result c.args.found.id c.args.found.number c.in-Batch.kind
    c.batch_set_pairs.ensures.only c.batch_set_pairs.ensures.played)
