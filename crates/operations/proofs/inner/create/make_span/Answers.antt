use Rattle.std.proofs.Common.{set, ap}
use Rattle.operations.proofs.inner.create.make_span.Goals as goal

pub returns-clause-makes : goal.returns-clause-makes
returns-clause-makes g c = record {
  spans = ap (set c.args.tables.now.spans.now c.args.place.number) c.new_span.ensures;
  pairs = c.fill_defaults.ensures.items;
  others = c.fill_defaults.ensures.others;
  settings = c.move_hint.ensures.same;
  entry = c.put_place.ensures.sets;
}
