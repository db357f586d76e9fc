use Rattle.std.proofs.Common.{sym}
use Rattle.operations.specs.Fields.{kind_of}
use Rattle.operations.proofs.Noting.{done_dropped, seated}
use Rattle.operations.proofs.inner.segments.add_segment_pair.Goals as goal

pub pair_at-requires : goal.pair_at-requires
pair_at-requires g c = record { row = c.requires.rows c.args.id c.in-Some.number (sym c.in-Some.ensures) }

pub returns-in-Some-clause-done : goal.returns-in-Some-clause-done
returns-in-Some-clause-done g c = seated g.T.Text.bytes c.args.id c.in-Some.number _ (kind_of c.args.pair) _ _ _ _ (g.G.Index.content c.args.by_segment.now).held _ (sym c.in-Some.ensures) c.pair_at.ensures.done

pub returns-in-None-clause-done : goal.returns-in-None-clause-done
returns-in-None-clause-done g c = λ m o. done_dropped g.T.Text.bytes _ c.args.id _ o (sym c.in-None.ensures)
