use Rattle.std.proofs.Common.{sym, ◌∙◌}
use Rattle.vec_map.proofs.Steps.{going_known, going_new}
use Rattle.vec_map.proofs.row.keep_firsts.Goals as goal
use Rattle.vec_map.proofs.row.keep_firsts.Goals.{then-not-has_key, else-not-has_key}

pub loop-i-preserved : goal.loop-i-preserved
loop-i-preserved g c =
    elim c.if-not-has_key.branch [
      | then-not-has_key w ↦
          rw (w.row-is, w.count-is)
          (going_new g.K.Key.alike c.args.row.now c.loop-i.row c.loop-i.count c.loop-i.i c.index-row-i.result
          c.loop-i-test.true c.loop-i.auto.row c.loop-i.invariant c.index-row-i.is (sym c.has_key.ensures ∙ w.if-not-has_key.true))
      | else-not-has_key w ↦
          rw (w.row-is, w.count-is)
          (going_known g.K.Key.alike c.args.row.now c.loop-i.row c.loop-i.count c.loop-i.i c.index-row-i.result
          c.loop-i-test.true c.loop-i.invariant c.index-row-i.is (sym c.has_key.ensures ∙ w.if-not-has_key.false))
    ]
