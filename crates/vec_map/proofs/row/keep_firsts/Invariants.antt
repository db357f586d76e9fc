use Rattle.vec_map.proofs.Steps.{Going}
use Rattle.vec_map.proofs.row.keep_firsts.Given as goal

abbrev pub invariant-loop-i : goal.invariant-loop-i
invariant-loop-i g l = Going g.K.Key.alike l.initial.row l.row l.count l.i
