use Rattle.std.proofs.Common.{refl}
use Rattle.vec_map.specs.Rows.{insert_row}
use Rattle.vec_map.specs.Worked.{three}
use Rattle.vec_map.proofs.worked.worked_case.Goals as goal

pub returns : goal.returns
unfolding insert_row three
returns c = (refl, refl, refl, refl)
