-- A map as a row.
use Rattle.vec_map.specs.declared.VecMap.{VecMap}
use Rattle.vec_map.specs.Rows.{Row}
use Rattle.vec_map.specs.Tables.{headed}

abbrev pub row_of : {K V : Type 0} → VecMap K V → Row K V
row_of m = headed m.pairs.now m.head
