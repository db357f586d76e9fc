use Rattle.std.proofs.Common.{◌≡◌, length, ◌∙◌, arith, length-drop, length-take}
use Rattle.vec_map.proofs.TableRows.{others_stay}
use Rattle.vec_map.proofs.table.insert_at.Goals as goal

pub returns-in-Some-clause-others : goal.returns-in-Some-clause-others
returns-in-Some-clause-others g c =
    let l : length c.insert_row.new.row ≡ c.args.width = c.insert_row.auto.row ∙ simp (length-take, length-drop) (omega arith) in
    others_stay c.args.width c.args.at c.in-Some.from c.args.table.now c.insert_row.new.row c.in-Some.ensures.0 c.in-Some.ensures.1 l
