use Rattle.std.proofs.Common.{◌≡◌, sym, ap, ◌∙◌, subst, rules}
use Rattle.vec_map.specs.Model.{row_of}
use Rattle.vec_map.specs.Rows.{Row, items, last_value, dedup_row, NoRepeats}
use Rattle.vec_map.proofs.Lookups.{dedup_lookup, dedup_apart}
use Rattle.vec_map.proofs.VecMap.dedup.Goals as goal

pub returns-then-not-self-clause-lookups : goal.returns-then-not-self-clause-lookups
returns-then-not-self-clause-lookups g c k =
    let same = g.K.Key.alike in
    let before = row_of c.args.self.now in
    let e : row_of c.mark_deduped.new.self ≡ dedup_row same before = search rules in
    ap (λ r. last_value same k (items r)) e ∙ dedup_lookup same g.K.Key.fair before k

pub returns-then-not-self-clause-once : goal.returns-then-not-self-clause-once
returns-then-not-self-clause-once g c f =
    let same = g.K.Key.alike in
    let before = row_of c.args.self.now in
    let e : row_of c.mark_deduped.new.self ≡ dedup_row same before = search rules in
    subst (λ (r : Row g.row.K.Denot g.row.V.Denot). NoRepeats same (items r)) (sym e) (dedup_apart same g.K.Key.fair before f)
