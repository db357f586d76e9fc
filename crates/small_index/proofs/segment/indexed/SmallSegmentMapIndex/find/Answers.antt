use Rattle.std.proofs.Common.{sym, ◌∙◌}
use Rattle.small_index.proofs.Stands.{hit_list, miss}
use Rattle.small_index.proofs.segment.indexed.SmallSegmentMapIndex.find.Goals as goal

pub returns-in_err-i : goal.returns-in_err-i
returns-in_err-i c =
    c.from_residual-in_err-i.ensures
    ∙ sym (miss c.args.self.now c.in_ok-first.first c.in_ok-first.was c.args.id c.if-first-id.false c.in_err-i.ensures)

pub returns : goal.returns
returns c =
    let h = c.in_ok-i.ensures in
    sym (hit_list c.args.self.now c.in_ok-first.first c.in_ok-first.was c.in_ok-i.i c.args.id h.0 h.1)
