use Rattle.std.proofs.Common.{sym, subst}
use Rattle.index.specs.Held.{Once}
use Rattle.small_index.specs.Stood.{listed}
use Rattle.small_index.proofs.Places.{once_last}
use Rattle.small_index.proofs.Stands.{moved_up, once-listed}
use Rattle.small_index.proofs.segment.SmallSegmentMap.move_up.Goals as goal

pub invariant_of-self-2-clause-once : goal.invariant_of-self-2-clause-once
invariant_of-self-2-clause-once c =
    let s = c.args.self.now in
    let a = c.pop-first.ensures in
    let is = moved_up s c.pop-first.result c.pop-first.new.self.entries c.pop-first.new.self.len a.value a.items a.len in
    subst Once (sym is) (once_last (listed s) (once-listed s))

pub returns : goal.returns
returns c =
    let a = c.pop-first.ensures in
    moved_up c.args.self.now c.pop-first.result c.pop-first.new.self.entries c.pop-first.new.self.len a.value a.items a.len
