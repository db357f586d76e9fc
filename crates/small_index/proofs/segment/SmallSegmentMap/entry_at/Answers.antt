use Rattle.std.proofs.Common.{◌∙◌}
use Rattle.small_index.proofs.Stands.{nth_stood}
use Rattle.small_index.proofs.segment.SmallSegmentMap.entry_at.Goals as goal

pub returns-else-place-eq0 : goal.returns-else-place-eq0
returns-else-place-eq0 c = c.get.ensures ∙ nth_stood c.args.self.now c.args.place c.if-place-eq0.false
