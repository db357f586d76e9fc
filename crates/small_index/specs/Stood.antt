-- What stands in a value of the small index.
use Rattle.std.specs.Prelude.{ℕ, ◌≤◌, List, length, take, Some, None, Option}
use Rattle.std.proofs.Common.{arith, length-take}
use Rattle.index.specs.declared.entry.Entry.{Entry}
use Rattle.small_index.specs.declared.segment.SmallSegmentMap.{SmallSegmentMap}
use Rattle.small_index.specs.Standing.{standing}

-- all that stands, the first place first
abbrev pub stood : SmallSegmentMap → List Entry
stood s = standing s.first s.overflow.entries s.overflow.len

-- what stands after the first place
abbrev pub listed : SmallSegmentMap → List Entry
listed s = take s.overflow.len s.overflow.entries

-- no more stand than there are places
standing_fits : (f : Option Entry) (es : List Entry) (n : ℕ) → n ≤ 255 → length (standing f es n) ≤ 256
standing_fits None es n h = simp length-take (omega arith)
standing_fits (Some e) es n h = simp length-take (omega arith)

pub stood_fits : (s : SmallSegmentMap) → length (stood s) ≤ 256
stood_fits s = standing_fits s.first s.overflow.entries s.overflow.len s.overflow.short
