use Rattle.std.proofs.Common.{◌≡◌, ℕ, ◌%◌, ◌<◌, length, get_or, Some, None}
use Rattle.hashed_index.proofs.probe.cut_off.Given as goal
use Rattle.index.specs.declared.entry.Entry.{Entry}
use Rattle.hashed_index.specs.Places.{dist}

abbrev pub invariant-loop-step : goal.invariant-loop-step
invariant-loop-step l =
    (b : ℕ) (e : Entry) → b < length l.places → 0 < dist (length l.places) l.hole b → dist (length l.places) l.hole b < l.step
    → get_or l.places b None ≡ Some e → dist (length l.places) (e.id % length l.places) b < dist (length l.places) l.hole b
