use Rattle.std.proofs.Common.{◌≡◌, ℕ, ◌%◌, ◌<◌, length, get_or, Some, None}
use Rattle.index.specs.declared.entry.Entry.{Entry}
use Rattle.hashed_index.specs.Places.{dist, Taken}
use Rattle.hashed_index.proofs.hashed.HashedIndex.seek.Given as goal

abbrev pub invariant-loop-step : goal.invariant-loop-step
invariant-loop-step l =
    (b : ℕ) → b < length l.self.places.items → dist (length l.self.places.items) (l.id % length l.self.places.items) b < l.step
    → Taken l.self.places.items b × ((e : Entry) → get_or l.self.places.items b None ≡ Some e → e.id ≡ l.id → ⊥)
