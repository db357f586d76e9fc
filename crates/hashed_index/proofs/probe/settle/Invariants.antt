use Rattle.std.proofs.Common.{◌≡◌, ℕ, ◌<◌, length, get_or, None}
use Rattle.hashed_index.proofs.probe.settle.Given as goal
use Rattle.index.specs.Held.{at}
use Rattle.hashed_index.specs.Places.{Nearly, Alone, kept}
use Rattle.hashed_index.proofs.Moves.{spread}

abbrev pub invariant-loop-j : goal.invariant-loop-j
invariant-loop-j l =
    (l.hole < length l.places) × (get_or l.places l.hole None ≡ None) × Nearly l.places l.hole × Alone l.places
    × ((q : ℕ) → at (kept l.places) q ≡ at (kept l.initial.places) q)
    × (length (kept l.places) ≡ length (kept l.initial.places))

abbrev pub decreases-loop-j : goal.decreases-loop-j
decreases-loop-j l = spread l.places
