-- What a search through the places of a hashed index finds.
use Rattle.std.specs.Prelude.{◌≡◌, ℕ, ◌<◌, ◌≤◌, List, length, Some, None, Option, ◌≢◌, slice_index_or}
use Rattle.index.specs.declared.entry.Entry.{Entry}
use Rattle.hashed_index.specs.declared.probe.Spot.{Spot}
use Rattle.hashed_index.specs.declared.probe.Spot.TheVariants.{At, Free, Nowhere}
use Rattle.hashed_index.specs.Places.{dist, passed, Taken, Missing}

-- where an id stands, with its number; or else the first free place that a search comes to; or else that all are taken
abbrev pub Spotted : List (Option Entry) → ℕ → Spot → Type 0
Spotted ps k (At i n) = (i < length ps) × (slice_index_or ps i None ≡ Some (record { id = k; number = n }))
Spotted ps k (Free i) =
    (i < length ps) × (slice_index_or ps i None ≡ None) × Missing ps k
    × ((b : ℕ) → b < length ps → passed ps k b < passed ps k i → Taken ps b)
Spotted ps k Nowhere = Missing ps k × ((b : ℕ) → b < length ps → Taken ps b)

-- an entry at the place j that a search would not reach across the place h
abbrev pub Cut : List (Option Entry) → ℕ → ℕ → Type 0
Cut ps h j = (e : Entry) × (slice_index_or ps j None ≡ Some e) × (j < length ps) × (j ≢ h) × (dist (length ps) h j ≤ passed ps e.id j)
