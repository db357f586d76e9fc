-- The places of a hashed index: how they are searched, and what stands in them.
use Rattle.std.specs.Prelude.{◌≡◌, ℕ, ◌+◌, ◌-◌, ◌%◌, ◌<◌, true, if◌then◌else◌, List, [], ◌∷◌, length, is_some, Some, None, Option, ◌≢◌, nat_le, slice_index_or}
use Rattle.index.specs.declared.entry.Entry.{Entry}

-- what stands in the places
abbrev pub kept : List (Option Entry) → List Entry
kept [] = []
kept (None ∷ ps) = kept ps
kept (Some e ∷ ps) = e ∷ kept ps

-- a place in which an entry stands
abbrev pub Taken : List (Option Entry) → ℕ → Type 0
Taken ps i = is_some (slice_index_or ps i None) ≡ true

-- an id that stands nowhere
abbrev pub Missing : List (Option Entry) → ℕ → Type 0
Missing ps k = (i : ℕ) (e : Entry) → slice_index_or ps i None ≡ Some e → e.id ≢ k

-- no id stands twice
abbrev pub Alone : List (Option Entry) → Type 0
Alone ps = (i j : ℕ) → (e : Entry) × (slice_index_or ps i None ≡ Some e) × (f : Entry) × (slice_index_or ps j None ≡ Some f) × (e.id ≡ f.id) → i ≡ j

-- how many steps on, round the end of n places, the place b is from a
abbrev pub dist : ℕ → ℕ → ℕ → ℕ
dist n a b = if nat_le a b then b - a else b + n - a

-- how many places a search for the id k passes before it comes to the place b
abbrev pub passed : List (Option Entry) → ℕ → ℕ → ℕ
passed ps k b = dist (length ps) (k % length ps) b

-- an entry that a search reaches: each place that it passes on the way is taken
abbrev pub Reached : List (Option Entry) → Type 0
Reached ps = (p b : ℕ) → (e : Entry) × (slice_index_or ps p None ≡ Some e) × (b < length ps) × (passed ps e.id b < passed ps e.id p) → Taken ps b

-- the same, but for the place h
abbrev pub Nearly : List (Option Entry) → ℕ → Type 0
Nearly ps h = (p b : ℕ) (e : Entry) → (slice_index_or ps p None ≡ Some e) × (b < length ps) × (passed ps e.id b < passed ps e.id p) → (b ≢ h) → Taken ps b
