-- The default pairs after a list of them was set.
use Rattle.std.specs.Prelude.{◌≡◌, ℕ, ◌<◌, ◌≤◌, List, ◌++◌, length, drop, Ok, Err, Result}
use Rattle.refusals.specs.declared.ChangeBufferError.{ChangeBufferError}
use Rattle.refusals.specs.declared.ChangeBufferError.TheVariants.{TooManyDefaults}
use Rattle.tables.specs.declared.settings.Settings.{Settings}
use Rattle.tables.specs.Store.{Store, store}

-- the settings with another number of default pairs
abbrev pub with_count : {T : Type 0} → ℕ → Settings T → Settings T
with_count n s = record { service = s.service; language = s.language; pid = s.pid; defaults = n; next_free = s.next_free }

-- the memory with other default pairs and settings
abbrev pub with_defaults : {T : Type 0} → List (T × T) → Settings T → Store T → Store T
with_defaults ds s m = store m.spans m.span_meta m.span_metrics m.segments m.segment_meta m.segment_metrics m.strings ds s m.ids m.ids_room m.seats m.seats_room

-- at most 32 pairs replace the last list: they fill the first places, and the others stay
abbrev pub Replaces : {T : Type 0} → List (T × T) → List (T × T) → List (T × T) → Settings T → Settings T → Result (Unit {0}) ChangeBufferError → Type 0
Replaces pairs before after s t (Ok x) = (length pairs ≤ 32) × (after ≡ pairs ++ drop (length pairs) before) × (t ≡ with_count (length pairs) s)
Replaces pairs before after s t (Err e) = (32 < length pairs) × (e ≡ TooManyDefaults) × (after ≡ before) × (t ≡ s)

-- all memory afterwards
abbrev pub replaced : {T E : Type 0} → List (T × T) → Result (Unit {0}) E → Store T → Store T
replaced pairs (Ok x) m = with_defaults (pairs ++ drop (length pairs) m.defaults) (with_count (length pairs) m.settings) m
replaced pairs (Err e) m = m
