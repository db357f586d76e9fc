-- A segment's three sampling decisions, set together.
use Rattle.std.specs.Prelude.{ℕ, List, Some, None, Ok, Err, Option, Result, slice_set}
use Rattle.std.specs.List.{slice_get}
use Rattle.index.specs.Held.{at}
use Rattle.tables.specs.declared.segment.Decisions.{Decisions}
use Rattle.tables.specs.declared.segment.Segment.{Segment}
use Rattle.tables.specs.Store.{Store, store}

-- a segment with these decisions
abbrev pub decided : {T : Type 0} → Decisions → Segment T → Segment T
decided d x = record { id = x.id; count = x.count; meta = x.meta; metrics = x.metrics; origin = x.origin; rule = d.rule; limit = d.limit; agent = d.agent }

-- the records with one of them changed, if there is one
abbrev pub changed_there : {A : Type 0} → (A → A) → List A → ℕ → Option A → List A
changed_there f xs n None = xs
changed_there f xs n (Some x) = slice_set xs n (f x)

abbrev pub changed_at : {A : Type 0} → (A → A) → List A → Option ℕ → List A
changed_at f xs None = xs
changed_at f xs (Some n) = changed_there f xs n (slice_get xs n)

-- the memory with other segment records
abbrev pub with_segments : {T : Type 0} → List (Segment T) → Store T → Store T
with_segments gs m = store m.spans m.span_meta m.span_metrics gs m.segment_meta m.segment_metrics m.strings m.defaults m.settings m.ids m.ids_room m.seats m.seats_room

-- all memory afterwards: the segment that the index finds has the decisions
abbrev pub decided_in : {T E : Type 0} → ℕ → Decisions → Result (Unit {0}) E → Store T → Store T
decided_in id d (Ok x) m = with_segments (changed_at (decided d) m.segments (at m.seats id)) m
decided_in id d (Err e) m = m
