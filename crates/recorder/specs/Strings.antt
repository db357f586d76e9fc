-- The string table after the calls on it.
use Rattle.std.specs.Prelude.{ℕ, List, Ok, Err, Option, Result, slice_set}
use Rattle.tables.specs.Store.{Store, store}

-- the memory with another string table
abbrev pub with_strings : {T : Type 0} → List (Option T) → Store T → Store T
with_strings ss m = store m.spans m.span_meta m.span_metrics m.segments m.segment_meta m.segment_metrics ss m.defaults m.settings m.ids m.ids_room m.seats m.seats_room

-- an accepted call puts a string, or none, under a number, and changes nothing else; past the table's end there is nothing to change
abbrev pub written : {T E : Type 0} → ℕ → Option T → Result (Unit {0}) E → Store T → Store T
written k t (Ok x) m = with_strings (slice_set m.strings k t) m
written k t (Err e) m = m
