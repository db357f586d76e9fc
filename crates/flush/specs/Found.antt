-- A live span's record, as it was found last.
use Rattle.std.specs.Prelude.{◌≡◌, ℕ, List, Some, None, Ok, Err, Option, Result}
use Rattle.std.specs.List.{slice_get}
use Rattle.index.specs.declared.entry.Entry.{Entry}
use Rattle.index.specs.Held.{at}
use Rattle.refusals.specs.declared.ChangeBufferError.{ChangeBufferError}
use Rattle.refusals.specs.declared.ChangeBufferError.TheVariants.{SpanNotFound}
use Rattle.tables.specs.declared.span.Span.{Span}

-- what was found last, if anything, is still so
abbrev pub Cached : List Entry → Option Entry → Type 0
Cached es None = Unit {0}
Cached es (Some f) = at es f.id ≡ Some f.number

-- the id, and the number of its record; refused where it has none
abbrev pub Finds : List Entry → ℕ → Result Entry ChangeBufferError → Type 0
Finds es id (Ok f) = (f.id ≡ id) × (at es id ≡ Some f.number)
Finds es id (Err e) = (at es id ≡ None) × (e ≡ SpanNotFound id)

-- the segment's id in the record with a number
abbrev pub SegmentAt : {T : Type 0} → List (Span T) → ℕ → ℕ → Type 0
SegmentAt {T} xs r s = (x : Span T) → slice_get xs r ≡ Some x → s ≡ x.segment
