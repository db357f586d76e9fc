-- What set-up leaves.
use Rattle.std.specs.Prelude.{◌≡◌, ℕ, length, Ok, Err, Result}
use Rattle.refusals.specs.declared.ChangeBufferError.{ChangeBufferError}
use Rattle.refusals.specs.declared.ChangeBufferError.TheVariants.{OutOfOrder}
use Rattle.book.specs.Book.{Text, Setup, new_book}
use Rattle.tables.specs.declared.settings.Settings.{Settings}
use Rattle.tables.specs.Store.{Store}
use Rattle.tables.specs.InOrder.{Sized}
use Rattle.tables.specs.Shows.{Shows}

-- what set-up is told: service, language and process id, and the tables' lengths
abbrev pub told_of : {T : Type 0} → (T → Text) → (service language : T) → (pid : ℕ) → Store T → Setup
told_of bytes s l p m = record {
  service = bytes s;
  language = bytes l;
  pid = p;
  spans = length m.spans;
  segments = length m.segments;
  strings = length m.strings;
}

-- pairs, default pairs and capacities stay as they were
pub record RowsStay {T : Type 0} (before after : Store T) : Type 0 where
  pub span_meta : after.span_meta ≡ before.span_meta
  pub span_metrics : after.span_metrics ≡ before.span_metrics
  pub segment_meta : after.segment_meta ≡ before.segment_meta
  pub segment_metrics : after.segment_metrics ≡ before.segment_metrics
  pub defaults : after.defaults ≡ before.defaults
  pub ids_room : after.ids_room ≡ before.ids_room
  pub seats_room : after.seats_room ≡ before.seats_room

-- accepted where lengths and capacities are as they must be: the memory then shows the new book. Refused (1) elsewhere, and nothing has changed
abbrev pub SetsUp : {T : Type 0} → (T → Text) → (service language : T) → (pid : ℕ) → (before after : Store T) → Result (Unit {0}) ChangeBufferError → Type 0
SetsUp bytes s l p before after (Ok x) = Sized before × Shows bytes after (new_book (told_of bytes s l p before)) × RowsStay before after
SetsUp bytes s l p before after (Err e) = (Sized before → ⊥) × (e ≡ OutOfOrder) × (after ≡ before)

-- the settings afterwards
abbrev pub fresh : {T : Type 0} → (service language : T) → (pid : ℕ) → Settings T
fresh s l p = record { service = s; language = l; pid = p; defaults = 0; next_free = 0 }
