-- The memory that a call is lent, as one value.
use Rattle.std.specs.Prelude.{◌≡◌, List}
use Rattle.index.specs.Held.{Content}
use Rattle.tables.specs.declared.segment.Segment.{Segment}
use Rattle.tables.specs.declared.settings.Settings.{Settings}
use Rattle.tables.specs.declared.tables.Tables.{Tables}
use Rattle.tables.specs.Store.{Store, store}

abbrev pub passed : {T : Type 0} → Tables T → List (Segment T) → Settings T → Content → Content → Store T
passed t gs s ids seats =
    store t.spans.now t.span_meta.now t.span_metrics.now gs t.segment_meta.now t.segment_metrics.now t.strings.now t.defaults.now s ids.held ids.room seats.held seats.room

-- the tables are still the memory that was lent
pub record SameMemory {T : Type 0} (old new : Tables T) : Type 0 where
  pub spans : new.spans.ghost_name ≡ old.spans.ghost_name
  pub span_meta : new.span_meta.ghost_name ≡ old.span_meta.ghost_name
  pub span_metrics : new.span_metrics.ghost_name ≡ old.span_metrics.ghost_name
  pub segment_meta : new.segment_meta.ghost_name ≡ old.segment_meta.ghost_name
  pub segment_metrics : new.segment_metrics.ghost_name ≡ old.segment_metrics.ghost_name
  pub strings : new.strings.ghost_name ≡ old.strings.ghost_name
  pub defaults : new.defaults.ghost_name ≡ old.defaults.ghost_name
