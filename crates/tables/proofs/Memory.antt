-- Tables that are still the memory that was lent: those that nothing was done to, and those after one call and another.
use Rattle.std.proofs.Common.{refl, ◌∙◌}
use Rattle.tables.specs.declared.tables.Tables.{Tables}
use Rattle.tables.specs.Lent.{SameMemory}

pub memory_kept : {T : Type 0} (t : Tables T) → SameMemory t t
memory_kept t = record
    { spans = refl; span_meta = refl; span_metrics = refl; segment_meta = refl; segment_metrics = refl; strings = refl; defaults = refl }

pub memory_then : {T : Type 0} (t t₁ t₂ : Tables T) → SameMemory t t₁ → SameMemory t₁ t₂ → SameMemory t t₂
memory_then t t₁ t₂ a b = record {
  spans = b.spans ∙ a.spans;
  span_meta = b.span_meta ∙ a.span_meta;
  span_metrics = b.span_metrics ∙ a.span_metrics;
  segment_meta = b.segment_meta ∙ a.segment_meta;
  segment_metrics = b.segment_metrics ∙ a.segment_metrics;
  strings = b.strings ∙ a.strings;
  defaults = b.defaults ∙ a.defaults;
}
