use Rattle.std.proofs.Common.{rules}
use Rattle.tables.proofs.order.tables_in_order.Goals as goal
use Rattle.tables.proofs.order.tables_in_order.Goals.{then-tables_sized, else-tables_sized, then-settings-le-MOST_DEFAULTS, else-settings-le-MOST_DEFAULTS}

pub returns-then-kept_in : goal.returns-then-kept_in
returns-then-kept_in g c =
    elim c.if-settings-le-MOST_DEFAULTS.branch [
      | then-settings-le-MOST_DEFAULTS w ↦
          elim c.if-tables_sized.branch [
            | then-tables_sized v ↦
                let sized = c.tables_sized.ensures.0 v.if-tables_sized.true in (
                  (λ yes'. record {
                    span_lengths = sized.span_lengths;
                    segment_lengths = sized.segment_lengths;
                    others = search rules;
                    spans = w.kept_in.ensures.0 (cc);
                    segments = c.kept_in-then-kept_in.ensures.0 yes';
                  }),
                  λ order. c.kept_in-then-kept_in.ensures.1 order.segments,
                )
            | else-tables_sized v ↦ absurd (cc)
          ]
      | else-settings-le-MOST_DEFAULTS w ↦ absurd (cc)
    ]
