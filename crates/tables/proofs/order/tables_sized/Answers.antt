use Rattle.tables.proofs.order.tables_sized.Goals as goal
use Rattle.tables.proofs.order.tables_sized.Goals.{then-lengths_allowed, else-lengths_allowed}

pub returns-then-lengths_allowed-2 : goal.returns-then-lengths_allowed-2
returns-then-lengths_allowed-2 g c =
    elim c.if-lengths_allowed.branch [
      | then-lengths_allowed w ↦ (
        (λ yes'. record {
          span_lengths = c.lengths_allowed.ensures.0 (cc);
          segment_lengths = w.lengths_allowed-then-lengths_allowed.ensures.0 (cc);
          others = c.others_allowed.ensures.0 yes';
        }),
        λ sized. c.others_allowed.ensures.1 sized.others,
      )
      | else-lengths_allowed w ↦ absurd (cc)
    ]
