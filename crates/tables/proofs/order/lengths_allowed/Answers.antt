use Rattle.std.proofs.Common.{rules}
use Rattle.tables.proofs.order.lengths_allowed.Goals as goal
use Rattle.tables.proofs.order.lengths_allowed.Goals.{then-contains, else-contains, then-eq, else-eq}

pub returns-then-eq-2 : goal.returns-then-eq-2
returns-then-eq-2 g c =
    elim c.if-eq.branch [
      | then-eq w ↦
          elim c.if-contains.branch [
            | then-contains v ↦ (
              (λ yes'. record {
                some = search rules;
                few = search rules;
                text_rows = search rules;
                number_rows = search rules;
                roomy = search rules;
              }),
              λ allowed. search rules,
            )
            | else-contains v ↦ absurd (cc)
          ]
      | else-eq w ↦ absurd (cc)
    ]
