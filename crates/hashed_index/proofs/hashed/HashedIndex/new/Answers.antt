use Rattle.std.proofs.Common.{◌∙◌, sym, arith}
use Rattle.std.specs.Range.{range_inclusive_start, range_inclusive_end}
use Rattle.std.proofs.lemmas.Map.Keys.{le_from_is_le}
use Rattle.hashed_index.proofs.Edits.{none_only, all-free}
use Rattle.hashed_index.proofs.hashed.HashedIndex.new.Goals as goal

pub invariant_of-result : goal.invariant_of-result
invariant_of-result c =
    let v = c.in_ok-places.ensures in
    let n = c.args.places in
    let free = all-free c.in_ok-places.places.items n (v.items_if_clones_equal (none_only _ (λ x q. q))) in
    let range = c.if-not-contains.ensures.cases in
    record {
      some = omega (arith, v.len, c.new.ensures.start, le_from_is_le (range_inclusive_start c.new.result) n range.0);
      few = omega (arith, v.len, c.new.ensures.end, le_from_is_le n (range_inclusive_end c.new.result) range.1);
      long = free.0 ∙ sym v.len;
      alone = free.1;
      reached = free.2;
      counted = free.3;
    }
