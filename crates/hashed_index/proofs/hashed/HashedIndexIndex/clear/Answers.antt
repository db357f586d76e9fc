use Rattle.std.proofs.Common.{◌∙◌, sym, arith}
use Rattle.hashed_index.proofs.Edits.{none_only, all-free}
use Rattle.hashed_index.proofs.hashed.HashedIndexIndex.clear.Goals as goal

pub invariant_of-self : goal.invariant_of-self
invariant_of-self c =
    let s = c.args.self.now in
    let f = c.fill.ensures in
    let free = all-free c.fill.new.self.items s.places.len (f.items (none_only _ (λ x q. q))) in
    record {
      some = omega (arith, s.some, f.len);
      few = omega (arith, s.few, f.len);
      long = free.0 ∙ sym f.len;
      alone = free.1;
      reached = free.2;
      counted = free.3;
    }
