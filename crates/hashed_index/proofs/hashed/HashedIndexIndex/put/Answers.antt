use Rattle.std.proofs.Common.{◌≡◌, ℕ, List, length, set, Option, Some, Ok, sym, ap, ◌∙◌, subst, arith}
use Rattle.std.proofs.lemmas.List.{length-set}
use Rattle.index.specs.declared.entry.Entry.{Entry}
use Rattle.index.specs.Held.{Put}
use Rattle.hashed_index.specs.Places.{Alone, Reached, kept}
use Rattle.hashed_index.specs.Keeps.{kept-missing, kept-le, kept-all}
use Rattle.hashed_index.proofs.Edits.{put_over, over_means, put-free, free_means}
use Rattle.hashed_index.proofs.hashed.HashedIndexIndex.put.Goals as goal
use Rattle.hashed_index.proofs.hashed.HashedIndexIndex.put.Goals.{in-At, in-Free}

pub overflow_add-self : goal.overflow_add-self
overflow_add-self c =
    let s = c.args.self.now in
    omega (arith, s.counted, kept-le s.places.items, s.long, s.few)

pub returns-in-Nowhere-clause-cases : goal.returns-in-Nowhere-clause-cases
returns-in-Nowhere-clause-cases c =
    let s = c.args.self.now in
    let h = c.in-Nowhere.ensures in
    (kept-missing s.places.items c.args.id h.0, kept-all s.places.items h.1 ∙ s.long)

pub invariant_of-self-2 : goal.invariant_of-self-2
invariant_of-self-2 c =
    let s = c.args.self.now in
    let ps = s.places.items in
    let e : Entry = record { id = c.args.id; number = c.args.number } in
    let after : ℕ × Option ℕ → List (Option Entry) = λ p. set ps p.0 (Some e) in
    let P : ℕ × Option ℕ → Type 0 = λ p. Alone (after p) × Reached (after p) × (c.match-seek.self.1.1.0 ≡ length (kept (after p))) in
    let h : P c.match-seek.i =
    elim c.match-seek.branch [
      | in-At w ↦
          let at = w.in-At in
          let p = put_over ps c.args.id c.args.number s.alone s.reached at.i at.former at.ensures in
          let m = over_means ps c.args.id c.args.number s.alone s.reached at.i at.former at.ensures 0 in
          subst P (sym w.i-is) (p.0, p.1, omega (arith, ap (λ s'. s'.1.1.0) w.self-is, s.counted, m.2))
      | in-Free w ↦
          let p = put-free ps c.args.id c.args.number s.alone s.reached w.in-Free.i w.in-Free.ensures in
          let m = free_means ps c.args.id c.args.number s.alone s.reached w.in-Free.i w.in-Free.ensures 0 in
          subst P (sym w.i-is) (p.0, p.1, omega (arith, ap (λ s'. s'.1.1.0) w.self-is, s.counted, m.2))
    ] in
    record {
      some = s.some;
      few = s.few;
      long = length-set ps c.match-seek.i.0 (Some e) ∙ s.long;
      alone = h.0;
      reached = h.1;
      counted = h.2;
    }

pub returns-clause-cases : goal.returns-clause-cases
returns-clause-cases c =
    let s = c.args.self.now in
    let ps = s.places.items in
    let e : Entry = record { id = c.args.id; number = c.args.number } in
    let P : ℕ × Option ℕ → Type 0 = λ p. Put (kept ps) (kept (set ps p.0 (Some e))) s.places.len c.args.id c.args.number (Ok p.1) in
    elim c.match-seek.branch [
      | in-At w ↦
          subst P (sym w.i-is)
          (over_means ps c.args.id c.args.number s.alone s.reached w.in-At.i w.in-At.former w.in-At.ensures s.places.len)
      | in-Free w ↦ subst P (sym w.i-is) (free_means ps c.args.id c.args.number s.alone s.reached w.in-Free.i w.in-Free.ensures s.places.len)
    ]
