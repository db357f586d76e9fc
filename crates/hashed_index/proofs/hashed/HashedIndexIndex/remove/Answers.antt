use Rattle.std.proofs.Common.{◌≡◌, length, Some, None, vec_items, sym, ap, ◌∙◌, subst, add-zero, arith}
use Rattle.std.specs.Vec.{with_item, with_items}
use Rattle.std.proofs.lemmas.List.{with_items_is}
use Rattle.index.specs.declared.entry.Entry.{Entry}
use Rattle.index.specs.Held.{at, Removed}
use Rattle.index.proofs.Entries.{unheld}
use Rattle.hashed_index.specs.Places.{Alone, Reached, Nearly, kept}
use Rattle.hashed_index.specs.Keeps.{kept-missing, no_spot}
use Rattle.hashed_index.proofs.Edits.{drop_alone, drop-nearly, out_means}
use Rattle.hashed_index.proofs.hashed.HashedIndexIndex.remove.Goals as goal

pub settle-requires-clause-nearly : goal.settle-requires-clause-nearly
settle-requires-clause-nearly c =
    let s = c.args.self.now in
    let i = c.in-At.i in
    let e : Entry = record { id = c.args.id; number = c.in-At.former } in
    subst (λ qs. Nearly qs i) (sym c.deref_mut.ensures.value) (drop-nearly s.places.items i e c.in-At.ensures.1 s.alone s.reached)

pub settle-requires-clause-alone : goal.settle-requires-clause-alone
settle-requires-clause-alone c =
    let s = c.args.self.now in
    let e : Entry = record { id = c.args.id; number = c.in-At.former } in
    subst Alone (sym c.deref_mut.ensures.value) (drop_alone s.places.items c.in-At.i e c.in-At.ensures.1 s.alone s.reached)

pub overflow_sub-self : goal.overflow_sub-self
overflow_sub-self c =
    let s = c.args.self.now in
    let out =
    out_means s.places.items c.deref_mut.result.now c.settle.new.places c.in-At.i c.args.id c.in-At.former s.alone s.reached c.in-At.ensures
    c.deref_mut.ensures.value c.settle.ensures.same c.settle.ensures.len in
    omega (arith, s.counted, out.2)

pub invariant_of-self : goal.invariant_of-self
invariant_of-self c =
    let s = c.args.self.now in
    let ws = c.settle.new.places in
    let wl : length ws ≡ s.places.len = omega (arith, c.settle.auto.places, c.deref_mut.ensures.len) in
    let is : vec_items (with_items (with_item s.places c.in-At.i None) ws) ≡ ws = with_items_is (with_item s.places c.in-At.i None) ws wl in
    let out =
    out_means s.places.items c.deref_mut.result.now ws c.in-At.i c.args.id c.in-At.former s.alone s.reached c.in-At.ensures
    c.deref_mut.ensures.value c.settle.ensures.same c.settle.ensures.len in
    record {
      some = s.some;
      few = s.few;
      long = ap length is ∙ wl;
      alone = subst Alone (sym is) c.settle.ensures.alone;
      reached = subst Reached (sym is) c.settle.ensures.reached;
      counted = omega (arith, s.counted, out.2, ap (λ zs. length (kept zs)) is);
    }

pub returns-in-At-clause-cases : goal.returns-in-At-clause-cases
returns-in-At-clause-cases c =
    let s = c.args.self.now in
    let ws = c.settle.new.places in
    let wl : length ws ≡ s.places.len = omega (arith, c.settle.auto.places, c.deref_mut.ensures.len) in
    let is : vec_items (with_items (with_item s.places c.in-At.i None) ws) ≡ ws = with_items_is (with_item s.places c.in-At.i None) ws wl in
    subst (λ zs. Removed (kept s.places.items) (kept zs) c.args.id (Some c.in-At.former)) (sym is)
    (out_means s.places.items c.deref_mut.result.now ws c.in-At.i c.args.id c.in-At.former s.alone s.reached c.in-At.ensures
    c.deref_mut.ensures.value c.settle.ensures.same c.settle.ensures.len)

pub returns-in_default-clause-cases : goal.returns-in_default-clause-cases
returns-in_default-clause-cases c =
    let ps = c.args.self.now.places.items in
    let none : at (kept ps) c.args.id ≡ None =
    kept-missing ps c.args.id (no_spot ps c.args.id c.seek.result c.seek.ensures c.in_default.not-At) in
    (sym none, unheld (kept ps) c.args.id none, add-zero (length (kept ps)))
