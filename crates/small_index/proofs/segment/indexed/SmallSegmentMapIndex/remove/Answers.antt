use Rattle.std.proofs.Common.{Some, sym, refl, ap, ◌∙◌}
use Rattle.std.proofs.lemmas.Option.{none-some}
use Rattle.small_index.specs.Stood.{stood}
use Rattle.small_index.proofs.Places.{outs-once, outs_means}
use Rattle.small_index.proofs.Stands.{hit-first, hit_list, miss, out_none, out_first, out_list}
use Rattle.small_index.proofs.segment.indexed.SmallSegmentMapIndex.remove.Goals as goal

pub returns-then-first-id : goal.returns-then-first-id
returns-then-first-id c =
    let s = c.args.self.now in
    let f = c.in_ok-first.first in
    let first = c.in_ok-first.was in
    let is = c.move_up.ensures ∙ out_first s f first c.args.id c.if-first-id.true in
    record {
      cases = outs_means (stood s) _ s.once c.args.id (Some f.number) is (sym (hit-first s f first c.args.id c.if-first-id.true));
      same = λ n. absurd (none-some _ (sym n));
      capacity = refl;
      places = is;
    }

pub returns-in_err-i : goal.returns-in_err-i
returns-in_err-i c =
    let s = c.args.self.now in
    let f = c.in_ok-first.first in
    let first = c.in_ok-first.was in
    let none = c.in_err-i.ensures in
    let is = out_none s f first c.args.id c.if-first-id.false none in
    let former = c.from_residual-in_err-i.ensures ∙ sym (miss s f first c.args.id c.if-first-id.false none) in
    record {
      cases = outs_means (stood s) (stood s) s.once c.args.id c.from_residual-in_err-i.result is former;
      same = λ _. refl;
      capacity = refl;
      places = is;
    }

pub invariant_of-self-clause-once : goal.invariant_of-self-clause-once
invariant_of-self-clause-once c =
    let s = c.args.self.now in
    let h = c.in_ok-i.ensures in
    let a = c.swap_remove.ensures in
    outs-once (stood s) _ s.once c.args.id
    (out_list s c.in_ok-first.first c.in_ok-first.was c.in_ok-i.i c.args.id h.0 h.1 c.swap_remove.new.self.entries c.swap_remove.new.self.len a.items a.len)

pub returns : goal.returns
returns c =
    let s = c.args.self.now in
    let h = c.in_ok-i.ensures in
    let a = c.swap_remove.ensures in
    let is = out_list s c.in_ok-first.first c.in_ok-first.was c.in_ok-i.i c.args.id h.0 h.1 c.swap_remove.new.self.entries c.swap_remove.new.self.len a.items a.len in
    let former = ap Some a.value ∙ sym (hit_list s c.in_ok-first.first c.in_ok-first.was c.in_ok-i.i c.args.id h.0 h.1) in
    record {
      cases = outs_means (stood s) _ s.once c.args.id (Some c.swap_remove.result) is former;
      same = λ n. absurd (none-some _ (sym n));
      capacity = refl;
      places = is;
    }
