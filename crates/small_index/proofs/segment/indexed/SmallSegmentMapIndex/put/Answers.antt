use Rattle.std.proofs.Common.{◌<◌, Some, None, sym, refl, ap, ◌∙◌, arith}
use Rattle.index.specs.declared.entry.Entry.{Entry}
use Rattle.small_index.specs.Stood.{stood}
use Rattle.small_index.proofs.Places.{puts-once, puts_means}
use Rattle.small_index.proofs.Stands.{full, hit_list, miss, put_first, put_list, put-end}
use Rattle.small_index.proofs.segment.indexed.SmallSegmentMapIndex.put.Goals as goal

pub invariant_of-self-then-first-id-clause-once : goal.invariant_of-self-then-first-id-clause-once
invariant_of-self-then-first-id-clause-once c =
    let s = c.args.self.now in
    let e : Entry = record { id = c.args.id; number = c.args.number } in
    puts-once (stood s) _ s.once e (put_first s c.in-Some.first c.in-Some.is e c.if-first-id.true)

pub invariant_of-self-in-Some-place-clause-once : goal.invariant_of-self-in-Some-place-clause-once
invariant_of-self-in-Some-place-clause-once c =
    let s = c.args.self.now in
    let e : Entry = record { id = c.args.id; number = c.args.number } in
    let h = c.in-Some-place.ensures in
    let a = c.replace.ensures in
    puts-once (stood s) _ s.once e
    (put_list s c.in-Some.first c.in-Some.is e c.in-Some-place.i h.0 h.1 c.replace.new.self.entries c.replace.new.self.len a.items a.len)

pub returns-in-Some-place : goal.returns-in-Some-place
returns-in-Some-place c =
    let s = c.args.self.now in
    let e : Entry = record { id = c.args.id; number = c.args.number } in
    let h = c.in-Some-place.ensures in
    let a = c.replace.ensures in
    let is = put_list s c.in-Some.first c.in-Some.is e c.in-Some-place.i h.0 h.1 c.replace.new.self.entries c.replace.new.self.len a.items a.len in
    let former = ap Some a.value ∙ sym (hit_list s c.in-Some.first c.in-Some.is c.in-Some-place.i c.args.id h.0 h.1) in
    record { cases = puts_means (stood s) _ s.once e (Some c.replace.result) is former; same = tt; capacity = refl; places = is }

pub returns-then-is_full-clause-cases : goal.returns-then-is_full-clause-cases
returns-then-is_full-clause-cases c =
    let s = c.args.self.now in
    let f = c.in-Some.first in (
      miss s f c.in-Some.is c.args.id c.if-first-id.false c.in_default-place.ensures,
      omega (arith, full s f c.in-Some.is, c.is_full.ensures.0 c.if-is_full.true),
    )

pub invariant_of-self-2-clause-once : goal.invariant_of-self-2-clause-once
invariant_of-self-2-clause-once c =
    let s = c.args.self.now in
    let e : Entry = record { id = c.args.id; number = c.args.number } in
    let a = c.push.ensures in
    let lt : s.overflow.len < 255 = omega (arith, s.overflow.short) in
    puts-once (stood s) _ s.once e
    (put-end s c.in-Some.first c.in-Some.is e c.if-first-id.false c.in_default-place.ensures c.push.new.self.entries c.push.new.self.len lt a.items a.len)

pub returns : goal.returns
returns c =
    let s = c.args.self.now in
    let e : Entry = record { id = c.args.id; number = c.args.number } in
    let a = c.push.ensures in
    let lt : s.overflow.len < 255 = omega (arith, s.overflow.short) in
    let is = put-end s c.in-Some.first c.in-Some.is e c.if-first-id.false c.in_default-place.ensures c.push.new.self.entries c.push.new.self.len lt a.items a.len in
    let former = sym (miss s c.in-Some.first c.in-Some.is c.args.id c.if-first-id.false c.in_default-place.ensures) in
    record { cases = puts_means (stood s) _ s.once e None is former; same = tt; capacity = refl; places = is }
