use Rattle.std.proofs.Common.{get_or, not, set, sym, ap, ◌∙◌}
use Rattle.std.specs.List.{slice_get}
use Rattle.std.proofs.lemmas.Option.{slice_get-get_or}
use Rattle.std.proofs.lemmas.Bool.{lt-ltb, le-ltb}
use Rattle.index.proofs.Entries.{same_some}
use Rattle.operations.specs.Made.{counted_in}
use Rattle.operations.proofs.Taking.{put_same}
use Rattle.operations.proofs.Making.{counted_own, counted-new}
use Rattle.operations.proofs.Creating.{own_seat}
use Rattle.operations.proofs.inner.create.enter_segment.Goals as goal

pub returns-then-segment-gt0-clause-enters : goal.returns-then-segment-gt0-clause-enters
returns-then-segment-gt0-clause-enters g c =
    let ys = c.args.segments.now in
    let p = c.args.place in
    let x = get_or ys p.number c.index-segments-place.result in
    let there = slice_get-get_or ys p.number c.index-segments-place.result c.requires.within in
    let es = (g.G.Index.content c.args.by_segment.now).held in
    record {
      segments = λ y e. ap (set ys p.number) (sym (counted_own p.id x c.if-segment-gt0.true) ∙ ap (counted_in p.id) (same_some (slice_get ys p.number) x y there e));
      entry = put_same es p.id p.number (own_seat es ys p.id p.number c.requires.own x there (ap not (lt-ltb 0 x.count c.if-segment-gt0.true)));
    }

pub returns-else-segment-gt0-clause-enters : goal.returns-else-segment-gt0-clause-enters
returns-else-segment-gt0-clause-enters g c =
    let ys = c.args.segments.now in
    let p = c.args.place in
    let x = get_or ys p.number c.index-segments-place.result in
    let there = slice_get-get_or ys p.number c.index-segments-place.result c.requires.within in
    record {
      segments = λ y e. ap (set ys p.number) (c.new_segment.ensures ∙ (sym (counted-new p.id x (le-ltb 0 x.count c.if-segment-gt0.false)) ∙ ap (counted_in p.id) (same_some (slice_get ys p.number) x y there e)));
      entry = c.put_place.ensures.sets;
    }
