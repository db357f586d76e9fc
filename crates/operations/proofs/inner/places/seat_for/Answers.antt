use Rattle.std.proofs.Common.{refl}
use Rattle.operations.proofs.Creating.{record_within, not_grown}
use Rattle.operations.proofs.inner.places.seat_for.Goals as goal

pub returns-in_default : goal.returns-in_default
returns-in_default g c =
    let ys = c.args.segments.now in
    let n = c.in-Some.number in (
      refl,
      not_grown _ ys c.args.id n c.in-Some.ensures (record_within _ _ ys c.args.id n c.requires c.in-Some.ensures) c.if-can_grow.ensures,
    )
