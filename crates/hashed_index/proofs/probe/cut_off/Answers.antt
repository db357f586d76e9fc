use Rattle.std.proofs.Common.{inl, inr, arith}
use Rattle.hashed_index.proofs.Seeks as seeks
use Rattle.hashed_index.proofs.probe.cut_off.Goals as goal

pub returns-in_err-e : goal.returns-in_err-e
returns-in_err-e c =
    rw c.from_residual.ensures
    (seeks.closed c.args.places.now c.args.hole c.requires.within c.requires.free c.requires.nearly c.loop-step.step c.loop-step.invariant
    (inr (c.along-j.result, c.along-j.ensures.within, c.along-j.ensures.value, omega arith, c.in_err-e.was)))

pub returns : goal.returns
returns c =
    seeks.closed c.args.places.now c.args.hole c.requires.within c.requires.free c.requires.nearly c.loop-step.step c.loop-step.invariant (inl (omega arith))
