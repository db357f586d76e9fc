use Rattle.std.proofs.Common.{◌∙◌, arith}
use Rattle.hashed_index.proofs.Moves as moves
use Rattle.hashed_index.proofs.probe.settle.Goals as goal

pub loop-j-smaller : goal.loop-j-smaller
loop-j-smaller c =
    let ps = c.loop-j.places in
    let k = c.in-Some.ensures in
    let v = c.loop-j.invariant in
    moves.moved-spread ps c.loop-j.hole c.in-Some.j k.0 k.1 k.2 k.3 k.4 v.0 v.1 v.2 v.3 c.swap.new.self c.swap.ensures.after

pub loop-j-preserved : goal.loop-j-preserved
loop-j-preserved c =
    let ps = c.loop-j.places in
    let h = c.loop-j.hole in
    let j = c.in-Some.j in
    let k = c.in-Some.ensures in
    let v = c.loop-j.invariant in (
      omega (arith, k.2, moves.moved-len ps h j k.0 k.1 k.2 k.3 k.4 v.0 v.1 v.2 v.3 c.swap.new.self c.swap.ensures.after),
      moves.moved-free ps h j k.0 k.1 k.2 k.3 k.4 v.0 v.1 v.2 v.3 c.swap.new.self c.swap.ensures.after,
      moves.moved-nearly ps h j k.0 k.1 k.2 k.3 k.4 v.0 v.1 v.2 v.3 c.swap.new.self c.swap.ensures.after,
      moves.moved_alone ps h j k.0 k.1 k.2 k.3 k.4 v.0 v.1 v.2 v.3 c.swap.new.self c.swap.ensures.after,
      λ q. moves.moved_at ps h j k.0 k.1 k.2 k.3 k.4 v.0 v.1 v.2 v.3 c.swap.new.self c.swap.ensures.after q ∙ v.4 q,
      moves.moved-count ps h j k.0 k.1 k.2 k.3 k.4 v.0 v.1 v.2 v.3 c.swap.new.self c.swap.ensures.after ∙ v.5,
    )
