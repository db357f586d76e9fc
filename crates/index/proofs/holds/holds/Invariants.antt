use Rattle.std.proofs.Common.{◌≡◌, ◌≤◌}
use Rattle.index.specs.Holding.{placed}
use Rattle.index.proofs.Holding.{Found, many}
use Rattle.index.proofs.holds.holds.Given as goal

abbrev pub invariant-loop-i : goal.invariant-loop-i
invariant-loop-i g l =
    Found (g.I.Index.content l.index).held (placed l.records) l.i × (l.ids ≡ many (placed l.records) l.i) × (l.ids ≤ l.i)
