use Rattle.std.proofs.Common.{◌≡◌, ℕ, ◌<◌, ◌≤◌, Some}
use Rattle.std.specs.List.{slice_get}
use Rattle.index.proofs.Holding.{Found, many}
use Rattle.tables.specs.Store.{key_at}
use Rattle.tables.proofs.record.kept_in.Given as goal

abbrev pub invariant-loop-i : goal.invariant-loop-i
invariant-loop-i g l = record {
  limits : (r : ℕ) (x : g.row.R.Denot) → r < l.i → slice_get l.records r ≡ Some x → g.R.Record.limits x;
  found : Found (g.I.Index.content l.index).held (key_at g.R.Record.key_of l.records) l.i;
  counted : l.used ≡ many (key_at g.R.Record.key_of l.records) l.i;
  fits : l.used ≤ l.i;
}
