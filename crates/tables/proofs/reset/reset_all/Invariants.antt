use Rattle.std.proofs.Common.{◌≡◌, ℕ, ◌<◌, Some}
use Rattle.std.specs.List.{slice_get}
use Rattle.tables.proofs.reset.reset_all.Given as goal

abbrev pub invariant-loop-place : goal.invariant-loop-place
invariant-loop-place g l = (k : ℕ) (x : g.row.R.Denot) → k < l.place-index → slice_get l.place-items k ≡ Some x → g.R.Reset.empty x
