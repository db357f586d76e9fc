-- One pair more at the end of a row of a table, and the head of that row.
use Rattle.std.specs.Prelude.{◌≡◌, ℕ, ◌+◌, ◌<◌, ◌≤◌, false, List, [], ◌∷◌, ◌++◌, take, Some, None, Option}
use Rattle.vec_map.specs.declared.head.Head.{Head}
use Rattle.vec_map.specs.Tables.{row, OthersStay}

-- a head after one more pair: the mark is cleared
abbrev pub one_longer : Head → Head
one_longer h = record { count = h.count + 1; deduped = false }

-- the pair stands at the end of row k, and every other row is as before
pub record Inserted {K V : Type 0} (w k limit : ℕ) (before after : List (K × V)) (old new : Head) (p : K × V) : Type 0 where
  pub place : old.count < limit
  pub head : new ≡ one_longer old
  pub pairs : take (old.count + 1) (row w k after) ≡ take old.count (row w k before) ++ p ∷ []
  pub others : OthersStay w k before after

-- one pair more where the row was below its limit; elsewhere none, and nothing changed
abbrev pub Inserts : {K V : Type 0} → ℕ → ℕ → ℕ → List (K × V) → List (K × V) → Head → Head → K × V → Option (Unit {0}) → Type 0
Inserts w k limit before after old new p (Some x) = Inserted w k limit before after old new p
Inserts w k limit before after old new p None = (limit ≤ old.count) × (after ≡ before) × (new ≡ old)
