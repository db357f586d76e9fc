-- Small laws: refusals told apart, the opcodes that there are, strings as they were inserted.
use Rattle.std.specs.Prelude.{◌≡◌, ℕ, ◌<◌, ◌≤◌, true, Some, None, ◌≢◌}
use Rattle.book.specs.Maps.{find, has}
use Rattle.book.specs.Book.{Text, Book}
use Rattle.book.specs.Refusals.{Refusal, told}
use Rattle.book.specs.Flush.{table}
use Rattle.book.specs.Calls.{string_insert, string_evict, step}

-- no two refusals have one number and the same values
abbrev pub ToldApart : Type 0
ToldApart = (q r : Refusal) → told q ≡ told r → q ≡ r

-- the table of opcodes has just 0 to 16
pub record OpcodesKnown : Type 0 where
  pub known : (code : ℕ) → code < 17 → has (find code table) ≡ true
  pub unknown : (code : ℕ) → 17 ≤ code → find code table ≡ None

-- an inserted string is found under its number, an evicted one is not, and the others stay
pub record StringsFound : Type 0 where
  pub insert : (k : ℕ) (t : Text) (b : Book) → k < b.setup.strings → find k (step (string_insert k t) b).0.strings ≡ Some t
  pub insert_other : (k q : ℕ) (t : Text) (b : Book) → (q ≢ k) → find q (step (string_insert k t) b).0.strings ≡ find q b.strings
  pub evict : (k : ℕ) (b : Book) → find k (step (string_evict k) b).0.strings ≡ None
  pub evict_other : (k q : ℕ) (b : Book) → (q ≢ k) → find q (step (string_evict k) b).0.strings ≡ find q b.strings
