-- What code over a buffer can promise: it plays an act of the book, from the books that P holds of to those that Q holds of.
use Rattle.std.specs.Prelude.{◌≡◌, ℕ, ◌≤◌, List, length, drop}
use Rattle.book.specs.Book.{Book}
use Rattle.book.specs.Refusals.{Refusal}
use Rattle.book.specs.Actions.{Fault, Out, went, stopped, Act, refusal_at}

-- how the code ends: at an offset with a value, or with a refusal
pub data Ending (A : Type 0) : Type 0 where
  reached : (offset : ℕ) → A → Ending A
  turned_down : Refusal → Ending A

-- the act's outcome is that ending, and Q holds of its book
abbrev pub Ended : {A : Type 0} → List ℕ → (Book → Type 0) → Ending A → Out A → Type 0
Ended buffer Q (reached offset a) o = (b : Book) × (o ≡ went a b (drop offset buffer)) × (offset ≤ length buffer) × Q b
Ended buffer Q (turned_down r) o = (f : Fault) × ((b : Book) × (o ≡ stopped f b) × (r ≡ refusal_at (length buffer) f) × Q b)

-- from every book that P holds of, with the bytes from an offset on
pub record Acts {A : Type 0} (act : Act A) (buffer : List ℕ) (P : Book → Type 0) (offset : ℕ) (Q : Book → Type 0) (end : Ending A) : Type 0 where
  pub acts : (b : Book) → offset ≤ length buffer → P b → Ended buffer Q end (act b (drop offset buffer))
