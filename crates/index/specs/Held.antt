-- What an index means: a list of entries, of which no two have one id.
use Rattle.std.specs.Prelude.{◌≡◌, ℕ, ◌+◌, ◌<◌, if◌then◌else◌, List, [], ◌∷◌, length, is_some, Some, None, Ok, Err, Option, Result, ◌==◌, nat_eq, slice_index_or}
use Rattle.std.specs.Map.{update}
use Rattle.index.specs.declared.entry.Entry.{Entry}
use Rattle.index.specs.declared.entry.Full.{Full}

-- what an index holds, in an order that is left open, and how many ids it has room for
pub record Content : Type 0 where
  pub held : List Entry
  pub room : ℕ

-- what a list is read as past its end
abbrev pub blank : Entry
blank = record { id = 0; number = 0 }

-- the number that an id stands for
abbrev pub at : List Entry → ℕ → Option ℕ
at [] k = None
at (e ∷ es) k = if k == e.id then Some e.number else at es k

-- no id stands twice
abbrev pub Once : List Entry → Type 0
Once es = (i j : ℕ) → (i < j) × (j < length es) × ((slice_index_or es i blank).id ≡ (slice_index_or es j blank).id) → ⊥

-- a put of the number n for the id k answers the former number and changes that one; it is refused only where k is not held and the room is used up
abbrev pub Put : List Entry → List Entry → ℕ → ℕ → ℕ → Result (Option ℕ) Full → Type 0
Put before after room k n (Ok former) =
    (former ≡ at before k) × ((q : ℕ) → at after q ≡ update nat_eq (at before) k (Some n) q)
    × (length after ≡ length before + (if is_some former then 0 else 1))
Put before after room k n (Err e) = (at before k ≡ None) × (length before ≡ room)

-- a removal of the id k answers the former number and takes that one out
abbrev pub Removed : List Entry → List Entry → ℕ → Option ℕ → Type 0
Removed before after k former =
    (former ≡ at before k) × ((q : ℕ) → at after q ≡ update nat_eq (at before) k None q)
    × (length after + (if is_some former then 1 else 0) ≡ length before)
