-- A row of pairs: its memory, how many pairs of it count, and its mark; the value of a key, and what each change leaves.
use Rattle.std.specs.Prelude.{◌≡◌, ℕ, ◌+◌, Bool, true, false, if◌then◌else◌, List, [], ◌∷◌, ◌++◌, reverse, length, take, drop, Some, None, Ok, Err, Option, Result, nat_le, slice_set}
use Rattle.std.specs.List.{list_any}
use Rattle.std.specs.Option.{option_or}

-- what the sameness of keys is held to
pub record Equivalence {K : Type 0} (same : K → K → Bool) : Type 0 where
  pub itself : (a : K) → same a a ≡ true
  pub either : (a b : K) → same a b ≡ same b a
  pub onward : (a b c : K) → same a b ≡ true → same b c ≡ true → same a c ≡ true

-- the value of the last pair with the key k
abbrev pub last_value : {K V : Type 0} → (K → K → Bool) → K → List (K × V) → Option V
last_value same k [] = None
last_value same k (p ∷ ps) = option_or (last_value same k ps) (if same p.0 k then Some p.1 else None)

-- k is one of the keys
abbrev pub known : {K V : Type 0} → (K → K → Bool) → K → List (K × V) → Bool
known same k ps = list_any (λ p. same p.0 k) ps

-- each key's first pair, in order, leaving out the keys that stand in `kept`
abbrev pub firsts : {K V : Type 0} → (K → K → Bool) → List (K × V) → List (K × V) → List (K × V)
firsts same kept [] = []
firsts same kept (p ∷ ps) = if known same p.0 kept then firsts same kept ps else p ∷ firsts same (kept ++ p ∷ []) ps

-- pairs without repeated keys: reversed, then each key's first pair
abbrev pub without_repeats : {K V : Type 0} → (K → K → Bool) → List (K × V) → List (K × V)
without_repeats same xs = firsts same [] (reverse xs)

-- no key stands twice
abbrev pub NoRepeats : {K V : Type 0} → (K → K → Bool) → List (K × V) → Type 0
NoRepeats same [] = Unit {0}
NoRepeats same (p ∷ ps) = (known same p.0 ps ≡ false) × NoRepeats same ps

-- the memory of a row of len pairs after the repeats are taken out: the pairs that are kept, then what the reversed row leaves there
abbrev pub deduped_room : {K V : Type 0} → (K → K → Bool) → ℕ → List (K × V) → List (K × V)
deduped_room same len xs =
    without_repeats same (take len xs)
    ++ drop (length (without_repeats same (take len xs))) (reverse (take len xs) ++ drop len xs)

-- a row: all of its memory, how many pairs of it count, and the mark
pub record Row (K V : Type 0) : Type 0 where
  pub room : List (K × V)
  pub len : ℕ
  pub deduped : Bool

-- the pairs that count
abbrev pub items : {K V : Type 0} → Row K V → List (K × V)
items r = take r.len r.room

-- there is no place for one more pair
abbrev pub full : {K V : Type 0} → Row K V → Bool
full r = nat_le (length r.room) r.len

-- one pair more at the end, the mark cleared; a full row as it is
unfoldable pub insert_row : {K V : Type 0} → Row K V → K → V → Row K V
insert_row r k v = if full r then r else record { room = slice_set r.room r.len (k, v); len = r.len + 1; deduped = false }

-- a full row hands the pair back
unfoldable pub insert_answer : {K V : Type 0} → Row K V → K → V → Result (Unit {0}) (K × V)
insert_answer r k v = if full r then Err (k, v) else Ok tt

-- no pairs, the mark kept
abbrev pub clear_row : {K V : Type 0} → Row K V → Row K V
clear_row r = record { room = r.room; len = 0; deduped = r.deduped }

-- the mark set, on the caller's word
abbrev pub mark_row : {K V : Type 0} → Row K V → Row K V
mark_row r = record { room = r.room; len = r.len; deduped = true }

-- a marked row as it is; another without repeats, and marked
abbrev pub dedup_row : {K V : Type 0} → (K → K → Bool) → Row K V → Row K V
dedup_row same r =
    if r.deduped then r
    else record { room = deduped_room same r.len r.room; len = length (without_repeats same (items r)); deduped = true }
