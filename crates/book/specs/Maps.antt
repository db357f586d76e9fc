-- What is kept by number: each number at most once, with what stands under it.
use Rattle.std.specs.Prelude.{◌≡◌, ℕ, Bool, true, false, if◌then◌else◌, List, [], ◌∷◌, Some, None, Option, ◌==◌}

-- numbers, each with a value
abbrev pub Map : Type 0 → Type 0
Map V = List (ℕ × V)

module _ {V : Type 0} where
  -- what stands under a number
  abbrev pub find : ℕ → Map V → Option V
  find k [] = None
  find k (e ∷ m) = if k == e.0 then Some e.1 else find k m

  -- without what stands under a number
  abbrev pub remove : ℕ → Map V → Map V
  remove k [] = []
  remove k (e ∷ m) = if k == e.0 then remove k m else e ∷ remove k m

  -- with v under a number, in place of what stood there
  abbrev pub put : ℕ → V → Map V → Map V
  put k v m = (k, v) ∷ remove k m

  -- each number at most once
  abbrev pub Distinct : Map V → Type 0
  Distinct [] = Unit {0}
  Distinct (e ∷ m) = (find e.0 m ≡ None) × Distinct m

  -- P holds of each number and what stands under it
  abbrev pub Each : (ℕ → V → Type 0) → Map V → Type 0
  Each P m = (k : ℕ) (v : V) → find k m ≡ Some v → P k v

-- is there anything?
abbrev pub has : {V : Type 0} → Option V → Bool
has (Some v) = true
has None = false

-- both or neither, and if both then related
abbrev pub Both : {A B : Type 0} → (A → B → Type 0) → Option A → Option B → Type 0
Both R None None = Unit {0}
Both R None (Some b) = ⊥
Both R (Some a) None = ⊥
Both R (Some a) (Some b) = R a b
