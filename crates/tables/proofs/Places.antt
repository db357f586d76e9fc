-- What stands at a number in a list.
use Rattle.std.proofs.Common.{◌≡◌, ℕ, zero, suc, ◌<◌, List, [], ◌∷◌, length, set, Some, None, Option, refl, ap, le_of_suc-le-suc, not-suc-le-zero}
use Rattle.std.specs.List.{slice_get}
use Rattle.std.proofs.lemmas.Option.{none-some}
use Rattle.tables.specs.Store.{chained}

-- what stands there after a write
pub nth_set-same : {A : Type 0} (xs : List A) (r : ℕ) (x : A) → r < length xs → slice_get (set xs r x) r ≡ Some x
nth_set-same [] r x lt = absurd (not-suc-le-zero lt)
nth_set-same (y ∷ xs) zero x lt = refl
nth_set-same (y ∷ xs) (suc r) x lt = nth_set-same xs r x (le_of_suc-le-suc lt)

pub nth_set-other : {A : Type 0} (xs : List A) (r q : ℕ) (x : A) → (q ≡ r → ⊥) → slice_get (set xs r x) q ≡ slice_get xs q
nth_set-other [] r q x ne = refl
nth_set-other (y ∷ xs) zero zero x ne = absurd (ne refl)
nth_set-other (y ∷ xs) zero (suc q) x ne = refl
nth_set-other (y ∷ xs) (suc r) zero x ne = refl
nth_set-other (y ∷ xs) (suc r) (suc q) x ne = nth_set-other xs r q x (λ e. ne (ap suc e))

-- what comes of what is there comes of something
pub chained-there : {A B : Type 0} (f : A → Option B) (o : Option A) (y : B) → chained f o ≡ Some y → (x : A) × (o ≡ Some x) × (f x ≡ Some y)
chained-there f None y e = absurd (none-some y e)
chained-there f (Some x) y e = (x, refl, e)
