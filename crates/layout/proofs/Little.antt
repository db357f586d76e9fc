-- The little-endian number of bytes: with zeros at the end, and how large it is.
use Rattle.std.proofs.Common.{◌≡◌, ℕ, zero, suc, ◌+◌, ◌*◌, ◌^◌, ◌<◌, List, [], ◌∷◌, ◌++◌, replicate, get_or, take, refl, ap, arith}
use native.Mathlib.Nat.{one-le-pow, pow-succ'}
use Rattle.layout.specs.Numbers.{le}

-- zeros at the end count for nothing
pub le-padded : (xs : List ℕ) (n : ℕ) → le (xs ++ replicate n 0) ≡ le xs
le-padded [] zero = refl
le-padded [] (suc n) = let rest = le-padded [] n in omega arith
le-padded (x ∷ xs) n = ap (λ m. x + 256 * m) (le-padded xs n)

-- how large the number of n bytes is
pub le_bound : (n : ℕ) (xs : List ℕ) → ((k : ℕ) → get_or xs k 0 < 256) → le (take n xs) < 256 ^ n
le_bound zero xs h = omega arith
le_bound (suc n) [] h = one-le-pow (suc n) 256 (omega arith)
le_bound (suc n) (x ∷ xs) h =
    let low : x < 256 = h 0 in
    let rest = le_bound n xs (λ k. h (suc k)) in
    rw pow-succ' (omega arith)
