-- Bytes that stand in a buffer: one part after another, and the bytes of a number that is read.
use Rattle.std.proofs.Common.{◌≡◌, ℕ, zero, suc, ◌+◌, ◌-◌, ◌*◌, ◌/◌, ◌%◌, ◌^◌, ◌<◌, ◌≤◌, List, [], ◌∷◌, ◌++◌, length, take, drop, sym, refl, ap, ◌∙◌, arith, length-drop, length-take-le, get_or-drop, take-add, w32, w64}
use Rattle.std.proofs.Math.Facts.{of_z-to_z}
use Rattle.std.specs.List.{between}
use Rattle.std.proofs.lemmas.List.{drop-drop}
use Rattle.layout.specs.Numbers.{le}
use Rattle.layout.specs.Reads.{number_at}
use Rattle.layout.proofs.Little.{le_bound}
use Rattle.decode.specs.declared.operand.Kind.{Kind}
use Rattle.decode.specs.declared.operand.Kind.TheVariants as kinds
use Rattle.decode.specs.declared.operand.Label.{Label}
use Rattle.decode.specs.Operands.{kind, little, meant, number, operand_bytes, size}
use Rattle.decode.specs.Runs.{Bytes, Stand}

between_join : {X : Type 0} (xs : List X) (i j k : ℕ) → i ≤ j → j ≤ k → between i j xs ++ between j k xs ≡ between i k xs
between_join xs i j k h g =
    let whole : k - i ≡ j - i + (k - j) = omega arith in
    let at : i + (j - i) ≡ j = omega arith in
    sym (ap (λ n. take n (drop i xs)) whole ∙ take-add (j - i) (k - j) (drop i xs) ∙ ap (λ ys. between i j xs ++ take (k - j) ys) (drop-drop (j - i) i xs ∙ ap (λ n. drop n xs) at))

pub stand-none : (buffer : List ℕ) (place : ℕ) → place ≤ length buffer → Stand buffer place place []
stand-none buffer place h = (omega arith, h, λ b. let none : place - place ≡ 0 = omega arith in ap (λ n. take n (drop place buffer)) none)

pub stand_join : (buffer : List ℕ) (i j k : ℕ) (xs ys : List ℕ) → Stand buffer i j xs → Stand buffer j k ys → Stand buffer i k (xs ++ ys)
stand_join buffer i j k xs ys s t =
    (omega arith, t.1, λ b. sym (between_join buffer i j k s.0 t.0) ∙ (λ n. s.2 b n ++ t.2 b n))

little-le : (xs : List ℕ) → Bytes xs → little (length xs) (le xs) ≡ xs
unfolding little
little-le [] h = refl
little-le (x ∷ xs) h =
    let small : x < 256 = h 0 in
    let low : (x + 256 * le xs) % 256 ≡ x = omega arith in
    let high : (x + 256 * le xs) / 256 ≡ le xs = omega arith in
    (λ n. low n ∷ little (length xs) (high n)) ∙ ap (λ ys. x ∷ ys) (little-le xs (λ k. h (suc k)))

bytes_drop : (buffer : List ℕ) (place : ℕ) → Bytes buffer → Bytes (drop place buffer)
bytes_drop buffer place b k = rw get_or-drop (b (place + k))

bytes_take : (n : ℕ) (xs : List ℕ) → Bytes xs → Bytes (take n xs)
bytes_take zero xs b k = omega arith
bytes_take (suc n) [] b k = omega arith
bytes_take (suc n) (x ∷ xs) b zero = b 0
bytes_take (suc n) (x ∷ xs) b (suc k) = bytes_take n xs (λ j. b (suc j)) k

-- a number that is read, written again
pub stand-number : (buffer : List ℕ) (place n : ℕ) → place + n ≤ length buffer → Stand buffer place (place + n) (little n (number_at n buffer place))
stand-number buffer place n h =
    let rest = drop place buffer in
    let long : length (take n rest) ≡ n = length-take-le n rest (omega (arith, length-drop place buffer)) in
    let size : place + n - place ≡ n = omega arith in (
      omega arith,
      h,
      λ b. ap (λ m. take m rest) size ∙ sym (ap (λ m. little m (le (take n rest))) (sym long) ∙ little-le (take n rest) (bytes_take n rest (bytes_drop buffer place b))),
    )

pub kind-meant : (k : Kind) (n : ℕ) → kind (meant k n) ≡ k
kind-meant kinds.Trace n = refl
kind-meant kinds.Id n = refl
kind-meant kinds.Text n = refl
kind-meant kinds.Float n = refl
kind-meant kinds.Long n = refl
kind-meant kinds.Int n = refl
kind-meant kinds.Count n = refl

number-meant : (k : Kind) (n : ℕ) → n < 256 ^ size k → number (meant k n) ≡ n
number-meant kinds.Trace n h = omega arith
number-meant kinds.Id n h = refl
number-meant kinds.Text n h = refl
number-meant kinds.Float n h = refl
number-meant kinds.Long n h = of_z-to_z {w = w64} (record { fits = h })
number-meant kinds.Int n h = of_z-to_z {w = w32} (record { fits = h })
number-meant kinds.Count n h = refl

-- an operand that is read, written again
pub stand_operand : (buffer : List ℕ) (place : ℕ) (label : Label) (k : Kind) → place + size k ≤ length buffer → Stand buffer place (place + size k) (operand_bytes (record { label = label; value = meant k (number_at (size k) buffer place) }))
stand_operand buffer place label k h =
    let s = stand-number buffer place (size k) h in
    let n = number_at (size k) buffer place in (
      s.0,
      s.1,
      λ b. s.2 b ∙ sym (λ i. little (size (kind-meant k n i)) (number-meant k n (le_bound (size k) (drop place buffer) (bytes_drop buffer place b)) i)),
    )
