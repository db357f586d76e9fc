-- One row of a flat table: what a write to it leaves of the table, of that row and of the others.
use Rattle.std.proofs.Common.{◌≡◌, ℕ, ◌+◌, ◌-◌, ◌*◌, ◌<◌, ◌≤◌, List, ◌++◌, length, take, drop, sym, ap, ◌∙◌, ⊎_elim, mul-le-mul_right, add-mul, one-mul, arith, length-append, length-drop, length-take}
use borrow.Rule.Slice.PartMut.{put_mid}
use Rattle.std.proofs.lemmas.List.{drop-drop, drop-append-le, take-append-le, drop-take, take-take, drop_at, take_at, append_assoc}
use Rattle.std.proofs.lemmas.Bool.{cases_lt}
use Rattle.vec_map.specs.Tables.{row, with_row, OthersStay}

width : (a w : ℕ) → a + w - a ≡ w
width a w = omega arith

-- what the part of a row is read as, and what a write to it leaves
pub row_read : {X : Type 0} (w k : ℕ) (xs : List X) → take (k * w + w - k * w) (drop (k * w) xs) ≡ row w k xs
row_read w k xs = ap (λ n. take n (drop (k * w) xs)) (width (k * w) w)

pub row_put : {X : Type 0} (w k : ℕ) (xs ys : List X) → put_mid (k * w) (k * w + w - k * w) xs ys ≡ with_row w k xs ys
row_put w k xs ys =
    ap (λ n. take (k * w) xs ++ (ys ++ drop n (drop (k * w) xs))) (width (k * w) w)
    ∙ ap (λ zs. take (k * w) xs ++ (ys ++ zs)) (drop-drop w (k * w) xs)

-- every other row is as it was
below : (w j k : ℕ) → j < k → j * w + w ≤ k * w
below w j k h = omega (arith, mul-le-mul_right {m = j + 1} {n = k} w (let q : j + 1 ≤ k = omega arith in q), add-mul j 1 w, one-mul w)

pub row_other : {X : Type 0} (w j k : ℕ) (xs ys : List X) → (j ≡ k → ⊥) → k * w + w ≤ length xs → length ys ≡ w → row w j (with_row w k xs ys) ≡ row w j xs
row_other w j k xs ys n l e = ⊎_elim
    (λ h.
    let b = below w j k h in
    let lt : length (take (k * w) xs) ≡ k * w = simp length-take (omega arith) in
    let p : j * w ≤ length (take (k * w) xs) = omega arith in
    let q : w ≤ length (drop (j * w) (take (k * w) xs)) = simp length-drop (omega arith) in
    let m : j * w + (k * w - j * w) ≡ k * w = omega arith in
    ap (λ zs. take w zs) (drop-append-le (j * w) (take (k * w) xs) (ys ++ drop (k * w + w) xs) p)
    ∙ (take-append-le w (drop (j * w) (take (k * w) xs)) (ys ++ drop (k * w + w) xs) q
    ∙ (ap (λ i. take w (drop (j * w) (take i xs))) (sym m)
    ∙ (ap (λ zs. take w zs) (drop-take (j * w) (k * w - j * w) xs)
    ∙ take-take w (k * w - j * w) (drop (j * w) xs) (omega arith)))))
    (λ h.
    let g : k < j = omega (arith, n) in
    let b = below w k j g in
    let lt : length (take (k * w) xs) ≡ k * w = simp length-take (omega arith) in
    let f : length (take (k * w) xs ++ ys) ≡ k * w + w = simp length-append (omega arith) in
    let m : k * w + w + (j * w - (k * w + w)) ≡ j * w = omega arith in
    ap (λ zs. take w zs)
    (ap (λ i. drop i (with_row w k xs ys)) (sym m)
    ∙ (sym (drop-drop (j * w - (k * w + w)) (k * w + w) (with_row w k xs ys))
    ∙ (ap (λ zs. drop (j * w - (k * w + w)) (drop (k * w + w) zs)) (sym (append_assoc (take (k * w) xs) ys (drop (k * w + w) xs)))
    ∙ (ap (λ zs. drop (j * w - (k * w + w)) zs) (drop_at (take (k * w) xs ++ ys) (drop (k * w + w) xs) (k * w + w) f)
    ∙ (drop-drop (j * w - (k * w + w)) (k * w + w) xs ∙ ap (λ i. drop i xs) m))))))
    (cases_lt j k)

-- and the row itself is what was put there
pub row_same : {X : Type 0} (w k : ℕ) (xs ys : List X) → k * w + w ≤ length xs → length ys ≡ w → row w k (with_row w k xs ys) ≡ ys
row_same w k xs ys l e =
    let f : length (take (k * w) xs) ≡ k * w = simp length-take (omega arith) in
    ap (λ zs. take w zs) (drop_at (take (k * w) xs) (ys ++ drop (k * w + w) xs) (k * w) f) ∙ take_at ys (drop (k * w + w) xs) w e

-- every other row stays where row k is written as the part of the table that begins at `from`
pub others_stay : {X : Type 0} (w k from : ℕ) (xs ys : List X) → from ≡ k * w → k * w + w ≤ length xs → length ys ≡ w → OthersStay w k xs (put_mid from (from + w - from) xs ys)
others_stay w k from xs ys e l n j d =
    ap (λ i. row w j (put_mid i (i + w - i) xs ys)) e ∙ (ap (λ zs. row w j zs) (row_put w k xs ys) ∙ row_other w j k xs ys d l n)
