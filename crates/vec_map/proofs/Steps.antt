-- The steps of the loops over a row.
use Rattle.std.proofs.Common.{◌≡◌, ℕ, ◌+◌, ◌-◌, ◌<◌, ◌≤◌, Bool, true, false, ◌||◌, List, [], ◌∷◌, ◌++◌, length, get_or, take, drop, set, sym, refl, ap, ◌∙◌, arith, length-take}
use Rattle.std.proofs.lemmas.List.{drop_all, drop_more, get_or-drop, take_more_set, drop-set-lt, append_assoc, append-nil, take-append-drop, drop-drop}
use Rattle.std.proofs.Math.Bool.{or-false}
use Rattle.std.proofs.lemmas.List.Folds.{list_any-append}
use Rattle.vec_map.specs.Rows.{known, firsts}

pub known_push : {K V : Type 0} (same : K → K → Bool) (k : K) (xs : List (K × V)) (p : K × V) → known same k (xs ++ p ∷ []) ≡ (known same k xs || same p.0 k)
known_push same k xs p = list_any-append (λ q. same q.0 k) xs (p ∷ []) ∙ ap (λ b. known same k xs || b) (or-false (same p.0 k))

module _ {K V : Type 0} (same : K → K → Bool) where
  firsts-known : (ks rest : List (K × V)) (x : K × V) → known same x.0 ks ≡ true → firsts same ks (x ∷ rest) ≡ firsts same ks rest
  firsts-known ks rest x e = rw e refl

  firsts-new : (ks rest : List (K × V)) (x : K × V) → known same x.0 ks ≡ false → firsts same ks (x ∷ rest) ≡ x ∷ firsts same (ks ++ x ∷ []) rest
  firsts-new ks rest x e = rw e refl

  -- how far the loop has come: the first count pairs of row are kept, and from there row is as ys
  abbrev pub Going : List (K × V) → List (K × V) → ℕ → ℕ → Type 0
  Going ys row count i =
      (take count row ++ firsts same (take count row) (drop i ys) ≡ firsts same [] ys)
      × (drop count row ≡ drop count ys)
      × (count ≤ i)

  next : (ys row : List (K × V)) (count i : ℕ) (x : K × V) → i < length ys → drop count row ≡ drop count ys → count ≤ i → x ≡ get_or row i x → drop i ys ≡ x ∷ drop (i + 1) ys
  next ys row count i x h r b e =
      let p : count + (i - count) ≡ i = omega arith in
      let d : get_or ys i x ≡ x =
      ap (λ j. get_or ys j x) (sym p)
      ∙ (sym (get_or-drop count ys (i - count) x)
      ∙ (ap (λ zs. get_or zs (i - count) x) (sym r)
      ∙ (get_or-drop count row (i - count) x ∙ (ap (λ j. get_or row j x) p ∙ sym e)))) in
      drop_more ys i x h ∙ ap (λ y. y ∷ drop (i + 1) ys) d

  pub going_known : (ys row : List (K × V)) (count i : ℕ) (x : K × V) → i < length ys → Going ys row count i → x ≡ get_or row i x → known same x.0 (take count row) ≡ true → Going ys row count (i + 1)
  going_known ys row count i x h s e k = (
    ap (λ zs. take count row ++ zs)
        (sym (firsts-known (take count row) (drop (i + 1) ys) x k) ∙ ap (λ zs. firsts same (take count row) zs) (sym (next ys row count i x h s.1 s.2 e)))
        ∙ s.0,
    s.1,
    omega arith,
  )

  pub going_new : (ys row : List (K × V)) (count i : ℕ) (x : K × V) → i < length ys → length row ≡ length ys → Going ys row count i → x ≡ get_or row i x → known same x.0 (take count row) ≡ false → Going ys (set row count x) (count + 1) (i + 1)
  going_new ys row count i x h n s e k =
      let b : count ≤ i = s.2 in
      let m : count < length row = omega arith in
      let t = take_more_set row count x m in (
        ap (λ ks. ks ++ firsts same ks (drop (i + 1) ys)) t
            ∙ (append_assoc (take count row) (x ∷ []) (firsts same (take count row ++ x ∷ []) (drop (i + 1) ys))
            ∙ (ap (λ zs. take count row ++ zs)
            (sym (firsts-new (take count row) (drop (i + 1) ys) x k) ∙ ap (λ zs. firsts same (take count row) zs) (sym (next ys row count i x h s.1 s.2 e)))
            ∙ s.0)),
        (drop-set-lt (count + 1) row count x (omega arith) ∙ (sym (drop-drop 1 count row) ∙ (ap (λ zs. drop 1 zs) s.1 ∙ drop-drop 1 count ys))),
        omega arith,
      )

  -- the end of the loop
  pub ended : (ys row : List (K × V)) (count : ℕ) → length row ≡ length ys → Going ys row count (length ys)
      → (count ≡ length (firsts same [] ys)) × (row ≡ firsts same [] ys ++ drop (length (firsts same [] ys)) ys)
  ended ys row count n s =
      let m : length ys ≤ length ys = omega arith in
      let b : count ≤ length ys = s.2 in
      let e =
      sym (append-nil (take count row))
      ∙ (ap (λ zs. take count row ++ firsts same (take count row) zs) (sym (drop_all (length ys) ys m)) ∙ s.0) in
      let c : length (take count row) ≡ count = simp length-take (omega arith) in
      let f : count ≡ length (firsts same [] ys) = sym c ∙ ap length e in (
        f,
        sym (take-append-drop count row)
            ∙ (ap (λ zs. zs ++ drop count row) e
            ∙ (ap (λ zs. firsts same [] ys ++ zs) s.1
            ∙ ap (λ k. firsts same [] ys ++ drop k ys) f)),
      )
