-- A list of distinct numbers is no longer than one that has them all.
use Rattle.std.proofs.Common.{◌≡◌, ℕ, suc, ◌≤◌, cond, eqb, ◌⊎◌, List, [], ◌∷◌, length, sym, refl, ap, ◌∙◌, subst, inl, inr, ⊎_elim, arith}
use Rattle.std.proofs.lemmas.Bool.{eq-eqb, ne_eqb, cases_eq}

abbrev pub Mem : ℕ → List ℕ → Type 0
Mem k [] = ⊥
Mem k (x ∷ xs) = (k ≡ x) ⊎ Mem k xs

abbrev pub Apart : List ℕ → Type 0
Apart [] = Unit {0}
Apart (x ∷ xs) = (Mem x xs → ⊥) × Apart xs

abbrev less : ℕ → List ℕ → List ℕ
less k [] = []
less k (x ∷ xs) = cond (eqb k x) xs (x ∷ less k xs)

length-less : (k : ℕ) (xs : List ℕ) → Mem k xs → length xs ≡ suc (length (less k xs))
length-less k [] m = elim m [ ]
length-less k (x ∷ xs) m =
    elim (cases_eq k x) [
      | inl e ↦ rw (eq-eqb k x e) refl
      | inr ne ↦ elim m [ inl e ↦ absurd (ne e) | inr t ↦ rw (ne_eqb k x ne) (ap suc (length-less k xs t)) ]
    ]

mem_less : (q k : ℕ) (xs : List ℕ) → Mem q xs → (q ≡ k → ⊥) → Mem q (less k xs)
mem_less q k [] m ne = elim m [ ]
mem_less q k (x ∷ xs) m ne =
    elim (cases_eq k x) [
      | inl e ↦ rw (eq-eqb k x e) (elim m [ inl f ↦ absurd (ne (f ∙ sym e)) | inr t ↦ t ])
      | inr a ↦ rw (ne_eqb k x a) (elim m [ inl f ↦ inl f | inr t ↦ inr (mem_less q k xs t ne) ])
    ]

pub pigeons : (xs ys : List ℕ) → Apart xs → ((q : ℕ) → Mem q xs → Mem q ys) → length xs ≤ length ys
pigeons [] ys a s = omega arith
pigeons (x ∷ xs) ys a s =
    let here : Mem x ys = s x (inl refl) in
    let rest : length xs ≤ length (less x ys) =
    pigeons xs (less x ys) a.1 (λ q m. mem_less q x ys (s q (inr m)) (λ e. a.0 (subst (λ (z : ℕ). Mem z xs) e m))) in
    omega (arith, length-less x ys here)

pub mem_cases : (k : ℕ) (xs : List ℕ) → Mem k xs ⊎ (Mem k xs → ⊥)
mem_cases k [] = inr (λ m. m)
mem_cases k (x ∷ xs) =
    elim (cases_eq k x) [
      | inl e ↦ inl (inl e)
      | inr ne ↦ elim (mem_cases k xs) [ inl m ↦ inl (inr m) | inr no' ↦ inr (λ m. ⊎_elim ne no' m) ]
    ]
