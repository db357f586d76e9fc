-- An index that finds each of some records by its id, and counts no more, holds exactly these.
-- The records are given by the id at each place, none past the last, so that any struct can be one.
-- A loop over them keeps `Found` and the number `many`, by the lemmas `-none` and `-more`, and ends by `found_all`.
use Rattle.std.proofs.Common.{◌≡◌, ℕ, zero, suc, ◌+◌, ◌<◌, ◌≤◌, Bool, ◌⊎◌, List, [], ◌∷◌, length, Some, None, Decides, Option, sym, refl, ap, ◌∙◌, subst, inl, inr, ⊎_elim, add-one, arith}
use Rattle.std.proofs.lemmas.Bool.{cases_lt}
use Rattle.std.proofs.lemmas.Option.{none-some}
use Rattle.std.proofs.lemmas.Bool.Decides.{Decides-like}
use Rattle.index.specs.declared.entry.Entry.{Entry}
use Rattle.index.specs.Held.{at, Once}
use Rattle.index.specs.Holding.{Holds}
use Rattle.index.proofs.Pigeons.{Mem, Apart, pigeons, mem_cases}
use Rattle.index.proofs.Entries.{same_some, ids_of, length_ids, at_mem, mem_at, once-apart}

-- the ids of the records below a place
abbrev onto : Option ℕ → List ℕ → List ℕ
onto None ks = ks
onto (Some k) ks = k ∷ ks

abbrev lives : (ℕ → Option ℕ) → ℕ → List ℕ
lives id-of zero = []
lives id-of (suc n) = onto (id-of n) (lives id-of n)

-- how many records below a place have an id
unfoldable pub many : (ℕ → Option ℕ) → ℕ → ℕ
many id-of n = length (lives id-of n)

-- each record below a place is found by its id
abbrev pub Found : List Entry → (ℕ → Option ℕ) → ℕ → Type 0
Found es id-of n = (i k : ℕ) → i < n → id-of i ≡ Some k → at es k ≡ Some i

-- ---- one record more
pub many-none : (id-of : ℕ → Option ℕ) → many id-of 0 ≡ 0
unfolding many
many-none id-of = refl

pub many-more-some : (id-of : ℕ → Option ℕ) (i k : ℕ) → id-of i ≡ Some k → many id-of (i + 1) ≡ many id-of i + 1
unfolding many
many-more-some id-of i k e =
    ap (λ (z : ℕ). length (lives id-of z)) (add-one i)
    ∙ ap (λ (z : Option ℕ). length (onto z (lives id-of i))) e ∙ sym (add-one (length (lives id-of i)))

pub many-more-none : (id-of : ℕ → Option ℕ) (i : ℕ) → id-of i ≡ None → many id-of (i + 1) ≡ many id-of i
unfolding many
many-more-none id-of i e =
    ap (λ (z : ℕ). length (lives id-of z)) (add-one i) ∙ ap (λ (z : Option ℕ). length (onto z (lives id-of i))) e

pub found-more : (es : List Entry) (id-of : ℕ → Option ℕ) (i : ℕ) → Found es id-of i → ((k : ℕ) → id-of i ≡ Some k → at es k ≡ Some i) → Found es id-of (i + 1)
found-more es id-of i f here j k lt e =
    elim (cases_lt j i) [
      | inl l ↦ f j k l e
      | inr ge ↦
          let q : j ≡ i = omega arith in
          here k (ap id-of (sym q) ∙ e) ∙ ap Some (sym q)
    ]

-- ---- the ids of the records
mem_onto : (o : Option ℕ) (ks : List ℕ) (k : ℕ) → Mem k (onto o ks) → (o ≡ Some k) ⊎ Mem k ks
mem_onto None ks k m = inr m
mem_onto (Some x) ks k m = elim m [ inl e ↦ inl (ap Some (sym e)) | inr t ↦ inr t ]

onto_mem : (o : Option ℕ) (ks : List ℕ) (k : ℕ) → Mem k ks → Mem k (onto o ks)
onto_mem None ks k m = m
onto_mem (Some x) ks k m = inr m

mem_lives : (id-of : ℕ → Option ℕ) (n k : ℕ) → Mem k (lives id-of n) → (i : ℕ) × (i < n) × (id-of i ≡ Some k)
mem_lives id-of zero k m = elim m [ ]
mem_lives id-of (suc n) k m =
    elim (mem_onto (id-of n) (lives id-of n) k m) [
      | inl e ↦ (n, omega arith, e)
      | inr t ↦ let p = mem_lives id-of n k t in (p.0, omega (arith, p.1), p.2)
    ]

lives_mem : (id-of : ℕ → Option ℕ) (n i k : ℕ) → i < n → id-of i ≡ Some k → Mem k (lives id-of n)
lives_mem id-of zero i k lt e = absurd (omega arith)
lives_mem id-of (suc n) i k lt e =
    elim (cases_lt i n) [
      | inl l ↦ onto_mem (id-of n) (lives id-of n) k (lives_mem id-of n i k l e)
      | inr ge ↦
          let q : i ≡ n = omega arith in
          let here : id-of n ≡ Some k = ap id-of (sym q) ∙ e in
          subst (λ (z : Option ℕ). Mem k (onto z (lives id-of n))) (sym here) (inl refl)
    ]

apart-onto : (o : Option ℕ) (ks : List ℕ) → ((k : ℕ) → o ≡ Some k → Mem k ks → ⊥) → Apart ks → Apart (onto o ks)
apart-onto None ks ne a = a
apart-onto (Some k) ks ne a = (ne k refl, a)

lives_apart : (es : List Entry) (id-of : ℕ → Option ℕ) (n : ℕ) → Found es id-of n → Apart (lives id-of n)
lives_apart es id-of zero f = tt
lives_apart es id-of (suc n) f =
    apart-onto (id-of n) (lives id-of n)
    (λ k e m. let p = mem_lives id-of n k m in
    let q : p.0 ≡ n = same_some (at es k) p.0 n (f p.0 k (omega (arith, p.1)) p.2) (f n k (omega arith) e) in
    omega (arith, p.1, q))
    (lives_apart es id-of n (λ i k l e. f i k (omega arith) e))

-- ---- at the end
module _ (es : List Entry) (id-of : ℕ → Option ℕ) (n : ℕ) (once : Once es) (past : (i : ℕ) → n ≤ i → id-of i ≡ None) (found : Found es id-of n) where
  below : (i k : ℕ) → id-of i ≡ Some k → i < n
  below i k e = elim (cases_lt i n) [ inl l ↦ l | inr ge ↦ absurd (none-some k (sym (past i ge) ∙ e)) ]

  into : (q : ℕ) → Mem q (lives id-of n) → Mem q (ids_of es)
  into q m = let p = mem_lives id-of n q m in at_mem es q p.0 (found p.0 q p.1 p.2)

  all_held : length es ≡ many id-of n → Holds es id-of
  unfolding many
  all_held same = (
    λ k m h.
        elim (mem_cases k (lives id-of n)) [
          | inl t ↦
              let p = mem_lives id-of n k t in
              let q : p.0 ≡ m = same_some (at es k) p.0 m (found p.0 k p.1 p.2) h in
              ap id-of (sym q) ∙ p.2
          | inr no' ↦
              let more : length (k ∷ lives id-of n) ≤ length (ids_of es) =
              pigeons (k ∷ lives id-of n) (ids_of es) (no', lives_apart es id-of n found)
              (λ q t. ⊎_elim (λ e. subst (λ (z : ℕ). Mem z (ids_of es)) (sym e) (at_mem es k m h)) (into q) t) in
              absurd (omega (arith, more, length_ids es))
        ],
    λ k m e. found m k (below m k e) e,
  )

  count_held : Holds es id-of → length es ≡ many id-of n
  unfolding many
  count_held h =
      let a : length (lives id-of n) ≤ length (ids_of es) = pigeons (lives id-of n) (ids_of es) (lives_apart es id-of n found) into in
      let b : length (ids_of es) ≤ length (lives id-of n) =
      pigeons (ids_of es) (lives id-of n) (once-apart es once)
      (λ q m. let p = mem_at es q m in let e = h.0 q p.0 p.1 in lives_mem id-of n p.0 q (below p.0 q e) e) in
      omega (arith, a, b, length_ids es)

  -- the count decides
  pub found_all : (r : Bool) (ids : ℕ) → ids ≡ many id-of n → Decides r (length es ≡ ids) → Decides r (Holds es id-of)
  found_all r ids e d = Decides-like r (λ x. all_held (x ∙ e)) (λ h. count_held h ∙ sym e) d
