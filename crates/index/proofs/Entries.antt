-- Where an id stands in a list of entries, and what it stands for.
use Rattle.std.proofs.Common.{◌≡◌, ℕ, zero, suc, ◌<◌, eqb, ◌⊎◌, List, [], ◌∷◌, map, length, get_or, Some, None, Option, sym, refl, ap, ◌∙◌, inl, inr, arith}
use Rattle.std.specs.Map.{update}
use Rattle.std.proofs.lemmas.Option as option
use Rattle.std.proofs.lemmas.Bool.{eq-eqb, ne_eqb, cases_eq, cases_order}
use Rattle.index.specs.declared.entry.Entry.{Entry}
use Rattle.index.specs.Held.{at, Once, blank}
use Rattle.index.proofs.Pigeons.{Mem, Apart}

-- ---- options
pub same_some : {A : Type 0} (o : Option A) (x y : A) → o ≡ Some x → o ≡ Some y → x ≡ y
same_some o x y p q = cc

-- ---- the first entry
pub at_here : (e : Entry) (es : List Entry) (k : ℕ) → k ≡ e.id → at (e ∷ es) k ≡ Some e.number
at_here e es k x = rw (eq-eqb k e.id x) refl

pub at-later : (e : Entry) (es : List Entry) (k : ℕ) → (k ≡ e.id → ⊥) → at (e ∷ es) k ≡ at es k
at-later e es k ne = rw (ne_eqb k e.id ne) refl

-- ---- an id by its place
abbrev pub Absent : List Entry → ℕ → Type 0
Absent es k = (i : ℕ) → i < length es → (get_or es i blank).id ≡ k → ⊥

abbrev pub Where : List Entry → ℕ → Type 0
Where es k =
    ((at es k ≡ None) × Absent es k)
    ⊎ ((i : ℕ) × (i < length es) × ((get_or es i blank).id ≡ k) × (at es k ≡ Some (get_or es i blank).number))

absent_cons : (i : ℕ) (e : Entry) (es : List Entry) (k : ℕ) → (k ≡ e.id → ⊥) → Absent es k → i < length (e ∷ es) → (get_or (e ∷ es) i blank).id ≡ k → ⊥
absent_cons zero e es k ne f h x = ne (sym x)
absent_cons (suc i) e es k ne f h x = f i (omega arith) x

pub at_where : (es : List Entry) (k : ℕ) → Where es k
at_where [] k = inl (refl, λ i h e. omega arith)
at_where (e ∷ es) k =
    elim (cases_eq k e.id) [
      | inl x ↦ inr (0, omega arith, sym x, at_here e es k x)
      | inr ne ↦
          elim (at_where es k) [
            | inl w ↦ inl (at-later e es k ne ∙ w.0, λ i. absent_cons i e es k ne w.1)
            | inr w ↦ inr (suc w.0, omega (arith, w.1), w.2, at-later e es k ne ∙ w.3)
          ]
    ]

pub same_place : (es : List Entry) (i j : ℕ) → Once es → i < length es → j < length es → (get_or es i blank).id ≡ (get_or es j blank).id → i ≡ j
same_place es i j once hi hj e =
    elim (cases_order i j) [
      | inl x ↦ x
      | inr o ↦ elim o [ inl lt ↦ absurd (once i j (lt, hj, e)) | inr gt ↦ absurd (once j i (gt, hi, sym e)) ]
    ]

-- an id that stands at a place stands for the number there
pub at_place : (es : List Entry) (i k : ℕ) → Once es → i < length es → (get_or es i blank).id ≡ k → at es k ≡ Some (get_or es i blank).number
at_place es i k once h e =
    elim (at_where es k) [
      | inl w ↦ absurd (w.1 i h e)
      | inr w ↦ w.3 ∙ ap (λ (z : ℕ). Some (get_or es z blank).number) (same_place es w.0 i once w.1 h (w.2 ∙ sym e))
    ]

pub at-absent : (es : List Entry) (k : ℕ) → Absent es k → at es k ≡ None
at-absent es k f = elim (at_where es k) [ inl w ↦ w.0 | inr w ↦ absurd (f w.0 w.1 w.2) ]

pub absent-at : (es : List Entry) (k : ℕ) → Once es → at es k ≡ None → Absent es k
absent-at es k once n i h e = option.none-some _ (sym n ∙ (at_place es i k once h e))

-- taking out an id that is not held changes nothing
pub unheld : (es : List Entry) (k : ℕ) → at es k ≡ None → (q : ℕ) → at es q ≡ update eqb (at es) k None q
unheld es k n q =
    elim (cases_eq k q) [
      | inl x ↦ ap (at es) (sym x) ∙ n ∙ sym (rw (eq-eqb k q x) refl)
      | inr ne ↦ sym (rw (ne_eqb k q ne) refl)
    ]

-- ---- no id twice, one entry at a time
pub once_nil : Once []
once_nil i j h = omega (arith, h.1)

pub once_cons : (e : Entry) (es : List Entry) → at es e.id ≡ None → Once es → Once (e ∷ es)
once_cons e es n o zero zero h = omega (arith, h.0)
once_cons e es n o zero (suc j) h = absent-at es e.id o n j (omega (arith, h.1)) (sym h.2)
once_cons e es n o (suc i) zero h = omega (arith, h.0)
once_cons e es n o (suc i) (suc j) h = o i j (omega (arith, h.0), omega (arith, h.1), h.2)

pub once_tail : (e : Entry) (es : List Entry) → Once (e ∷ es) → Once es
once_tail e es o i j h = o (suc i) (suc j) (omega (arith, h.0), omega (arith, h.1), h.2)

pub once-head : (e : Entry) (es : List Entry) → Once (e ∷ es) → at es e.id ≡ None
once-head e es o = at-absent es e.id (λ i h x. o 0 (suc i) (omega arith, omega arith, sym x))

-- ---- the ids alone
pub ids_of : List Entry → List ℕ
ids_of es = map (λ e. e.id) es

pub length_ids : (es : List Entry) → length (ids_of es) ≡ length es
unfolding ids_of
length_ids [] = refl
length_ids (e ∷ es) = ap suc (length_ids es)

pub at_mem : (es : List Entry) (k n : ℕ) → at es k ≡ Some n → Mem k (ids_of es)
unfolding ids_of
at_mem [] k n h = absurd (option.none-some n h)
at_mem (e ∷ es) k n h =
    elim (cases_eq k e.id) [
      | inl x ↦ inl x
      | inr ne ↦ inr (at_mem es k n (sym (at-later e es k ne) ∙ h))
    ]

pub mem_at : (es : List Entry) (k : ℕ) → Mem k (ids_of es) → (n : ℕ) × (at es k ≡ Some n)
unfolding ids_of
mem_at [] k m = elim m [ ]
mem_at (e ∷ es) k m =
    elim (cases_eq k e.id) [
      | inl x ↦ (e.number, at_here e es k x)
      | inr ne ↦ elim m [
        | inl x ↦ absurd (ne x)
        | inr t ↦ let p = mem_at es k t in (p.0, at-later e es k ne ∙ p.1)
      ]
    ]

pub once-apart : (es : List Entry) → Once es → Apart (ids_of es)
unfolding ids_of
once-apart [] o = tt
once-apart (e ∷ es) o = (
  λ m. let p = mem_at es e.id m in option.none-some p.0 (sym (once-head e es o) ∙ p.1),
  once-apart es (once_tail e es o),
)
