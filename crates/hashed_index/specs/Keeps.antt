-- What the places of a hashed index mean.
use Rattle.std.specs.Prelude.{◌≡◌, ℕ, zero, suc, ◌+◌, ◌<◌, ◌≤◌, false, ◌⊎◌, List, [], ◌∷◌, length, get_or, Some, None, Option, ◌≢◌, nat_eq, slice_index_or, slice_set, refl}
use Rattle.std.proofs.Common.{sym, ap, subst, ◌∙◌, inl, inr, arith}
use Rattle.std.specs.Map.{update}
use Rattle.std.proofs.lemmas.Bool.{cases_eq, eq-eqb, ne_eqb, both_ways}
use Rattle.index.specs.declared.entry.Entry.{Entry}
use Rattle.index.specs.Held.{at, Once}
use Rattle.hashed_index.specs.Places.{Taken, Alone, Missing, kept}
use Rattle.std.proofs.lemmas.Option.{none-some}
use Rattle.index.proofs.Entries.{same_some, once_nil, once_cons}
use Rattle.hashed_index.specs.declared.probe.Spot.{Spot}
use Rattle.hashed_index.specs.declared.probe.Spot.TheVariants.{At, Free, Nowhere}
use Rattle.hashed_index.specs.Spots.{Spotted}

missing-none : (ps : List (Option Entry)) (k : ℕ) → Missing ps k → Missing (None ∷ ps) k
missing-none ps k m zero e is r = none-some e is
missing-none ps k m (suc i) e is r = m i e is r

missing-some : (x : Entry) (ps : List (Option Entry)) (k : ℕ) → (k ≢ x.id) → Missing ps k → Missing (Some x ∷ ps) k
missing-some x ps k ne m zero e is r = ne (sym r ∙ ap (λ z. z.id) (same_some (Some x) e x is refl))
missing-some x ps k ne m (suc i) e is r = m i e is r

abbrev pub Found : List (Option Entry) → ℕ → Type 0
Found ps k = (i : ℕ) × (e : Entry) × (slice_index_or ps i None ≡ Some e) × (e.id ≡ k) × (at (kept ps) k ≡ Some e.number)

pub kept_where : (ps : List (Option Entry)) (k : ℕ) → ((at (kept ps) k ≡ None) × Missing ps k) ⊎ Found ps k
kept_where [] k = inl (refl, λ i e is r. none-some e is)
kept_where (None ∷ ps) k =
    elim (kept_where ps k) [
      | inl w ↦ inl (w.0, missing-none ps k w.1)
      | inr w ↦ inr (suc w.0, w.1, w.2, w.3, w.4)
    ]
kept_where (Some x ∷ ps) k =
    elim (cases_eq k x.id) [
      | inl q ↦ inr (0, x, refl, sym q, rw (eq-eqb k x.id q) refl)
      | inr ne ↦
          elim (kept_where ps k) [
            | inl w ↦ inl (rw (ne_eqb k x.id ne) w.0, missing-some x ps k ne w.1)
            | inr w ↦ inr (suc w.0, w.1, w.2, w.3, rw (ne_eqb k x.id ne) w.4)
          ]
    ]

pub kept-missing : (ps : List (Option Entry)) (k : ℕ) → Missing ps k → at (kept ps) k ≡ None
kept-missing ps k m = elim (kept_where ps k) [ inl w ↦ w.0 | inr w ↦ absurd (m w.0 w.1 w.2 w.3) ]

pub kept-is : (ps : List (Option Entry)) (i : ℕ) (e : Entry) → Alone ps → slice_index_or ps i None ≡ Some e → at (kept ps) e.id ≡ Some e.number
kept-is ps i e alone is =
    elim (kept_where ps e.id) [
      | inl w ↦ absurd (w.1 i e is refl)
      | inr w ↦
          let q : w.0 ≡ i = alone w.0 i (w.1, w.2, e, is, w.3) in
          let f : w.1 ≡ e = same_some (slice_index_or ps i None) w.1 e (ap (λ (z : ℕ). get_or ps z None) (sym q) ∙ w.2) is in
          w.4 ∙ ap (λ (z : Entry). Some z.number) f
    ]

-- ---- no id twice
alone_tail : (x : Option Entry) (ps : List (Option Entry)) → Alone (x ∷ ps) → Alone ps
alone_tail x ps a i j h = omega (arith, a (suc i) (suc j) h)

pub kept-once : (ps : List (Option Entry)) → Alone ps → Once (kept ps)
kept-once [] a = once_nil
kept-once (None ∷ ps) a = kept-once ps (alone_tail None ps a)
kept-once (Some x ∷ ps) a =
    once_cons x (kept ps) (kept-missing ps x.id (λ i e is r. omega (arith, a 0 (suc i) (x, refl, e, is, sym r))))
    (kept-once ps (alone_tail (Some x) ps a))

-- ---- how many there are
pub kept-le : (ps : List (Option Entry)) → length (kept ps) ≤ length ps
kept-le [] = omega arith
kept-le (None ∷ ps) = omega (arith, kept-le ps)
kept-le (Some e ∷ ps) = omega (arith, kept-le ps)

pub kept_fits : (ps : List (Option Entry)) (n : ℕ) → length ps ≡ n → length (kept ps) ≤ n
kept_fits ps n long = omega (arith, kept-le ps, long)

pub kept-all : (ps : List (Option Entry)) → ((b : ℕ) → b < length ps → Taken ps b) → length (kept ps) ≡ length ps
kept-all [] h = refl
kept-all (None ∷ ps) h = absurd (both_ways false refl (h 0 (omega arith)))
kept-all (Some e ∷ ps) h = ap suc (kept-all ps (λ b l. h (suc b) (omega arith)))

pub kept_fill : (ps : List (Option Entry)) (i : ℕ) (e : Entry) → i < length ps → slice_index_or ps i None ≡ None → length (kept (slice_set ps i (Some e))) ≡ length (kept ps) + 1
kept_fill [] i e h n = omega arith
kept_fill (None ∷ ps) zero e h n = omega arith
kept_fill (Some x ∷ ps) zero e h n = absurd (none-some x (sym n))
kept_fill (None ∷ ps) (suc i) e h n = kept_fill ps i e (omega arith) n
kept_fill (Some x ∷ ps) (suc i) e h n = omega (arith, kept_fill ps i e (omega arith) n)

pub kept_swap : (ps : List (Option Entry)) (i : ℕ) (e f : Entry) → slice_index_or ps i None ≡ Some f → length (kept (slice_set ps i (Some e))) ≡ length (kept ps)
kept_swap [] i e f n = absurd (none-some f n)
kept_swap (None ∷ ps) zero e f n = absurd (none-some f n)
kept_swap (Some x ∷ ps) zero e f n = refl
kept_swap (None ∷ ps) (suc i) e f n = kept_swap ps i e f n
kept_swap (Some x ∷ ps) (suc i) e f n = ap suc (kept_swap ps i e f n)

pub kept-drop : (ps : List (Option Entry)) (i : ℕ) (f : Entry) → slice_index_or ps i None ≡ Some f → length (kept (slice_set ps i None)) + 1 ≡ length (kept ps)
kept-drop [] i f n = absurd (none-some f n)
kept-drop (None ∷ ps) zero f n = absurd (none-some f n)
kept-drop (Some x ∷ ps) zero f n = omega arith
kept-drop (None ∷ ps) (suc i) f n = kept-drop ps i f n
kept-drop (Some x ∷ ps) (suc i) f n = omega (arith, kept-drop ps i f n)

-- ---- two lots of places that differ at one id
abbrev pub Into : List (Option Entry) → List (Option Entry) → ℕ → Type 0
Into ps qs k = (i : ℕ) (e : Entry) → slice_index_or ps i None ≡ Some e → (e.id ≢ k) → (j : ℕ) × (slice_index_or qs j None ≡ Some e)

pub kept_update : (ps qs : List (Option Entry)) (k : ℕ) (w : Option ℕ) → Alone qs → Into ps qs k → Into qs ps k → at (kept qs) k ≡ w → (q : ℕ) → at (kept qs) q ≡ update nat_eq (at (kept ps)) k w q
kept_update ps qs k w alone into back here q =
    elim (cases_eq k q) [
      | inl x ↦ ap (at (kept qs)) (sym x) ∙ here ∙ sym (rw (eq-eqb k q x) refl)
      | inr ne ↦
          elim (kept_where ps q) [
            | inl u ↦
                kept-missing qs q (λ i e is r. let b = back i e is (λ z. ne (sym z ∙ r)) in u.1 b.0 e b.1 r)
                ∙ sym u.0 ∙ sym (rw (ne_eqb k q ne) refl)
            | inr u ↦
                let j = into u.0 u.1 u.2 (λ z. ne (sym z ∙ u.3)) in
                subst (λ (z : ℕ). at (kept qs) z ≡ Some u.1.number) u.3 (kept-is qs j.0 u.1 alone j.1)
                ∙ sym u.4 ∙ sym (rw (ne_eqb k q ne) refl)
          ]
    ]

pub kept_same : (ps qs : List (Option Entry)) → Alone qs
    → ((i : ℕ) (e : Entry) → slice_index_or ps i None ≡ Some e → (j : ℕ) × (slice_index_or qs j None ≡ Some e))
    → ((i : ℕ) (e : Entry) → slice_index_or qs i None ≡ Some e → (j : ℕ) × (slice_index_or ps j None ≡ Some e))
    → (q : ℕ) → at (kept qs) q ≡ at (kept ps) q
kept_same ps qs alone into back q =
    elim (kept_where ps q) [
      | inl u ↦ kept-missing qs q (λ i e is r. let b = back i e is in u.1 b.0 e b.1 r) ∙ sym u.0
      | inr u ↦
          let j = into u.0 u.1 u.2 in
          subst (λ (z : ℕ). at (kept qs) z ≡ Some u.1.number) u.3 (kept-is qs j.0 u.1 alone j.1) ∙ sym u.4
    ]

-- ---- what a search found
pub no_spot : (ps : List (Option Entry)) (k : ℕ) (s : Spot) → Spotted ps k s → ((i n : ℕ) → s ≢ At i n) → Missing ps k
no_spot ps k (At i n) h ne = absurd (ne i n refl)
no_spot ps k (Free i) h ne = h.2
no_spot ps k Nowhere h ne = h.0

pub spot_at : (ps : List (Option Entry)) (k i n : ℕ) → Alone ps → Spotted ps k (At i n) → at (kept ps) k ≡ Some n
spot_at ps k i n alone h = kept-is ps i (record { id = k; number = n }) alone h.1
