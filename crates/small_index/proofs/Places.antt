-- What a put and a removal mean, told by the places.
use Rattle.std.proofs.Common.{◌≡◌, ℕ, suc, ◌+◌, ◌<◌, cond, eqb, List, [], ◌∷◌, ◌++◌, length, get_or, take, is_some, Some, None, Ok, Option, sym, refl, ap, ◌∙◌, subst, inl, inr, arith}
use Rattle.std.specs.Map.{update}
use Rattle.std.proofs.lemmas.Cmp.{nat_eq_equiv}
use Rattle.std.proofs.lemmas.Map.{update_same, update_apart}
use Rattle.std.proofs.lemmas.Option.{none-some}
use Rattle.std.proofs.lemmas.List.{take_more, take_all, length-take-le}
use Rattle.std.proofs.lemmas.Bool.{cases_eq, eq-eqb, ne_eqb}
use Rattle.index.specs.declared.entry.Entry.{Entry}
use Rattle.index.specs.Held.{at, Once, Put, Removed, blank}
use Rattle.index.proofs.Entries.{at_here, at-later, once_nil, once_cons, once_tail, once-head}
use Rattle.small_index.specs.Standing.{puts, outs, last_first}

-- ---- a put
pub at-puts : (es : List Entry) (e : Entry) (q : ℕ) → at (puts es e) q ≡ update eqb (at es) e.id (Some e.number) q
at-puts [] e q = ap (λ t. cond t (Some e.number) None) (nat_eq_equiv.symm q e.id)
at-puts (x ∷ es) e q =
    let w : Option ℕ = Some e.number in
    elim (cases_eq x.id e.id) [
      | inl s ↦
          rw (eq-eqb x.id e.id s)
          (elim (cases_eq q e.id) [
            | inl y ↦ at_here e es q y ∙ sym (update_same eqb (at (x ∷ es)) e.id w q (eq-eqb e.id q (sym y)))
            | inr ny ↦ at-later e es q ny ∙ sym (at-later x es q (λ z. ny (z ∙ s))) ∙ sym (update_apart (at (x ∷ es)) e.id w q ny)
          ])
      | inr ne ↦
          rw (ne_eqb x.id e.id ne)
          (elim (cases_eq q x.id) [
            | inl y ↦ at_here x (puts es e) q y ∙ sym (at_here x es q y) ∙ sym (update_apart (at (x ∷ es)) e.id w q (λ z. ne (sym y ∙ z)))
            | inr ny ↦ at-later x (puts es e) q ny ∙ at-puts es e q ∙ ap (λ t. cond t w (at es q)) (nat_eq_equiv.symm e.id q) ∙ ap (λ (o : Option ℕ). cond (eqb q e.id) w o) (sym (at-later x es q ny)) ∙ ap (λ t. cond t w (at (x ∷ es) q)) (nat_eq_equiv.symm q e.id)
          ])
    ]

length-puts : (es : List Entry) (e : Entry) → length (puts es e) ≡ length es + cond (is_some (at es e.id)) 0 1
length-puts [] e = omega arith
length-puts (x ∷ es) e =
    elim (cases_eq x.id e.id) [
      | inl s ↦ rw (eq-eqb x.id e.id s) (rw (eq-eqb e.id x.id (sym s)) (omega arith))
      | inr ne ↦ rw (ne_eqb x.id e.id ne) (rw (ne_eqb e.id x.id (λ z. ne (sym z))) (omega (arith, length-puts es e)))
    ]

once-puts : (es : List Entry) (e : Entry) → Once es → Once (puts es e)
once-puts [] e o = once_cons e [] refl once_nil
once-puts (x ∷ es) e o =
    elim (cases_eq x.id e.id) [
      | inl s ↦ rw (eq-eqb x.id e.id s) (once_cons e es (ap (at es) (sym s) ∙ once-head x es o) (once_tail x es o))
      | inr ne ↦
          rw (ne_eqb x.id e.id ne)
          (once_cons x (puts es e) (at-puts es e x.id ∙ update_apart (at es) e.id (Some e.number) x.id ne ∙ once-head x es o)
          (once-puts es e (once_tail x es o)))
    ]

-- ---- the last moved before the others
apart-head : (x : Entry) (es : List Entry) (k : ℕ) → at (x ∷ es) k ≡ None → k ≡ x.id → ⊥
apart-head x es k n e = none-some x.number (sym n ∙ (at_here x es k e))

none_tail : (x : Entry) (es : List Entry) (k : ℕ) → at (x ∷ es) k ≡ None → at es k ≡ None
none_tail x es k n = sym (at-later x es k (apart-head x es k n)) ∙ n

at_snoc : (es : List Entry) (z : Entry) → at es z.id ≡ None → (q : ℕ) → at (z ∷ es) q ≡ at (es ++ z ∷ []) q
at_snoc [] z n q = refl
at_snoc (x ∷ es) z n q =
    let ne : z.id ≡ x.id → ⊥ = apart-head x es z.id n in
    elim (cases_eq q x.id) [
      | inl y ↦ at-later z (x ∷ es) q (λ s. ne (sym s ∙ y)) ∙ at_here x es q y ∙ sym (at_here x (es ++ z ∷ []) q y)
      | inr ny ↦
          ap (λ (o : Option ℕ). cond (eqb q z.id) (Some z.number) o) (at-later x es q ny)
          ∙ at_snoc es z (none_tail x es z.id n) q ∙ sym (at-later x (es ++ z ∷ []) q ny)
    ]

once-snoc : (es : List Entry) (z : Entry) → Once (es ++ z ∷ []) → Once (z ∷ es)
once-snoc [] z o = o
once-snoc (x ∷ es) z o =
    let rest : Once (z ∷ es) = once-snoc es z (once_tail x (es ++ z ∷ []) o) in
    let n : at es z.id ≡ None = once-head z es rest in
    let m : at (z ∷ es) x.id ≡ None = at_snoc es z n x.id ∙ once-head x (es ++ z ∷ []) o in
    let ne : z.id ≡ x.id → ⊥ = λ s. apart-head z es x.id m (sym s) in
    once_cons z (x ∷ es) (at-later x es z.id ne ∙ n) (once_cons x es (none_tail z es x.id m) (once_tail z es rest))

snoc : (y : Entry) (ys : List Entry) → take (length ys) (y ∷ ys) ++ get_or (y ∷ ys) (length ys) blank ∷ [] ≡ y ∷ ys
snoc y ys =
    let h : length ys < length (y ∷ ys) = omega arith in
    sym (take_more (y ∷ ys) (length ys) blank h) ∙ take_all (length ys + 1) (y ∷ ys) (omega arith)

pub once_last : (es : List Entry) → Once es → Once (last_first es)
once_last [] o = o
once_last (y ∷ ys) o =
    once-snoc (take (length ys) (y ∷ ys)) (get_or (y ∷ ys) (length ys) blank) (subst Once (sym (snoc y ys)) o)

at_last : (es : List Entry) → Once es → (q : ℕ) → at (last_first es) q ≡ at es q
at_last [] o q = refl
at_last (y ∷ ys) o q =
    at_snoc (take (length ys) (y ∷ ys)) (get_or (y ∷ ys) (length ys) blank)
    (once-head (get_or (y ∷ ys) (length ys) blank) (take (length ys) (y ∷ ys)) (once_last (y ∷ ys) o)) q
    ∙ ap (λ es. at es q) (snoc y ys)

length_last : (es : List Entry) → length (last_first es) ≡ length es
length_last [] = refl
length_last (y ∷ ys) = ap suc (length-take-le (length ys) (y ∷ ys) (omega arith))

-- ---- a removal
at-outs : (es : List Entry) (k : ℕ) → Once es → (q : ℕ) → at (outs es k) q ≡ update eqb (at es) k None q
at-outs [] k o q = elim (cases_eq q k) [ inl y ↦ sym (update_same eqb (at []) k None q (eq-eqb k q (sym y))) | inr ny ↦ sym (update_apart (at []) k None q ny) ]
at-outs (x ∷ es) k o q =
    elim (cases_eq x.id k) [
      | inl s ↦
          rw (eq-eqb x.id k s)
          (at_last es (once_tail x es o) q
          ∙ elim (cases_eq q k) [
            | inl y ↦ ap (at es) (y ∙ sym s) ∙ once-head x es o ∙ sym (update_same eqb (at (x ∷ es)) k None q (eq-eqb k q (sym y)))
            | inr ny ↦ sym (at-later x es q (λ z. ny (z ∙ s))) ∙ sym (update_apart (at (x ∷ es)) k None q ny)
          ])
      | inr ne ↦
          rw (ne_eqb x.id k ne)
          (elim (cases_eq q x.id) [
            | inl y ↦ at_here x (outs es k) q y ∙ sym (at_here x es q y) ∙ sym (update_apart (at (x ∷ es)) k None q (λ z. ne (sym y ∙ z)))
            | inr ny ↦ at-later x (outs es k) q ny ∙ at-outs es k (once_tail x es o) q ∙ ap (λ t. cond t None (at es q)) (nat_eq_equiv.symm k q) ∙ ap (λ (w : Option ℕ). cond (eqb q k) None w) (sym (at-later x es q ny)) ∙ ap (λ t. cond t None (at (x ∷ es) q)) (nat_eq_equiv.symm q k)
          ])
    ]

length-outs : (es : List Entry) (k : ℕ) → length (outs es k) + cond (is_some (at es k)) 1 0 ≡ length es
length-outs [] k = omega arith
length-outs (x ∷ es) k =
    elim (cases_eq x.id k) [
      | inl s ↦ rw (eq-eqb x.id k s) (rw (eq-eqb k x.id (sym s)) (omega (arith, length_last es)))
      | inr ne ↦ rw (ne_eqb x.id k ne) (rw (ne_eqb k x.id (λ z. ne (sym z))) (omega (arith, length-outs es k)))
    ]

once-outs : (es : List Entry) (k : ℕ) → Once es → Once (outs es k)
once-outs [] k o = o
once-outs (x ∷ es) k o =
    elim (cases_eq x.id k) [
      | inl s ↦ rw (eq-eqb x.id k s) (once_last es (once_tail x es o))
      | inr ne ↦
          rw (ne_eqb x.id k ne)
          (once_cons x (outs es k) (at-outs es k (once_tail x es o) x.id ∙ update_apart (at es) k None x.id ne ∙ once-head x es o)
          (once-outs es k (once_tail x es o)))
    ]

-- ---- what the contracts ask
module _ (es after : List Entry) (once : Once es) where
  pub puts-once : (e : Entry) → after ≡ puts es e → Once after
  puts-once e is = subst Once (sym is) (once-puts es e once)

  pub puts_means : (e : Entry) (former : Option ℕ) → after ≡ puts es e → former ≡ at es e.id → Put es after 256 e.id e.number (Ok former)
  puts_means e former is f = (
    f,
    λ q. ap (λ xs. at xs q) is ∙ at-puts es e q,
    ap length is ∙ length-puts es e ∙ ap (λ (o : Option ℕ). length es + cond (is_some o) 0 1) (sym f),
  )

  pub outs-once : (k : ℕ) → after ≡ outs es k → Once after
  outs-once k is = subst Once (sym is) (once-outs es k once)

  pub outs_means : (k : ℕ) (former : Option ℕ) → after ≡ outs es k → former ≡ at es k → Removed es after k former
  outs_means k former is f = (
    f,
    λ q. ap (λ xs. at xs q) is ∙ at-outs es k once q,
    ap (λ xs. length xs + cond (is_some former) 1 0) is ∙ ap (λ (o : Option ℕ). length (outs es k) + cond (is_some o) 1 0) f ∙ length-outs es k,
  )
