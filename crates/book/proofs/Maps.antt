-- The laws of what is kept by number.
use Rattle.std.proofs.Common.{◌≡◌, ℕ, suc, ◌≤◌, Bool, true, false, cond, eqb, [], ◌∷◌, length, Some, None, Option, sym, refl, ap, ◌∙◌, subst, ⊎_elim, arith, lit≤}
use Rattle.std.proofs.lemmas.Bool.{eqb-true, eqb-false, eq-eqb, ne_eqb, cases_eq}
use Rattle.book.specs.Maps.{Map, find, remove, put, Distinct, Each}

module _ {V : Type 0} where
  pub find-put : (k : ℕ) (v : V) (m : Map V) → find k (put k v m) ≡ Some v
  find-put k v m = rw (eq-eqb k k refl)

  removed : (k : ℕ) (e : ℕ × V) (m : Map V) (t : Bool) → eqb k e.0 ≡ t → find k m ≡ None → find k (cond t m (e ∷ m)) ≡ None
  removed k e m true h ih = ih
  removed k e m false h ih = rw h ih

  pub find-remove : (k : ℕ) (m : Map V) → find k (remove k m) ≡ None
  find-remove k [] = refl
  find-remove k (e ∷ m) = removed k e (remove k m) (eqb k e.0) refl (find-remove k m)

  removed-other : (k q : ℕ) (e : ℕ × V) (m m' : Map V) (t : Bool) → (q ≡ k → ⊥) → eqb k e.0 ≡ t → find q m' ≡ find q m → find q (cond t m' (e ∷ m')) ≡ find q (e ∷ m)
  removed-other k q e m m' true n h ih = rw (ne_eqb q e.0 (λ x. n (x ∙ sym (eqb-true k e.0 h)))) ih
  removed-other k q e m m' false n h ih = rw ih

  pub find-remove-other : (k q : ℕ) (m : Map V) → (q ≡ k → ⊥) → find q (remove k m) ≡ find q m
  find-remove-other k q [] n = refl
  find-remove-other k q (e ∷ m) n = removed-other k q e m (remove k m) (eqb k e.0) n refl (find-remove-other k q m n)

  pub find-put-other : (k q : ℕ) (v : V) (m : Map V) → (q ≡ k → ⊥) → find q (put k v m) ≡ find q m
  find-put-other k q v m n = rw (ne_eqb q k n) (find-remove-other k q m n)

  -- lengths
  same-removed : (k : ℕ) (e : ℕ × V) (m m' : Map V) (t : Bool) → eqb k e.0 ≡ t → find k (e ∷ m) ≡ None → (find k m ≡ None → m' ≡ m) → cond t m' (e ∷ m') ≡ e ∷ m
  same-removed k e m m' true h n ih = let z : Some e.1 ≡ None = rw h at n in let w : ◌≡◌ {A = ℕ} 0 1 = cc in let no_way : ⊥ = omega arith in absurd no_way
  same-removed k e m m' false h n ih = ap (λ x. e ∷ x) (ih (rw h at n))

  pub remove_absent : (k : ℕ) (m : Map V) → find k m ≡ None → remove k m ≡ m
  remove_absent k [] n = refl
  remove_absent k (e ∷ m) n = same-removed k e m (remove k m) (eqb k e.0) refl n (remove_absent k m)

  shorter : (k : ℕ) (v : V) (e : ℕ × V) (m m' : Map V) (t : Bool) → eqb k e.0 ≡ t → find e.0 m ≡ None → find k (e ∷ m) ≡ Some v →
      (find k m ≡ None → m' ≡ m) → (find k m ≡ Some v → suc (length m') ≡ length m) → suc (length (cond t m' (e ∷ m'))) ≡ suc (length m)
  shorter k v e m m' true h d f same ih = let z : find k m ≡ None = ap (λ x. find x m) (eqb-true k e.0 h) ∙ d in ap (λ x. suc (length x)) (same z)
  shorter k v e m m' false h d f same ih = ap suc (ih (rw h at f))

  pub length-remove : (k : ℕ) (v : V) (m : Map V) → Distinct m → find k m ≡ Some v → suc (length (remove k m)) ≡ length m
  length-remove k v [] d f = let w : ◌≡◌ {A = ℕ} 0 1 = cc in let no_way : ⊥ = omega arith in absurd no_way
  length-remove k v (e ∷ m) d f =
      shorter k v e m (remove k m) (eqb k e.0) refl d.0 f (remove_absent k m) (length-remove k v m d.1)

  pub distinct_remove : (k : ℕ) (m : Map V) → Distinct m → Distinct (remove k m)
  distinct_remove k [] d = tt
  distinct_remove k (e ∷ m) d = by (eqb k e.0) refl (distinct_remove k m d.1)
    where
      by : (t : Bool) → eqb k e.0 ≡ t → Distinct (remove k m) → Distinct (cond t (remove k m) (e ∷ remove k m))
      by true h ih = ih
      by false h ih = (find-remove-other k e.0 m (λ x. eqb-false k e.0 h (sym x)) ∙ d.0, ih)

  pub distinct_put : (k : ℕ) (v : V) (m : Map V) → Distinct m → Distinct (put k v m)
  distinct_put k v m d = (find-remove k m, distinct_remove k m d)

  pub length-put : (k : ℕ) (v u : V) (m : Map V) → Distinct m → find k m ≡ Some u → length (put k v m) ≡ length m
  length-put k v u m d f = length-remove k u m d f

  pub length-new : (k : ℕ) (v : V) (m : Map V) → find k m ≡ None → length (put k v m) ≡ suc (length m)
  length-new k v m n = ap (λ x. suc (length x)) (remove_absent k m n)

  -- what holds of each
  same_some : (o : Option V) (u v : V) → o ≡ Some u → o ≡ Some v → u ≡ v
  same_some o u v e f = cc

  pub each-put : (P : ℕ → V → Type 0) (k : ℕ) (v : V) (m : Map V) → Each P m → P k v → Each P (put k v m)
  each-put P k v m h p q u e =
      ⊎_elim (λ x. subst (λ (n : ℕ). P n u) (sym x) (subst (λ z. P k z) (same_some (find q (put k v m)) v u (ap (λ (n : ℕ). find n (put k v m)) x ∙ find-put k v m) e) p))
      (λ n. h q u (sym (find-put-other k q v m n) ∙ e)) (cases_eq q k)

  pub found-kept : (k q : ℕ) (u : V) (m : Map V) → find q (remove k m) ≡ Some u → find q m ≡ Some u
  found-kept k q u m e =
      ⊎_elim (λ x. let z : None ≡ Some u = sym (find-remove k m) ∙ ap (λ (n : ℕ). find n (remove k m)) (sym x) ∙ e in
      let w : ◌≡◌ {A = ℕ} 0 1 = cc in let no_way : ⊥ = omega arith in absurd no_way)
      (λ n. sym (find-remove-other k q m n) ∙ e) (cases_eq q k)

  pub each-remove : (P : ℕ → V → Type 0) (k : ℕ) (m : Map V) → Each P m → Each P (remove k m)
  each-remove P k m h q u e = h q u (found-kept k q u m e)

  -- lengths, whatever stood there
  pub length_removed : (k : ℕ) (m : Map V) → length (remove k m) ≤ length m
  length_removed k [] = lit≤ tt
  length_removed k (e ∷ m) = by (eqb k e.0) (length_removed k m)
    where
      by : (t : Bool) → length (remove k m) ≤ length m → length (cond t (remove k m) (e ∷ remove k m)) ≤ suc (length m)
      by true h = omega arith
      by false h = omega arith
