-- One record changes and keeps its key: the index still holds just the keys, and the book's map changes there alone.
use Rattle.std.proofs.Common.{◌≡◌, ℕ, List, set, Some, Option, sym, ap, ◌∙◌, subst, inl, inr}
use Rattle.std.proofs.lemmas.Bool.{cases_eq}
use Rattle.std.proofs.lemmas.Option.{slice_get_within}
use Rattle.std.specs.List.{slice_get}
use Rattle.index.specs.declared.entry.Entry.{Entry}
use Rattle.index.specs.Held.{at}
use Rattle.index.specs.Holding.{Holds}
use Rattle.index.proofs.Entries.{same_some}
use Rattle.book.specs.Maps.{Map, find, put, Both}
use Rattle.book.proofs.Maps.{find-put, find-put-other, distinct_put, length-put}
use Rattle.tables.specs.Store.{chained, key_at}
use Rattle.tables.specs.InOrder.{KeptIn}
use Rattle.tables.specs.Shows.{Shown}
use Rattle.tables.proofs.Places.{nth_set-same, nth_set-other}

module _ {A : Type 0} (key : A → Option ℕ) (Limits : A → Type 0) (xs : List A) (r : ℕ) (old new : A) (there : slice_get xs r ≡ Some old) (same : key new ≡ key old) where
  key_set : (q : ℕ) → key_at key (set xs r new) q ≡ key_at key xs q
  key_set q =
      elim (cases_eq q r) [
        | inl e ↦
            ap (λ n. key_at key (set xs r new) n) e
            ∙ (ap (chained key) (nth_set-same xs r new (slice_get_within xs r old there))
            ∙ (same ∙ (sym (ap (chained key) there) ∙ ap (λ n. key_at key xs n) (sym e))))
        | inr n ↦ ap (chained key) (nth_set-other xs r q new n)
      ]

  limits-set : Limits new → ((q : ℕ) (x : A) → slice_get xs q ≡ Some x → Limits x) → (q : ℕ) (x : A) → slice_get (set xs r new) q ≡ Some x → Limits x
  limits-set here all q x e =
      elim (cases_eq q r) [
        | inl i ↦
            subst Limits (same_some (slice_get (set xs r new) r) new x (nth_set-same xs r new (slice_get_within xs r old there)) (ap (slice_get (set xs r new)) (sym i) ∙ e)) here
        | inr n ↦ all q x (sym (nth_set-other xs r q new n) ∙ e)
      ]

  pub kept_set : (es : List Entry) → Limits new → KeptIn key Limits xs es → KeptIn key Limits (set xs r new) es
  kept_set es here kept = record {
    limits = limits-set here kept.limits;
    indexed = ((λ k n e. key_set n ∙ kept.indexed.0 k n e), λ k n e. kept.indexed.1 k n (sym (key_set n) ∙ e));
  }

-- what an index finds for two ids is not one record
pub found-apart : {A : Type 0} (key : A → Option ℕ) (xs : List A) (es : List Entry) → Holds es (key_at key xs) → (j k r : ℕ) → at es j ≡ Some r → at es k ≡ Some r → j ≡ k
found-apart key xs es h j k r e f = same_some (key_at key xs r) j k (h.0 j r e) (h.0 k r f)

-- one entry of the book's map is another, and one record shows it
pub retold : {C V : Type 0} (Like : C → V → Type 0) (view view' : ℕ → Option C) (n : ℕ) (m : Map V) (k : ℕ) (old new : V) (c : C)
    → Shown Like view n m → find k m ≡ Some old → view' k ≡ Some c → Like c new → ((q : ℕ) → (q ≡ k → ⊥) → view' q ≡ view q)
    → Shown Like view' n (put k new m)
retold Like view view' n m k old new c s was is like others = record {
  each = λ q.
      elim (cases_eq q k) [
        | inl e ↦ subst (λ (i : ℕ). Both Like (view' i) (find i (put k new m))) (sym e) (rw (is, find-put k new m) like)
        | inr ne ↦ rw (others q ne, find-put-other k q new m ne) (s.each q)
      ];
  counted = s.counted ∙ sym (length-put k new old m s.once was);
  once = distinct_put k new m s.once;
}
