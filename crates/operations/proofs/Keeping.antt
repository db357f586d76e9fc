-- Records that are kept, and the marks of their rows, where one record is taken or changed, or none.
use Rattle.std.proofs.Common.{◌≡◌, ℕ, Bool, true, false, ◌⊎◌, List, set, Some, None, sym, refl, ap, ◌∙◌, subst, inl, inr, length-set}
use Rattle.std.specs.List.{slice_get}
use Rattle.std.proofs.lemmas.Bool.{cases_eq, both_ways}
use Rattle.index.specs.declared.entry.Entry.{Entry}
use Rattle.index.specs.Held.{at}
use Rattle.index.proofs.Entries.{same_some}
use Rattle.vec_map.specs.declared.head.Head.{Head}
use Rattle.std.proofs.lemmas.Option.{none-some, slice_get_within}
use Rattle.tables.proofs.Places.{nth_set-same, nth_set-other}
use Rattle.operations.specs.Done.{Unused, RowsMoved, RecordsKept}
use Rattle.operations.specs.Made.{Puts}

module _ {A : Type 0} (unused : A → Bool) (meta metrics : A → Head) (Made : ℕ → Type 0) (xs : List A) (es : List Entry) where
  same_heads : (es' : List Entry) (r : ℕ) (x x' : A) → x ≡ x' → RowsMoved Made es' r (meta x) (metrics x) (meta x') (metrics x')
  same_heads es' r x x' e = inl (inl (ap meta (sym e)), inl (ap metrics (sym e)))

  -- nothing changed
  pub records-same : RecordsKept unused meta metrics Made xs xs es es
  records-same = record {
    long = refl;
    stays = λ id r e. e;
    fresh = λ id r n e. absurd (none-some r (sym n ∙ e));
    used = λ r u. u;
    marks = λ r x x' e e'. same_heads es r x x' (same_some (slice_get xs r) x x' e e');
  }

  -- record r is taken for an id
  module _ (es' : List Entry) (r id : ℕ) (x x' : A) (is : slice_get xs r ≡ Some x) (busy : unused x' ≡ false) (p : Puts es es' id r)
      (way : (at es id ≡ Some r) ⊎ ((at es id ≡ None) × (unused x ≡ true))) (moved : RowsMoved Made es' r (meta x) (metrics x) (meta x') (metrics x')) where
    here-is : slice_get (set xs r x') r ≡ Some x'
    here-is = nth_set-same xs r x' (slice_get_within xs r x is)

    own_stays : (n : ℕ) → at es id ≡ Some n → at es' id ≡ Some n
    own_stays n e = elim way [
      | inl own ↦ p.here ∙ ap Some (same_some (at es id) r n own e)
      | inr idle ↦ absurd (none-some n (sym idle.0 ∙ e))
    ]

    own_fresh : (n : ℕ) → at es id ≡ None → at es' id ≡ Some n → Unused unused xs n
    own_fresh n none e = elim way [
      | inl own ↦ absurd (none-some r (sym none ∙ own))
      | inr idle ↦ subst (λ (q : ℕ). Unused unused xs q) (same_some (at es' id) r n p.here e) (record { found = x; is = is; idle = idle.1 })
    ]

    pub records-set : RecordsKept unused meta metrics Made xs (set xs r x') es es'
    records-set = record {
      long = length-set xs r x';
      stays = λ q n e. elim (cases_eq q id) [
        | inl same ↦ ap (at es') same ∙ own_stays n (ap (at es) (sym same) ∙ e)
        | inr ne ↦ p.there q ne ∙ e
      ];
      fresh = λ q n none e. elim (cases_eq q id) [
        | inl same ↦ own_fresh n (ap (at es) (sym same) ∙ none) (ap (at es') (sym same) ∙ e)
        | inr ne ↦ absurd (none-some n (sym (p.there q ne ∙ none) ∙ e))
      ];
      used = λ q u. elim (cases_eq q r) [
        | inl same ↦
            let z : u.found ≡ x' = same_some (slice_get (set xs r x') r) u.found x' (ap (slice_get (set xs r x')) (sym same) ∙ u.is) here-is in
            absurd (both_ways (unused x') busy (ap unused (sym z) ∙ u.idle))
        | inr ne ↦ record { found = u.found; is = sym (nth_set-other xs r q x' ne) ∙ u.is; idle = u.idle }
      ];
      marks = λ q y y' e e'. elim (cases_eq q r) [
        | inl same ↦
            let a : x ≡ y = same_some (slice_get xs r) x y is (ap (slice_get xs) (sym same) ∙ e) in
            let b : x' ≡ y' = same_some (slice_get (set xs r x') r) x' y' here-is (ap (slice_get (set xs r x')) (sym same) ∙ e') in
            subst (λ (n : ℕ). RowsMoved Made es' n (meta y) (metrics y) (meta y') (metrics y')) (sym same)
            (subst (λ z. RowsMoved Made es' r (meta z) (metrics z) (meta y') (metrics y')) a (subst (λ z. RowsMoved Made es' r (meta x) (metrics x) (meta z) (metrics z)) b moved))
        | inr ne ↦ same_heads es' q y y' (same_some (slice_get xs q) y y' e (sym (nth_set-other xs r q x' ne) ∙ e'))
      ];
    }
