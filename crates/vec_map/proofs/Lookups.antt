-- Taking the repeats out leaves every lookup as it was, and no key twice.
use Rattle.std.proofs.Common.{◌≡◌, Bool, true, false, cond, ◌||◌, ◌⊎◌, List, [], ◌∷◌, ◌++◌, reverse, Some, None, Option, option_map, sym, refl, ap, ◌∙◌, inl, inr}
use mathlib.Core.List.{reverse-cons}
use Rattle.std.proofs.lemmas.List.{take_at}
use Rattle.std.specs.List.{find}
use Rattle.vec_map.specs.Rows.{Equivalence, last_value, known, firsts, without_repeats, Row, items, dedup_row, NoRepeats}
use Rattle.std.proofs.lemmas.Bool.{both_ways, cases_Bool, or_left, or_parts, or_right}
use Rattle.std.specs.Option.{option_or}
use Rattle.vec_map.specs.Fair.{alike_from}
use Rattle.vec_map.proofs.Steps.{known_push}

or_none : {V : Type 0} (o : Option V) → option_or o None ≡ o
or_none None = refl
or_none (Some v) = refl

module _ {K : Type 0} (same : K → K → Bool) (fair : Equivalence same) where
  -- keys that are alike are alike to the same keys
  same_alike : (a b c : K) → same a b ≡ true → same c a ≡ same c b
  same_alike a b c e =
      alike_from (same c a) (same c b) (λ t. fair.onward c a b t e) (λ t. fair.onward c b a t (fair.either b a ∙ e))

module _ {K V : Type 0} (same : K → K → Bool) (fair : Equivalence same) where
  known_alike : (a b : K) (xs : List (K × V)) → same a b ≡ true → known same a xs ≡ known same b xs
  known_alike a b [] e = refl
  known_alike a b (p ∷ xs) e =
      ap (λ t. t || known same a xs) (same_alike same fair a b p.0 e) ∙ ap (λ t. same p.0 b || t) (known_alike a b xs e)

  -- the value of the first pair with the key k
  abbrev first_value : K → List (K × V) → Option V
  first_value k [] = None
  first_value k (p ∷ ps) = cond (same p.0 k) (Some p.1) (first_value k ps)

  option_or_cond : (b : Bool) (v : V) (x y o : Option V) → x ≡ option_or y o → cond b (Some v) x ≡ option_or (cond b (Some v) y) o
  option_or_cond true v x y o e = refl
  option_or_cond false v x y o e = e

  found_step : (b : Bool) (p : K × V) (o : Option (K × V)) (v : Option V) → option_map (λ (p : K × V). p.1) o ≡ v → option_map (λ (p : K × V). p.1) (cond b (Some p) o) ≡ cond b (Some p.1) v
  found_step true p o v e = refl
  found_step false p o v e = e

  first_push : (k : K) (xs : List (K × V)) (p : K × V) → first_value k (xs ++ p ∷ []) ≡ option_or (first_value k xs) (cond (same p.0 k) (Some p.1) None)
  first_push k [] p = refl
  first_push k (q ∷ xs) p =
      option_or_cond (same q.0 k) q.1 (first_value k (xs ++ p ∷ [])) (first_value k xs) (cond (same p.0 k) (Some p.1) None) (first_push k xs p)

  first-reverse : (k : K) (xs : List (K × V)) → first_value k (reverse xs) ≡ last_value same k xs
  first-reverse k [] = refl
  first-reverse k (p ∷ xs) =
      ap (λ ys. first_value k ys) (reverse-cons p xs)
      ∙ (first_push k (reverse xs) p ∙ ap (λ o. option_or o (cond (same p.0 k) (Some p.1) None)) (first-reverse k xs))

  first-found : (k : K) (xs : List (K × V)) → option_map (λ (p : K × V). p.1) (find (λ p. same p.0 k) xs) ≡ first_value k xs
  first-found k [] = refl
  first-found k (p ∷ xs) = found_step (same p.0 k) p (find (λ p. same p.0 k) xs) (first_value k xs) (first-found k xs)

  pub last-found : (k : K) (xs : List (K × V)) → option_map (λ (p : K × V). p.1) (find (λ p. same p.0 k) (reverse xs)) ≡ last_value same k xs
  last-found k xs = first-found k (reverse xs) ∙ first-reverse k xs

  first_step : (k : K) (kept ys : List (K × V)) (p : K × V) → known same k kept ≡ false
      → (known same p.0 kept ≡ true) ⊎ (known same p.0 kept ≡ false)
      → (same p.0 k ≡ true) ⊎ (same p.0 k ≡ false)
      → first_value k (firsts same kept ys) ≡ first_value k ys
      → (known same k (kept ++ p ∷ []) ≡ false → first_value k (firsts same (kept ++ p ∷ []) ys) ≡ first_value k ys)
      → first_value k (firsts same kept (p ∷ ys)) ≡ first_value k (p ∷ ys)
  first_step k kept ys p n (inl t) (inl e) on off = absurd (both_ways (known same k kept) n (sym (known_alike p.0 k kept e) ∙ t))
  first_step k kept ys p n (inl t) (inr e) on off = rw (t, e) on
  first_step k kept ys p n (inr t) (inl e) on off = rw (t, e)
  first_step k kept ys p n (inr t) (inr e) on off =
      rw (t, e) (off (known_push same k kept p ∙ (ap (λ b. b || same p.0 k) n ∙ e)))

  first-firsts : (k : K) (kept ys : List (K × V)) → known same k kept ≡ false → first_value k (firsts same kept ys) ≡ first_value k ys
  first-firsts k kept [] n = refl
  first-firsts k kept (p ∷ ys) n =
      first_step k kept ys p n (cases_Bool (known same p.0 kept)) (cases_Bool (same p.0 k))
      (first-firsts k kept ys n) (λ m. first-firsts k (kept ++ p ∷ []) ys m)

  last_none : (k : K) (zs : List (K × V)) → known same k zs ≡ false → last_value same k zs ≡ None
  last_none k [] n = refl
  last_none k (p ∷ zs) n =
      let q = or_parts (same p.0 k) (known same k zs) n in
      ap (λ o. option_or o (cond (same p.0 k) (Some p.1) None)) (last_none k zs q.1)
      ∙ ap (λ b. cond b (Some p.1) None) q.0

  last_step : (k : K) (p : K × V) (zs : List (K × V)) → known same p.0 zs ≡ false
      → (same p.0 k ≡ true) ⊎ (same p.0 k ≡ false)
      → last_value same k zs ≡ first_value k zs → last_value same k (p ∷ zs) ≡ first_value k (p ∷ zs)
  last_step k p zs n (inl e) on =
      rw e (ap (λ o. option_or o (Some p.1)) (last_none k zs (sym (known_alike p.0 k zs e) ∙ n)))
  last_step k p zs n (inr e) on = rw e (or_none (last_value same k zs) ∙ on)

  last_first : (k : K) (zs : List (K × V)) → NoRepeats same zs → last_value same k zs ≡ first_value k zs
  last_first k [] n = refl
  last_first k (p ∷ zs) n = last_step k p zs n.0 (cases_Bool (same p.0 k)) (last_first k zs n.1)

  -- a key that is kept does not come again
  again_step : (a : K) (kept ys : List (K × V)) (p : K × V) → known same a kept ≡ true
      → (known same p.0 kept ≡ true) ⊎ (known same p.0 kept ≡ false)
      → (same p.0 a ≡ true) ⊎ (same p.0 a ≡ false)
      → known same a (firsts same kept ys) ≡ false
      → (known same a (kept ++ p ∷ []) ≡ true → known same a (firsts same (kept ++ p ∷ []) ys) ≡ false)
      → known same a (firsts same kept (p ∷ ys)) ≡ false
  again_step a kept ys p t (inl e) s on off = rw e on
  again_step a kept ys p t (inr e) (inl s) on off = absurd (both_ways (known same p.0 kept) e (known_alike p.0 a kept s ∙ t))
  again_step a kept ys p t (inr e) (inr s) on off =
      rw (e, s) (off (known_push same a kept p ∙ or_left (known same a kept) (same p.0 a) t))

  not_again : (a : K) (kept ys : List (K × V)) → known same a kept ≡ true → known same a (firsts same kept ys) ≡ false
  not_again a kept [] t = refl
  not_again a kept (p ∷ ys) t =
      again_step a kept ys p t (cases_Bool (known same p.0 kept)) (cases_Bool (same p.0 a))
      (not_again a kept ys t) (λ m. not_again a (kept ++ p ∷ []) ys m)

  apart-step : (kept ys : List (K × V)) (p : K × V) → (known same p.0 kept ≡ true) ⊎ (known same p.0 kept ≡ false)
      → NoRepeats same (firsts same kept ys) → NoRepeats same (firsts same (kept ++ p ∷ []) ys)
      → NoRepeats same (firsts same kept (p ∷ ys))
  apart-step kept ys p (inl e) on off = rw e on
  apart-step kept ys p (inr e) on off =
      rw e (
        not_again p.0 (kept ++ p ∷ []) ys
            (known_push same p.0 kept p ∙ or_right (known same p.0 kept) (same p.0 p.0) (fair.itself p.0)),
        off,
      )

  firsts-apart : (kept ys : List (K × V)) → NoRepeats same (firsts same kept ys)
  firsts-apart kept [] = tt
  firsts-apart kept (p ∷ ys) =
      apart-step kept ys p (cases_Bool (known same p.0 kept)) (firsts-apart kept ys) (firsts-apart (kept ++ p ∷ []) ys)

  lookup_kept : (k : K) (xs : List (K × V)) → last_value same k (without_repeats same xs) ≡ last_value same k xs
  lookup_kept k xs =
      last_first k (without_repeats same xs) (firsts-apart [] (reverse xs))
      ∙ (first-firsts k [] (reverse xs) refl ∙ first-reverse k xs)

  deduped-items : (r : Row K V) → r.deduped ≡ false → items (dedup_row same r) ≡ without_repeats same (items r)
  deduped-items r e = rw e (take_at (without_repeats same (items r)) _ _ refl)

  pub dedup_apart : (r : Row K V) → r.deduped ≡ false → NoRepeats same (items (dedup_row same r))
  dedup_apart r e = rw (deduped-items r e) (firsts-apart [] (reverse (items r)))

  lookup_step : (r : Row K V) (k : K) → (r.deduped ≡ true) ⊎ (r.deduped ≡ false)
      → last_value same k (items (dedup_row same r)) ≡ last_value same k (items r)
  lookup_step r k (inl e) = rw e refl
  lookup_step r k (inr e) = ap (λ xs. last_value same k xs) (deduped-items r e) ∙ lookup_kept k (items r)

  pub dedup_lookup : (r : Row K V) (k : K) → last_value same k (items (dedup_row same r)) ≡ last_value same k (items r)
  dedup_lookup r k = lookup_step r k (cases_Bool r.deduped)
