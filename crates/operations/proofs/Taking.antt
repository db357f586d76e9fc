-- A record is taken for an id: its own, or one that is in no use.
use Rattle.std.proofs.Common.{◌≡◌, ℕ, zero, suc, ◌+◌, ◌<◌, Bool, false, cond, ◌⊎◌, List, [], ◌∷◌, length, set, is_some, Some, None, Option, sym, refl, ap, ◌∙◌, subst, inl, inr, arith}
use Rattle.std.specs.Option.{option_map}
use Rattle.std.specs.List.{slice_get}
use Rattle.std.proofs.lemmas.Bool.{cases_eq}
use Rattle.index.specs.declared.entry.Entry.{Entry}
use Rattle.index.specs.Held.{at}
use Rattle.index.specs.Holding.{Holds}
use Rattle.index.proofs.Entries.{same_some}
use Rattle.book.specs.Maps.{Map, find, put}
use Rattle.book.proofs.Maps.{find-put, find-put-other, length-put, length-new, distinct_put}
use Rattle.book.proofs.Boths.{both_some, both-none, both-same, both_left, both-left-none}
use Rattle.tables.specs.Store.{Store, chained, key_at, only, tally, live_key, standing_key}
use Rattle.tables.specs.InOrder.{KeptIn, InOrder}
use Rattle.tables.specs.Shows.{Shown}
use Rattle.std.proofs.lemmas.Option.{none-some, slice_get_within}
use Rattle.tables.proofs.Places.{nth_set-same, nth_set-other}
use Rattle.operations.specs.Done.{HeldWithin}
use Rattle.operations.specs.Made.{Puts}

-- an operation that leaves the index
pub put_same : (es : List Entry) (id r : ℕ) → at es id ≡ Some r → Puts es es id r
put_same es id r e = record {
  here = e;
  there = λ q ne. refl;
  many = (let a : length es + cond (is_some (at es id)) 0 1 ≡ length es + 0 = ap (λ x. length es + cond (is_some x) 0 1) e in omega (arith, a));
}

-- ---- the index and the keys

module _ {A : Type 0} (key : A → Option ℕ) (xs : List A) (es : List Entry) (h : Holds es (key_at key xs)) (r id : ℕ) (x : A) (is : slice_get xs r ≡ Some x)
    (way : (at es id ≡ Some r) ⊎ ((at es id ≡ None) × (key x ≡ None))) where
  -- the key of the record, for an id that is found there
  pub key-is : (q : ℕ) → at es q ≡ Some r → key x ≡ Some q
  key-is q e = sym (ap (chained key) is) ∙ h.0 q r e

  -- another id is found elsewhere
  pub apart : (q : ℕ) → (q ≡ id → ⊥) → at es q ≡ Some r → ⊥
  apart q ne e = elim way [
    | inl own ↦ ne (same_some (key x) q id (key-is q e) (key-is id own))
    | inr idle ↦ none-some q (sym idle.1 ∙ (key-is q e))
  ]

  module _ (x' : A) (es' : List Entry) (p : Puts es es' id r) (named : key x' ≡ Some id) where
    abbrev key' : ℕ → Option ℕ
    key' q = key_at key (set xs r x') q

    key_here : key' r ≡ Some id
    key_here = ap (chained key) (nth_set-same xs r x' (slice_get_within xs r x is)) ∙ named

    key-there : (q : ℕ) → (q ≡ r → ⊥) → key' q ≡ key_at key xs q
    key-there q ne = ap (chained key) (nth_set-other xs r q x' ne)

    found-there : (k n : ℕ) → at es' k ≡ Some n → key' n ≡ Some k
    found-there k n e = elim (cases_eq k id) [
      | inl same ↦
          let z : n ≡ r = same_some (at es' id) n r (ap (at es') (sym same) ∙ e) p.here in
          ap key' z ∙ (key_here ∙ ap Some (sym same))
      | inr ne ↦
          let e' : at es k ≡ Some n = sym (p.there k ne) ∙ e in
          key-there n (λ z. apart k ne (e' ∙ ap Some z)) ∙ h.0 k n e'
    ]

    not_taken : (n : ℕ) → (n ≡ r → ⊥) → at es id ≡ Some n → ⊥
    not_taken n ne e = elim way [
      | inl own ↦ ne (same_some (at es id) n r e own)
      | inr idle ↦ none-some n (sym idle.0 ∙ e)
    ]

    held-there : (k n : ℕ) → key' n ≡ Some k → at es' k ≡ Some n
    held-there k n e = elim (cases_eq n r) [
      | inl same ↦
          let z : k ≡ id = same_some (key' r) k id (ap key' (sym same) ∙ e) key_here in
          ap (at es') z ∙ (p.here ∙ ap Some (sym same))
      | inr ne ↦
          let e' : at es k ≡ Some n = h.1 k n (sym (key-there n ne) ∙ e) in
          p.there k (λ z. not_taken n ne (ap (at es) (sym z) ∙ e')) ∙ e'
    ]

    limits-set : (Limits : A → Type 0) → ((q : ℕ) (y : A) → slice_get xs q ≡ Some y → Limits y) → Limits x' → (q : ℕ) (y : A) → slice_get (set xs r x') q ≡ Some y → Limits y
    limits-set Limits old new q y e = elim (cases_eq q r) [
      | inl same ↦
          let z : x' ≡ y = same_some (slice_get (set xs r x') r) x' y (nth_set-same xs r x' (slice_get_within xs r x is)) (ap (slice_get (set xs r x')) (sym same) ∙ e) in
          subst Limits z new
      | inr ne ↦ old q y (sym (nth_set-other xs r q x' ne) ∙ e)
    ]

    pub kept_set : (Limits : A → Type 0) → ((q : ℕ) (y : A) → slice_get xs q ≡ Some y → Limits y) → Limits x' → KeptIn key Limits (set xs r x') es'
    kept_set Limits old new = record { limits = limits-set Limits old new; indexed = (found-there, held-there) }

-- ---- what the book shows under the id

module _ {C V : Type 0} (Like : C → V → Type 0) (view view' : ℕ → Option C) (n n' : ℕ) (m : Map V) (h : Shown Like view n m) (id : ℕ) (c' : C) (v' : V)
    (here : view' id ≡ Some c') (there : (q : ℕ) → (q ≡ id → ⊥) → view' q ≡ view q) (many : n' ≡ n + cond (is_some (view id)) 0 1) (like : Like c' v') where
  counted-put : (o : Option C) → view id ≡ o → n' ≡ length (put id v' m)
  counted-put None e =
      let a : n' ≡ n + 1 = many ∙ ap (λ x. n + cond (is_some x) 0 1) e in
      let l = length-new id v' m (both-left-none Like _ _ (h.each id) e) in
      let k = h.counted in
      omega (arith, a, l, k)
  counted-put (Some c) e =
      let a : n' ≡ n + 0 = many ∙ ap (λ x. n + cond (is_some x) 0 1) e in
      let f = both_left Like _ _ c (h.each id) e in
      let l = length-put id v' f.0 m h.once f.1 in
      let k = h.counted in
      omega (arith, a, l, k)

  pub shown-put : Shown Like view' n' (put id v' m)
  shown-put = record {
    each = λ q. elim (cases_eq q id) [
      | inl e ↦ both_some Like _ _ c' v' (ap view' e ∙ here) (ap (λ x. find x (put id v' m)) e ∙ find-put id v' m) like
      | inr ne ↦ both-same Like _ _ _ _ (there q ne) (find-put-other id q v' m ne) (h.each q)
    ];
    counted = counted-put (view id) refl;
    once = distinct_put id v' m h.once;
  }

-- ---- records with their rows, of which only those of record r changed

module _ {A C : Type 0} (cell cell' : ℕ → A → C) (xs : List A) (r : ℕ) (x' : A) (same : (q : ℕ) → (q ≡ r → ⊥) → (y : A) → cell' q y ≡ cell q y) where
  mapped_same : (f g : A → C) → ((y : A) → f y ≡ g y) → (o : Option A) → option_map f o ≡ option_map g o
  mapped_same f g e None = refl
  mapped_same f g e (Some y) = ap Some (e y)

  pub other-cell : (q : ℕ) → (q ≡ r → ⊥) → option_map (cell' q) (slice_get (set xs r x') q) ≡ option_map (cell q) (slice_get xs q)
  other-cell q ne = ap (option_map (cell' q)) (nth_set-other xs r q x' ne) ∙ mapped_same (cell' q) (cell q) (same q ne) (slice_get xs q)

  pub other-held : (o : Option ℕ) → (o ≡ Some r → ⊥) → chained (λ q. option_map (cell' q) (slice_get (set xs r x') q)) o ≡ chained (λ q. option_map (cell q) (slice_get xs q)) o
  other-held None ne = refl
  other-held (Some q) ne = other-cell q (λ e. ne (ap Some e))

-- ---- records that pass a test, if neither the old nor the new one does

pub tally-set : {A : Type 0} (t : A → Bool) (xs : List A) (r : ℕ) (x x' : A) → slice_get xs r ≡ Some x → t x' ≡ t x → tally t (set xs r x') ≡ tally t xs
tally-set t [] r x x' h e = refl
tally-set t (y ∷ xs) zero x x' h e = let z : x ≡ y = same_some (Some y) x y h refl in rw (e, z)
tally-set t (y ∷ xs) (suc r) x x' h e = rw (tally-set t xs r x x' h e)

pub only_not : {A : Type 0} (t : A → Bool) (o : Option A) (c : A) → o ≡ Some c → t c ≡ false → only t o ≡ None
only_not t o c e f = ap (only t) e ∙ ap (λ b. cond b (Some c) None) f

module _ {C V : Type 0} (Like : C → V → Type 0) (view view' : ℕ → Option C) (n n' : ℕ) (m : Map V) (h : Shown Like view n m) (r : ℕ)
    (was : view r ≡ None) (is : view' r ≡ None) (there : (q : ℕ) → (q ≡ r → ⊥) → view' q ≡ view q) (many : n' ≡ n) where
  pub shown_aside : Shown Like view' n' m
  shown_aside = record {
    each = λ q. elim (cases_eq q r) [
      | inl e ↦ both-none Like _ _ (ap view' e ∙ is) (ap (λ x. find x m) e ∙ both-left-none Like _ _ (h.each r) was)
      | inr ne ↦ both-same Like _ _ _ _ (there q ne) refl (h.each q)
    ];
    counted = many ∙ h.counted;
    once = h.once;
  }

-- ---- records that are held are there

pub held-within : {A : Type 0} (key : A → Option ℕ) (xs : List A) (es : List Entry) → Holds es (key_at key xs) → HeldWithin es (length xs)
held-within {A} key xs es h id r own = by (slice_get xs r) refl
  where
    by : (z : Option A) → slice_get xs r ≡ z → r < length xs
    by None e = absurd (none-some id (sym (ap (chained key) e) ∙ (h.0 id r own)))
    by (Some x) e = slice_get_within xs r x e

module _ {T : Type 0} (m : Store T) (o : InOrder m) where
  pub ids-within : HeldWithin m.ids (length m.spans)
  ids-within = held-within live_key m.spans m.ids o.spans.indexed

  pub seats-within : HeldWithin m.seats (length m.segments)
  seats-within = held-within standing_key m.segments m.seats o.segments.indexed
