-- Maps of the book made from memory: one item for each entry of an index, and what stands at each place of a table.
use Rattle.std.proofs.Common.{◌≡◌, ℕ, zero, suc, ◌≤◌, Bool, true, false, cond, eqb, List, [], ◌∷◌, map, length, is_some, Some, None, Option, sym, refl, ap, ◌∙◌, arith}
use lib.Dec.{eqb-zero-suc, eqb-suc-zero, eqb-suc-suc}
use Rattle.std.specs.Option.{option_map}
use Rattle.std.specs.List.{slice_get}
use Rattle.std.proofs.lemmas.List.{length-map}
use Rattle.index.specs.declared.entry.Entry.{Entry}
use Rattle.index.specs.Held.{at, Once}
use Rattle.index.proofs.Entries.{once-head, once_tail}
use Rattle.book.specs.Maps.{Map, find, Distinct}
use Rattle.tables.specs.Store.{only, tally}

-- one thing under a test is there where the test passes
isSome_only : {A : Type 0} (b : Bool) (x : A) → is_some (only (λ y. b) (Some x)) ≡ b
isSome_only true x = refl
isSome_only false x = refl

module _ {V : Type 0} where
  -- ---- by an index: what is read at each entry's number, under its id
  abbrev pub entered : (ℕ → V) → List Entry → Map V
  entered read es = map (λ e. (e.id, read e.number)) es

  pub find-entered : (read : ℕ → V) (es : List Entry) (k : ℕ) → find k (entered read es) ≡ option_map read (at es k)
  find-entered read [] k = refl
  find-entered read (e ∷ es) k =
      elim (eqb k e.id) as (λ b. cond b (Some (read e.number)) (find k (entered read es)) ≡ option_map read (cond b (Some e.number) (at es k))) [
        | true ↦ refl
        | false ↦ find-entered read es k
      ]

  pub distinct_entered : (read : ℕ → V) (es : List Entry) → Once es → Distinct (entered read es)
  distinct_entered read [] once = tt
  distinct_entered read (e ∷ es) once = (
    find-entered read es e.id ∙ ap (option_map read) (once-head e es once),
    distinct_entered read es (once_tail e es once),
  )

  -- ---- every number one up
  abbrev shifted : Map V → Map V
  shifted m = map (λ e. (suc e.0, e.1)) m

  find-shifted_zero : (m : Map V) → find 0 (shifted m) ≡ None
  find-shifted_zero [] = refl
  find-shifted_zero (e ∷ m) = rw (eqb-zero-suc e.0) (find-shifted_zero m)

  find-shifted_suc : (m : Map V) (k : ℕ) → find (suc k) (shifted m) ≡ find k m
  find-shifted_suc [] k = refl
  find-shifted_suc (e ∷ m) k = rw (eqb-suc-suc k e.0) (ap (cond (eqb k e.0) (Some e.1)) (find-shifted_suc m k))

  distinct_shifted : (m : Map V) → Distinct m → Distinct (shifted m)
  distinct_shifted [] d = tt
  distinct_shifted (e ∷ m) d = (find-shifted_suc m e.0 ∙ d.0, distinct_shifted m d.1)

  -- ---- and what is there, if anything, under 0
  abbrev with_zero : Option V → Map V → Map V
  with_zero None m = m
  with_zero (Some v) m = (0, v) ∷ m

  find-with_zero : (o : Option V) (m : Map V) → find 0 m ≡ None → find 0 (with_zero o m) ≡ o
  find-with_zero None m none = none
  find-with_zero (Some v) m none = refl

  find-with_zero_suc : (o : Option V) (m : Map V) (k : ℕ) → find (suc k) (with_zero o m) ≡ find (suc k) m
  find-with_zero_suc None m k = refl
  find-with_zero_suc (Some v) m k = rw (eqb-suc-zero k) refl

  distinct_with_zero : (o : Option V) (m : Map V) → find 0 m ≡ None → Distinct m → Distinct (with_zero o m)
  distinct_with_zero None m none d = d
  distinct_with_zero (Some v) m none d = (none, d)

  length-with_zero : (o : Option V) (m : Map V) → length (with_zero o m) ≡ cond (is_some o) (suc (length m)) (length m)
  length-with_zero None m = refl
  length-with_zero (Some v) m = refl

  -- ---- by the places of a table: what is there for each number below n, under that number
  abbrev pub gathered : (ℕ → Option V) → ℕ → Map V
  gathered view zero = []
  gathered view (suc n) = with_zero (view 0) (shifted (gathered (λ k. view (suc k)) n))

  pub find-gathered : (view : ℕ → Option V) (n : ℕ) → ((k : ℕ) → n ≤ k → view k ≡ None) → (k : ℕ) → find k (gathered view n) ≡ view k
  find-gathered view zero past k = sym (past k (omega arith))
  find-gathered view (suc n) past zero = find-with_zero (view 0) _ (find-shifted_zero (gathered (λ k. view (suc k)) n))
  find-gathered view (suc n) past (suc k) =
      find-with_zero_suc (view 0) _ k ∙ find-shifted_suc (gathered (λ j. view (suc j)) n) k
      ∙ find-gathered (λ j. view (suc j)) n (λ j le. past (suc j) (omega arith)) k

  pub distinct_gathered : (view : ℕ → Option V) (n : ℕ) → Distinct (gathered view n)
  distinct_gathered view zero = tt
  distinct_gathered view (suc n) =
      let rest = gathered (λ k. view (suc k)) n in
      distinct_with_zero (view 0) (shifted rest) (find-shifted_zero rest) (distinct_shifted rest (distinct_gathered (λ k. view (suc k)) n))

  -- as many as pass the test by which a place has something
  pub length-gathered : {A : Type 0} (test : A → Bool) (xs : List A) (view : ℕ → Option V) → ((k : ℕ) → is_some (view k) ≡ is_some (only test (slice_get xs k))) → length (gathered view (length xs)) ≡ tally test xs
  length-gathered test [] view agree = refl
  length-gathered test (x ∷ xs) view agree =
      let rest = gathered (λ k. view (suc k)) (length xs) in
      let same : length (shifted rest) ≡ tally test xs = length-map rest _ ∙ length-gathered test xs (λ k. view (suc k)) (λ k. agree (suc k)) in
      length-with_zero (view 0) (shifted rest)
      ∙ ap (λ b. cond b (suc (length (shifted rest))) (length (shifted rest))) (agree 0 ∙ isSome_only (test x) x)
      ∙ ap (λ z. cond (test x) (suc z) z) same
