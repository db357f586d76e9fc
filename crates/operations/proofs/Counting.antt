-- How many records an index holds, and how many there are of each kind.
use Rattle.std.proofs.Common.{◌≡◌, ℕ, zero, suc, ◌+◌, ◌<◌, ◌≤◌, Bool, true, false, cond, eqb, List, [], ◌∷◌, length, is_some, Some, None, Option, sym, refl, ap, ◌∙◌, add-one, arith}
use Rattle.std.specs.List.{slice_get}
use Rattle.std.proofs.lemmas.Option.{none-some, slice_get_past}
use Rattle.std.proofs.lemmas.Bool.{eqb-true, eq-eqb, cond-true, cond-false}
use Rattle.index.specs.declared.entry.Entry.{Entry}
use Rattle.index.specs.Held.{Once}
use Rattle.index.specs.Holding.{Holds}
use Rattle.index.proofs.Entries.{same_some}
use Rattle.index.proofs.Holding.{many, many-none, many-more-some, many-more-none, found_all}
use Rattle.tables.specs.declared.span.Mark.{Mark}
use Rattle.tables.specs.declared.span.Mark.TheVariants.{Free, Live, HandedOut}
use Rattle.tables.specs.declared.span.Span.{Span}
use Rattle.tables.specs.Store.{chained, key_at, tally, is_live, is_handed, is_free, live, handed, free}

-- ---- an index holds as many as have a key

abbrev bit : Option ℕ → ℕ
bit o = cond (is_some o) 1 0

many-step : (f : ℕ → Option ℕ) (i : ℕ) → many f (i + 1) ≡ many f i + bit (f i)
many-step f i = by (f i) refl
  where
    by : (o : Option ℕ) → f i ≡ o → many f (i + 1) ≡ many f i + bit (f i)
    by None e = let a = many-more-none f i e in let b : bit (f i) ≡ 0 = ap bit e in omega (arith, a, b)
    by (Some k) e = let a = many-more-some f i k e in let b : bit (f i) ≡ 1 = ap bit e in omega (arith, a, b)

many_shift : (f : ℕ → Option ℕ) (n : ℕ) → many f (n + 1) ≡ bit (f 0) + many (λ k. f (suc k)) n
many_shift f zero = let a = many-step f 0 in let b = many-none f in let d = many-none (λ k. f (suc k)) in omega (arith, a, b, d)
many_shift f (suc n) =
    let a = many-step f (suc n) in
    let b : many f (suc n) ≡ many f (n + 1) = ap (many f) (sym (add-one n)) in
    let d = many_shift f n in
    let e : many (λ k. f (suc k)) (suc n) ≡ many (λ k. f (suc k)) (n + 1) = ap (many (λ k. f (suc k))) (sym (add-one n)) in
    let h = many-step (λ k. f (suc k)) n in
    omega (arith, a, b, d, e, h)

many-tally : {A : Type 0} (key : A → Option ℕ) (xs : List A) → many (key_at key xs) (length xs) ≡ tally (λ x. is_some (key x)) xs
many-tally key [] = many-none (key_at key [])
many-tally key (x ∷ xs) =
    let a : many (key_at key (x ∷ xs)) (suc (length xs)) ≡ many (key_at key (x ∷ xs)) (length xs + 1) = ap (many (key_at key (x ∷ xs))) (sym (add-one (length xs))) in
    let b : many (key_at key (x ∷ xs)) (length xs + 1) ≡ bit (key x) + many (key_at key xs) (length xs) = many_shift (key_at key (x ∷ xs)) (length xs) in
    a ∙ (b ∙ (ap (λ n. bit (key x) + n) (many-tally key xs) ∙ by (is_some (key x)) (tally (λ x. is_some (key x)) xs)))
  where
    by : (t : Bool) (n : ℕ) → cond t 1 0 + n ≡ cond t (suc n) n
    by true n = omega arith
    by false n = omega arith

pub held-count : {A : Type 0} (key : A → Option ℕ) (xs : List A) (es : List Entry) → Once es → Holds es (key_at key xs) → length es ≡ tally (λ x. is_some (key x)) xs
held-count key xs es once h =
    let n = many (key_at key xs) (length xs) in
    let d = found_all es (key_at key xs) (length xs) once (λ i ge. ap (chained key) (slice_get_past xs i ge)) (λ i k lt e. h.1 k i e) (eqb (length es) n) n refl (eqb-true (length es) n, eq-eqb (length es) n) in
    eqb-true (length es) n (d.1 h) ∙ many-tally key xs

-- ---- tallies

pub tally_as : {A : Type 0} (t u : A → Bool) → ((x : A) → t x ≡ u x) → (xs : List A) → tally t xs ≡ tally u xs
tally_as t u e [] = refl
tally_as t u e (x ∷ xs) = ap (λ b. cond b (suc (tally t xs)) (tally t xs)) (e x) ∙ ap (λ n. cond (u x) (suc n) n) (tally_as t u e xs)

one_of : (k : Mark) (a b c : ℕ) → cond (is_live k) (suc a) a + cond (is_handed k) (suc b) b + cond (is_free k) (suc c) c ≡ suc (a + b + c)
one_of Free a b c = omega arith
one_of Live a b c = omega arith
one_of HandedOut a b c = omega arith

-- every span record is live, handed out or free
pub three : {T : Type 0} (xs : List (Span T)) → tally live xs + tally handed xs + tally free xs ≡ length xs
three [] = refl
three (x ∷ xs) = one_of x.mark _ _ _ ∙ ap suc (three xs)

module _ {A : Type 0} (t : A → Bool) where
  pub some_of : (xs : List A) (r : ℕ) (x : A) → slice_get xs r ≡ Some x → t x ≡ true → 1 ≤ tally t xs
  some_of [] r x e h = absurd (none-some x e)
  some_of (y ∷ xs) zero x e h =
      let z : t y ≡ true = ap t (same_some (Some y) y x refl e) ∙ h in
      let k : tally t (y ∷ xs) ≡ suc (tally t xs) = cond-true (t y) _ _ z in
      omega (arith, k)
  some_of (y ∷ xs) (suc r) x e h = by (t y) refl (some_of xs r x e h)
    where
      by : (b : Bool) → t y ≡ b → 1 ≤ tally t xs → 1 ≤ tally t (y ∷ xs)
      by true f k = let z : tally t (y ∷ xs) ≡ suc (tally t xs) = cond-true (t y) _ _ f in omega (arith, z)
      by false f k = let z : tally t (y ∷ xs) ≡ tally t xs = cond-false (t y) _ _ f in omega (arith, z, k)

  pub none_of : (xs : List A) → ((r : ℕ) (x : A) → slice_get xs r ≡ Some x → t x ≡ false) → tally t xs ≡ 0
  none_of [] n = refl
  none_of (x ∷ xs) n = cond-false (t x) _ _ (n 0 x refl) ∙ none_of xs (λ r y e. n (suc r) y e)

  pub all_of : (xs : List A) → ((r : ℕ) (x : A) → slice_get xs r ≡ Some x → t x ≡ true) → tally t xs ≡ length xs
  all_of [] n = refl
  all_of (x ∷ xs) n = cond-true (t x) _ _ (n 0 x refl) ∙ ap suc (all_of xs (λ r y e. n (suc r) y e))

  most_of : (xs : List A) → tally t xs ≤ length xs
  most_of [] = omega arith
  most_of (y ∷ xs) = by (t y) refl (most_of xs)
    where
      by : (b : Bool) → t y ≡ b → tally t xs ≤ length xs → tally t (y ∷ xs) ≤ suc (length xs)
      by true f k = let z : tally t (y ∷ xs) ≡ suc (tally t xs) = cond-true (t y) _ _ f in omega (arith, z, k)
      by false f k = let z : tally t (y ∷ xs) ≡ tally t xs = cond-false (t y) _ _ f in omega (arith, z, k)

  pub fewer_of : (xs : List A) (r : ℕ) (x : A) → slice_get xs r ≡ Some x → t x ≡ false → tally t xs < length xs
  fewer_of [] r x e h = absurd (none-some x e)
  fewer_of (y ∷ xs) zero x e h =
      let z : t y ≡ false = ap t (same_some (Some y) y x refl e) ∙ h in
      let k : tally t (y ∷ xs) ≡ tally t xs = cond-false (t y) _ _ z in
      let m = most_of xs in
      omega (arith, k, m)
  fewer_of (y ∷ xs) (suc r) x e h = by (t y) refl (fewer_of xs r x e h)
    where
      by : (b : Bool) → t y ≡ b → tally t xs < length xs → tally t (y ∷ xs) < suc (length xs)
      by true f k = let z : tally t (y ∷ xs) ≡ suc (tally t xs) = cond-true (t y) _ _ f in omega (arith, z, k)
      by false f k = let z : tally t (y ∷ xs) ≡ tally t xs = cond-false (t y) _ _ f in omega (arith, z, k)
