-- How many records have a mark, and how many an index holds.
use Rattle.std.proofs.Common.{◌≡◌, ℕ, zero, suc, ◌+◌, Bool, true, false, cond, eqb, List, [], ◌∷◌, length, take, count_by, is_some, Some, None, Option, sym, refl, ap, ◌∙◌, add-zero, add-one, arith}
use Rattle.std.specs.List.{slice_get}
use Rattle.std.proofs.lemmas.List.{take_all}
use Rattle.std.proofs.lemmas.List.Recursion.{is_count_by}
use Rattle.std.proofs.lemmas.Option.{slice_get_past}
use Rattle.std.proofs.lemmas.Bool.{eqb-true}
use Rattle.std.proofs.lemmas.Bool.Decides.{Decides-eqb}
use Rattle.index.specs.declared.entry.Entry.{Entry}
use Rattle.index.specs.Held.{Once}
use Rattle.index.specs.Holding.{Holds}
use Rattle.index.proofs.Holding.{many, many-none, many-more-some, many-more-none, found_all}
use Rattle.tables.specs.declared.span.Mark.{Mark}
use Rattle.tables.specs.declared.span.Mark.TheVariants.{Free, Live, HandedOut}
use Rattle.tables.specs.declared.span.Span.{Span}
use Rattle.tables.specs.Store.{is_live, is_handed, is_free, only, chained, tally, key_at, live, handed, free, live_key}
use Rattle.questions.specs.Questions.{tallies}

-- ---- the library's count of those that pass a test
pub count_tally : {A : Type 0} (t : A → Bool) (xs : List A) → count_by t xs ≡ tally t xs
count_tally t xs = sym (is_count_by (tally t) t refl (λ y ys. elim (t y) as (λ b. cond b (suc (tally t ys)) (tally t ys) ≡ cond b (1 + tally t ys) (tally t ys)) [ true ↦ omega arith | false ↦ refl ]) xs)

-- ---- one record more
abbrev one : Bool → ℕ
one b = cond b 1 0

module _ {A : Type 0} (t : A → Bool) where
  tally-step : (xs : List A) (i : ℕ) → tally t (take (suc i) xs) ≡ tally t (take i xs) + one (is_some (only t (slice_get xs i)))
  tally-step [] zero = refl
  tally-step [] (suc i) = refl
  tally-step (x ∷ xs) zero =
      elim (t x) as (λ b. cond b 1 0 ≡ 0 + one (is_some (cond b (Some x) None))) [ true ↦ refl | false ↦ refl ]
  tally-step (x ∷ xs) (suc i) =
      let more = tally-step xs i in
      elim (t x) as (λ b. cond b (suc (tally t (take (suc i) xs))) (tally t (take (suc i) xs)) ≡ cond b (suc (tally t (take i xs))) (tally t (take i xs)) + one (is_some (only t (slice_get xs i))))
      [ true ↦ omega (arith, more) | false ↦ more ]

-- ---- each mark is one of three
sum_cons : (k : Mark) (l h f n : ℕ) → l + h + f ≡ n
    → cond (is_live k) (suc l) l + cond (is_handed k) (suc h) h + cond (is_free k) (suc f) f ≡ suc n
sum_cons Free l h f n e = omega arith
sum_cons Live l h f n e = omega arith
sum_cons HandedOut l h f n e = omega arith

module _ {T : Type 0} where
  pub tallies-sum : (xs : List (Span T)) → (tallies xs).0 + (tallies xs).1 + (tallies xs).2 ≡ length xs
  tallies-sum [] = refl
  tallies-sum (x ∷ xs) = sum_cons x.mark (tally live xs) (tally handed xs) (tally free xs) (length xs) (tallies-sum xs)

-- ---- as many as the index holds
module _ {A : Type 0} (key : A → Option ℕ) (t : A → Bool) (same : (x : A) → is_some (key x) ≡ t x) where
  same-there : (o : Option A) → is_some (chained key o) ≡ is_some (only t o)
  same-there None = refl
  same-there (Some x) = same x ∙ elim (t x) as (λ b. b ≡ is_some (cond b (Some x) None)) [ true ↦ refl | false ↦ refl ]

  many-step : (id-of : ℕ → Option ℕ) (i : ℕ) (o : Option ℕ) → id-of i ≡ o → many id-of (suc i) ≡ many id-of i + one (is_some o)
  many-step id-of i None e = ap (many id-of) (sym (add-one i)) ∙ many-more-none id-of i e ∙ sym (add-zero (many id-of i))
  many-step id-of i (Some k) e = ap (many id-of) (sym (add-one i)) ∙ many-more-some id-of i k e

  many-tally : (xs : List A) (i : ℕ) → many (key_at key xs) i ≡ tally t (take i xs)
  many-tally xs zero = many-none (key_at key xs)
  many-tally xs (suc i) =
      many-step (key_at key xs) i (key_at key xs i) refl
      ∙ (ap (λ n. n + one (is_some (key_at key xs i))) (many-tally xs i)
      ∙ (ap (λ b. tally t (take i xs) + one b) (same-there (slice_get xs i)) ∙ sym (tally-step t xs i)))

  pub held-tally : (xs : List A) (es : List Entry) → Once es → Holds es (key_at key xs) → length es ≡ tally t xs
  held-tally xs es once h =
      let n = many (key_at key xs) (length xs) in
      let all = found_all es (key_at key xs) (length xs) once (λ i ge. ap (chained key) (slice_get_past xs i ge)) (λ i k lt e. h.1 k i e)
      (eqb (length es) n) n refl (Decides-eqb (length es) n) in
      eqb-true (length es) n (all.1 h) ∙ (many-tally xs (length xs) ∙ ap (tally t) (take_all (length xs) xs (omega arith)))

-- the ids held are as many as the live records
pub live-tally : {T : Type 0} (xs : List (Span T)) (es : List Entry) → Once es → Holds es (key_at live_key xs) → length es ≡ tally live xs
live-tally xs es once h =
    held-tally live_key live (λ x. elim (live x) as (λ b. is_some (cond b (Some x.id) None) ≡ b) [ true ↦ refl | false ↦ refl ]) xs es once h
