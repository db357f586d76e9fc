use Rattle.std.proofs.Common.{◌≡◌, ℕ, zero, suc, ◌<◌, List, [], ◌∷◌, map, length, get_or, refl, ap, ◌∙◌, arith, rules}
use Rattle.std.specs.List.{AllWithin}
use Rattle.std.specs.Slice.Iter.{iter_rest}
use Rattle.std.proofs.lemmas.Iterator.{IsFirst-from_position, YieldsList-from_slice}
use Rattle.std.proofs.lemmas.Option.{MatchOption-at_none}
use Rattle.std.proofs.lemmas.Result.{MatchResult-from_err}
use borrow.Author.Tests.{tests}
use Rattle.texts.proofs.listed.ListedText.from_bytes.Goals as goal

-- a text that none of the items has
none-has : {A : Type 0} (v : A → List ℕ) (xs : List A) (bs : List ℕ) → AllWithin (λ x. v x ≡ bs → ⊥) xs 0 (length xs) → (n : ℕ) → n < length xs → get_or (map v xs) n [] ≡ bs → ⊥
none-has v [] bs none n h e = omega arith
none-has v (x ∷ xs) bs none zero h e = none 0 x (omega arith) (omega arith) e
none-has v (x ∷ xs) bs none (suc n) h e = none-has v xs bs (λ k d lo hi. none (suc k) d (omega arith) (omega arith)) n (omega arith) e

pub returns-in_err-number : goal.returns-in_err-number
returns-in_err-number c =
    let words = iter_rest c.iter.result in
    let first =
    IsFirst-from_position _ _ c.position.result (λ x. x.now ≡ c.args.bytes.now) (λ x. x.now ≡ c.args.bytes.now → ⊥) c.position.ensures.ran
    (YieldsList-from_slice words refl) (λ x q k. search (rules, tests)) (λ x q k. search (rules, tests)) in
    let none = MatchOption-at_none _ _ c.in_err-number.ensures.ok_part first in
    let listed = c.iter.ensures.rest in
    MatchResult-from_err _ _ _ c.from_residual.ensures.0
    (λ y. (
      refl,
      λ on.
          none-has (λ x. x.now) words c.args.bytes.now none on.0 (omega (arith, on.1, ap length listed))
          (ap (λ xs. get_or (map (λ x. x.now) xs) on.0 []) listed ∙ on.2),
    ))
