use Rattle.std.proofs.Common.{Bool, List, length, Some, None, MatchOption, sym, ap, ◌∙◌, subst, inl, inr, arith}
use Rattle.std.specs.List.{position, position_or_len}
use Rattle.std.proofs.lemmas.List.Sums.{fails_before_first, passes_at_first}
use Rattle.std.proofs.lemmas.Option.{get_or_from_slice_get}
use Rattle.std.proofs.lemmas.Bool.{cases_lt, cond-true, cond-false, lt-ltb, le-ltb, both_ways}
use Rattle.std.proofs.lemmas.Option.{slice_get_within}
use Rattle.operations.specs.Done.{Unused}
use Rattle.operations.specs.Made.{NoneUnused}
use Rattle.operations.proofs.Creating.{at-number}
use Rattle.operations.proofs.inner.places.unused.Goals as goal

first_unused : {A : Type 0} (unused : A → Bool) (xs : List A) → MatchOption (position unused xs) (NoneUnused unused xs) (Unused unused xs)
first_unused unused xs = let k = position_or_len unused xs in elim (cases_lt k (length xs)) [
  | inl lt ↦
      let x = at-number xs k lt in
      subst (λ o. MatchOption o (NoneUnused unused xs) (Unused unused xs)) (sym (cond-true _ (Some k) None (lt-ltb k (length xs) lt)))
      (record { found = x.0; is = x.1; idle = ap unused (sym (get_or_from_slice_get xs k x.0 x.0 x.1)) ∙ passes_at_first unused xs x.0 lt })
  | inr ge ↦
      subst (λ o. MatchOption o (NoneUnused unused xs) (Unused unused xs)) (sym (cond-false _ (Some k) None (le-ltb k (length xs) ge)))
      (λ r u.
      let w = slice_get_within xs r u.found u.is in
      let f = fails_before_first unused xs r u.found (omega (arith, w, ge)) in
      both_ways (unused u.found) (ap unused (sym (get_or_from_slice_get xs r u.found u.found u.is)) ∙ f) u.idle)
]

pub returns-else-unused_at : goal.returns-else-unused_at
returns-else-unused_at g c =
    let u = g.R.Place.unused in
    let xs = c.args.records.now in
    subst (λ o. MatchOption o (NoneUnused u xs) (Unused u xs)) (sym c.first_unused.ensures) (first_unused u xs)
