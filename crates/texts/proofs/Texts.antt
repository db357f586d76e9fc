-- Lemmas on the list of words.
use Rattle.std.proofs.Common.{◌≡◌, ℕ, ◌<◌, [], get_or, sym, refl, inl, inr}
use Rattle.std.specs.List.{AllPairs}
use Rattle.std.specs.Prelude.{◌≢◌}
use Rattle.std.proofs.lemmas.Slice.Eq.{bytes_eq-Decides}
use Rattle.std.proofs.lemmas.Cmp.{nat_list_eq_equiv}
use Rattle.std.proofs.lemmas.Map.Made.{IsDistinct-from_count, AllPairs-from_IsDistinct}
use Rattle.std.proofs.lemmas.Bool.{cases_order}
use Rattle.texts.specs.Words.{listed_words}

-- the list of words has no word twice: one computed test
apart : AllPairs (λ x y. x ≢ y) listed_words
apart = AllPairs-from_IsDistinct bytes_eq-Decides listed_words (IsDistinct-from_count nat_list_eq_equiv listed_words refl)

pub number_is : (m n : ℕ) → m < 18 → n < 18 → get_or listed_words m [] ≡ get_or listed_words n [] → m ≡ n
number_is m n h k e =
    elim (cases_order m n) [
      | inl q ↦ q
      | inr o ↦ elim o [ inl lt ↦ absurd (apart m n [] lt k e) | inr gt ↦ absurd (apart n m [] gt h (sym e)) ]
    ]
