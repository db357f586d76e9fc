-- Sameness of bytes is an equivalence.
use Rattle.std.specs.Prelude.{◌≡◌, ℕ, Bool, true, false, List, refl}
use Rattle.std.proofs.Common.{sym, ◌∙◌}
use Rattle.std.specs.Str.{bytes_eq}
use Rattle.std.proofs.lemmas.Slice.Eq.{bytes_eq-Decides}
use Rattle.vec_map.specs.Rows.{Equivalence}

pub alike_from : (a b : Bool) → (a ≡ true → b ≡ true) → (b ≡ true → a ≡ true) → a ≡ b
alike_from true b f g = sym (f refl)
alike_from false true f g = g refl
alike_from false false f g = refl

pub same_bytes_fair : {K : Type 0} (bytes : K → List ℕ) → Equivalence (λ (a b : K). bytes_eq (bytes a) (bytes b))
same_bytes_fair bytes = record {
  itself = λ a. (bytes_eq-Decides (bytes a) (bytes a)).1 refl;
  either = λ a b.
      alike_from (bytes_eq (bytes a) (bytes b)) (bytes_eq (bytes b) (bytes a))
      (λ e. (bytes_eq-Decides (bytes b) (bytes a)).1 (sym ((bytes_eq-Decides (bytes a) (bytes b)).0 e)))
      (λ e. (bytes_eq-Decides (bytes a) (bytes b)).1 (sym ((bytes_eq-Decides (bytes b) (bytes a)).0 e)));
  onward = λ a b c p q.
      (bytes_eq-Decides (bytes a) (bytes c)).1 ((bytes_eq-Decides (bytes a) (bytes b)).0 p ∙ (bytes_eq-Decides (bytes b) (bytes c)).0 q);
}
