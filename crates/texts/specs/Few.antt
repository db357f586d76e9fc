-- Every text has at most 255 bytes: the proof that each kind gives.
use Rattle.std.specs.Prelude.{◌≡◌, ℕ, zero, suc, ◌≤◌, true, List, [], ◌∷◌, length, take, nat_le, slice_index_or, refl}
use Rattle.std.proofs.Common.{arith, leb-true, lit≤, length-take}
use Rattle.std.specs.List.{list_all}
use Rattle.std.proofs.lemmas.Bool.{and_parts}
use Rattle.texts.specs.Words.{listed_words}

few-at : (ws : List (List ℕ)) → list_all (λ w. nat_le (length w) 255) ws ≡ true → (n : ℕ) → length (slice_index_or ws n []) ≤ 255
few-at [] t n = lit≤ tt
few-at (x ∷ ws) t zero = leb-true (length x) 255 (and_parts _ _ t).0
few-at (x ∷ ws) t (suc n) = few-at ws (and_parts _ _ t).1 n

pub listed-few : (n : ℕ) → length (slice_index_or listed_words n []) ≤ 255
listed-few n = few-at listed_words refl n

pub short-few : (n : ℕ) (held : List ℕ) → n ≤ 64 → length (take n held) ≤ 255
short-few n held h = simp length-take (omega arith)
