-- Refusals are told apart by their numbers and values, and the table of opcodes is looked through.
use Rattle.std.proofs.Common.{◌≡◌, ℕ, zero, suc, ◌<◌, ◌≤◌, Bool, true, cond, ◌&&◌, ltb, List, [], ◌∷◌, get_or, Some, None, Option, sym, refl, ap, ◌∙◌, ⊎_elim, arith}
use Rattle.std.proofs.lemmas.Bool.{ltb-true, ne_eqb, and_parts, cases_eq}
use Rattle.book.specs.Maps.{Map, find, has}
use Rattle.book.specs.Refusals.{out_of_order, too_many_defaults, key_beyond, list_short, no_segment, not_handed, span_not_found, unknown_opcode, string_not_found, no_record, no_segment_record, row_full, Refusal, because, read_out_of_bounds, told}
use Rattle.book.specs.Flush.{table}
use Rattle.book.specs.Laws.{ToldApart, OpcodesKnown}

-- ---- from a number and its values back to the refusal

value : ℕ → List ℕ → ℕ
value i vs = get_or vs i 0

meant : Map (List ℕ → Refusal)
meant =
    (1, λ vs. because out_of_order) ∷ (2, λ vs. because too_many_defaults) ∷ (3, λ vs. because key_beyond) ∷ (4, λ vs. because (no_segment (value 0 vs)))
    ∷ (5, λ vs. because (not_handed (value 0 vs))) ∷ (6, λ vs. because list_short) ∷ (7, λ vs. because (span_not_found (value 0 vs)))
    ∷ (8, λ vs. read_out_of_bounds (value 0 vs) (value 1 vs) (value 2 vs)) ∷ (9, λ vs. because (unknown_opcode (value 0 vs)))
    ∷ (10, λ vs. because (string_not_found (value 0 vs))) ∷ (11, λ vs. because (no_record (value 0 vs)))
    ∷ (12, λ vs. because (no_segment_record (value 0 vs))) ∷ (13, λ vs. because (row_full (value 0 vs))) ∷ []

back_by : Option (List ℕ → Refusal) → List ℕ → Refusal
back_by None vs = because out_of_order
back_by (Some f) vs = f vs

back : ℕ × List ℕ → Refusal
back t = back_by (find t.0 meant) t.1

told_back : (r : Refusal) → back (told r) ≡ r
unfolding back back_by meant value
told_back (because out_of_order) = refl
told_back (because too_many_defaults) = refl
told_back (because key_beyond) = refl
told_back (because list_short) = refl
told_back (because (no_segment id)) = refl
told_back (because (not_handed n)) = refl
told_back (because (span_not_found id)) = refl
told_back (because (unknown_opcode code)) = refl
told_back (because (string_not_found n)) = refl
told_back (because (no_record id)) = refl
told_back (because (no_segment_record id)) = refl
told_back (because (row_full id)) = refl
told_back (read_out_of_bounds o s l) = refl

pub told-apart : ToldApart
told-apart q r e = sym (told_back q) ∙ ap back e ∙ told_back r

-- ---- opcodes, by two computed tests

-- each number below n is there
all_there : {V : Type 0} → Map V → ℕ → Bool
all_there m zero = true
all_there m (suc n) = has (find n m) && all_there m n

there : {V : Type 0} (m : Map V) (n k : ℕ) → all_there m n ≡ true → k < n → has (find k m) ≡ true
unfolding all_there
there m zero k e l = let no_way : ⊥ = omega arith in absurd no_way
there m (suc n) k e l =
    let h = and_parts (has (find n m)) (all_there m n) e in
    ⊎_elim (λ x. ap (λ (z : ℕ). has (find z m)) x ∙ h.0) (λ ne. there m n k h.1 (omega arith)) (cases_eq k n)

-- none from n on is there
all-below : {V : Type 0} → Map V → ℕ → Bool
all-below [] n = true
all-below (e ∷ m) n = ltb e.0 n && all-below m n

beyond : {V : Type 0} (m : Map V) (n k : ℕ) → all-below m n ≡ true → n ≤ k → find k m ≡ None
unfolding all-below
beyond [] n k e l = refl
beyond (x ∷ m) n k e l =
    let h = and_parts (ltb x.0 n) (all-below m n) e in
    let b : x.0 < n = ltb-true x.0 n h.0 in
    ap (λ t. cond t (Some x.1) (find k m)) (ne_eqb k x.0 (λ z. omega arith)) ∙ beyond m n k h.1 l

pub opcodes_known : OpcodesKnown
unfolding all_there all-below
opcodes_known = record { known = λ code l. there table 17 code refl l; unknown = λ code l. beyond table 17 code refl l }
