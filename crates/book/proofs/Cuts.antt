-- A buffer cut between operations gives what the whole buffer gives.
use Rattle.std.proofs.Common.{◌≡◌, ℕ, zero, suc, ◌+◌, ◌-◌, ◌%◌, ◌^◌, List, [], ◌∷◌, ◌++◌, length, sym, refl, ap, ◌∙◌, append-nil, suc-add, zero-add, arith, length-append}
use Rattle.layout.specs.Numbers.{le}
use Rattle.book.specs.Book.{Book}
use Rattle.book.specs.Refusals.{read_out_of_bounds, Answer, accepted, refused}
use Rattle.book.specs.Actions.{short, fault, Out, went, stopped, Act, on, ◌>>=◌, give, times, read, settled}
use Rattle.book.specs.Flush.{operation, operations, flush}
use Rattle.book.specs.Cut.{Counts, Parts, last, part, Cut, cut, and_then, in_parts, CutsAgree}
use Rattle.book.proofs.Likeness.{equal_alike}
use Rattle.book.proofs.Takes.{Taken, goes, halts, read_whole, takes_wholes}
use Rattle.book.proofs.Shrinks.{Within, wider, shrinks_times, shrinks_operation}

-- k operations and then n
on-on : {A B C : Type 0} (o : Out A) (f : A → Act B) (g : B → Act C) → on (on o f) g ≡ on o (λ a b rest. on (f a b rest) g)
on-on (went a b rest) f g = refl
on-on (stopped r b) f g = refl

on_same : {A B : Type 0} (o : Out A) (f g : A → Act B) → ((a : A) (b : Book) (rest : List ℕ) → f a b rest ≡ g a b rest) → on o f ≡ on o g
on_same (went a b rest) f g h = h a b rest
on_same (stopped r b) f g h = refl

pub times_add : (k n : ℕ) (m : Act (Unit {0})) (b : Book) (rest : List ℕ) → times (k + n) m b rest ≡ on (times k m b rest) (λ _. times n m)
unfolding times ◌>>=◌ give
times_add zero n m b rest = ap (λ (x : ℕ). times x m b rest) (zero-add n)
times_add (suc k) n m b rest =
    ap (λ (x : ℕ). times x m b rest) (suc-add k n)
    ∙ on_same (m b rest) (λ _. times (k + n) m) (λ _ b' r. on (times k m b' r) (λ _. times n m)) (λ _ b' r. times_add k n m b' r)
    ∙ sym (on-on (m b rest) (λ _. times k m) (λ _. times n m))

-- a buffer with its count in front
pub flush-counted : (n : ℕ) (head bytes : List ℕ) (b : Book) → length head ≡ 8 → le head % 2 ^ 32 ≡ n → flush b (head ++ bytes) ≡ settled (8 + length bytes) (times n operation b bytes)
unfolding flush operations ◌>>=◌
flush-counted n head bytes b e h =
    let len : length (head ++ bytes) ≡ 8 + length bytes = simp length-append (omega arith) in
    ap (λ (x : ℕ). settled x (on (read 8 b (head ++ bytes)) (λ k. times (k % 2 ^ 32) operation))) len
    ∙ ap (λ o. settled (8 + length bytes) (on o (λ k. times (k % 2 ^ 32) operation))) (read_whole 8 b head bytes e)
    ∙ ap (λ (k : ℕ). settled (8 + length bytes) (times k operation b bytes)) h

-- a refusal, seen from a buffer with e more bytes in front
settled-grown : (e len : ℕ) (o : Out (Unit {0})) (f : Book → Book × Answer) → ((b : Book) → f b ≡ (b, accepted)) → Within len o →
    and_then e (settled len o).0 (settled len o).1 f ≡ settled (e + len) o
settled-grown e len (went a b rest) f h w = h b
settled-grown e len (stopped (short left size) b) f h w =
    let s : e + (len - left) ≡ (e + len) - left = omega arith in
    ap (λ (x : ℕ). (b, refused (read_out_of_bounds x size (e + len)))) s
settled-grown e len (stopped (fault c) b) f h w = refl

module _ (k n e : ℕ) (head bytes rest : List ℕ) (parts : List (List ℕ)) (b : Book) (c : Counts k head)
    (others : (e : ℕ) (b : Book) → in_parts e b parts ≡ settled (e + (8 + length rest)) (times n operation b rest)) where
  first_part : Taken (times k operation) b bytes → in_parts e b ((head ++ bytes) ∷ parts) ≡ settled (e + (8 + length (bytes ++ rest))) (times (k + n) operation b (bytes ++ rest))
  first_part (goes a b' h) =
      let f : Book → Book × Answer = λ b'. in_parts (e + (length (head ++ bytes) - 8)) b' parts in
      let alone : times k operation b bytes ≡ went a b' [] = ap (λ z. times k operation b z) (sym (append-nil bytes)) ∙ h [] in
      let far : e + (length (head ++ bytes) - 8) ≡ e + length bytes = let h = c.eight in simp length-append (omega arith) in
      let len : e + length bytes + (8 + length rest) ≡ e + (8 + length (bytes ++ rest)) = simp length-append (omega arith) in
      ap (λ (x : Book × Answer). and_then e x.0 x.1 f) (flush-counted k head bytes b c.eight c.used)
      ∙ ap (λ o. and_then e (settled (8 + length bytes) o).0 (settled (8 + length bytes) o).1 f) alone
      ∙ ap (λ (x : ℕ). in_parts x b' parts) far
      ∙ others (e + length bytes) b'
      ∙ ap (λ (x : ℕ). settled x (times n operation b' rest)) len
      ∙ ap (λ o. settled (e + (8 + length (bytes ++ rest))) o) (sym (times_add k n operation b (bytes ++ rest) ∙ ap (λ o. on o (λ _. times n operation)) (h rest)))
  first_part (halts r b' h) =
      let f : Book → Book × Answer = λ b'. in_parts (e + (length (head ++ bytes) - 8)) b' parts in
      let alone : times k operation b bytes ≡ stopped (fault r) b' = ap (λ z. times k operation b z) (sym (append-nil bytes)) ∙ h [] in
      ap (λ (x : Book × Answer). and_then e x.0 x.1 f) (flush-counted k head bytes b c.eight c.used)
      ∙ ap (λ o. and_then e (settled (8 + length bytes) o).0 (settled (8 + length bytes) o).1 f) alone
      ∙ ap (λ o. settled (e + (8 + length (bytes ++ rest))) o) (sym (times_add k n operation b (bytes ++ rest) ∙ ap (λ o. on o (λ _. times n operation)) (h rest)))

parts_agree : {n : ℕ} {bytes : List ℕ} {parts : List (List ℕ)} → Parts n bytes parts → (e : ℕ) (b : Book) →
    in_parts e b parts ≡ settled (e + (8 + length bytes)) (times n operation b bytes)
parts_agree {n} (last head bytes c) e b =
    let f : Book → Book × Answer = λ b'. (b', accepted) in
    ap (λ (x : Book × Answer). and_then e x.0 x.1 f) (flush-counted n head bytes b c.eight c.used)
    ∙ settled-grown e (8 + length bytes) (times n operation b bytes) f (λ b. refl)
    (wider (length bytes) (8 + length bytes) (times n operation b bytes) (omega arith) ((shrinks_times n shrinks_operation).at b bytes))
parts_agree (part {k} {n} {rest} {parts} head bytes c os ps) e b =
    first_part k n e head bytes rest parts b c (λ e' b'. parts_agree ps e' b') (takes_wholes os b)

same_outcome : (b : Book) (bytes : List ℕ) (parts : List (List ℕ)) → Cut bytes parts → in_parts 0 b parts ≡ flush b bytes
same_outcome b bytes parts (cut head bytes' e ps) =
    parts_agree ps 0 b
    ∙ ap (λ (x : ℕ). settled x (times (le head % 2 ^ 32) operation b bytes')) (zero-add (8 + length bytes'))
    ∙ sym (flush-counted (le head % 2 ^ 32) head bytes' b e refl)

pub cuts_agree : CutsAgree
cuts_agree b bytes parts c =
    let e : in_parts 0 b parts ≡ flush b bytes = same_outcome b bytes parts c in
    (e, equal_alike (in_parts 0 b parts).0 (flush b bytes).0 (ap (λ (z : Book × Answer). z.0) e))
