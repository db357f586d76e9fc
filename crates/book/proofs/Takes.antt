-- What an operation's steps do with exactly the bytes that they read.
use Rattle.std.proofs.Common.{◌≡◌, ℕ, zero, suc, ◌+◌, ◌*◌, ◌≤◌, Bool, true, false, leb, List, [], ◌∷◌, ◌++◌, length, take, drop, Some, None, Option, sym, refl, ap, ◌∙◌, subst, append_assoc, suc-mul, add_comm, zero-mul, arith, length-append, length-drop, take-append-drop, length-take, drop-drop, take_at, drop_at}
use Rattle.std.proofs.lemmas.Bool.{le-leb, cond-true}
use Rattle.layout.specs.Numbers.{le}
use Rattle.book.specs.Book.{Field, Writing, Segment, Book}
use Rattle.book.specs.Refusals.{Cause}
use Rattle.book.specs.Actions.{fault, went, stopped, Act, on, ◌>>=◌, give, look, change, the, ask, times, read}
use Rattle.book.specs.Flush.{Operand, S, F, I, i32, read_text, read_bits, read_operand, Attribute, ◌by◌, S_S, S_F, Operation, create, on_span, on_segment, batch, read_attribute, read_fields, live_span, write_span, write_found, write_segment, make, set_attribute, perform, operation}
use Rattle.book.specs.Cut.{operand_length, attribute_length, fields_length, operands_length, Whole, Wholes, none, more}

-- whatever follows these bytes, the operation leaves just that, or stops for a cause
pub data Taken {A : Type 0} (m : Act A) (b : Book) (bytes : List ℕ) : Type 0 where
  goes : (a : A) (b' : Book) → ((rest : List ℕ) → m b (bytes ++ rest) ≡ went a b' rest) → Taken m b bytes
  halts : (c : Cause) (b' : Book) → ((rest : List ℕ) → m b (bytes ++ rest) ≡ stopped (fault c) b') → Taken m b bytes

-- the operation reads n bytes
pub record Takes {A : Type 0} (n : ℕ) (m : Act A) : Type 0 where
  pub at : (b : Book) (bytes : List ℕ) → length bytes ≡ n → Taken m b bytes

pub read_whole : (n : ℕ) (b : Book) (bytes rest : List ℕ) → length bytes ≡ n → read n b (bytes ++ rest) ≡ went (le bytes) b rest
unfolding read
read_whole n b bytes rest e =
    let h : n ≤ length (bytes ++ rest) = simp length-append (omega arith) in
    cond-true (leb n (length (bytes ++ rest))) _ _ (le-leb n (length (bytes ++ rest)) h)
    ∙ ap (λ x. went (le x) b (drop n (bytes ++ rest))) (take_at bytes rest n e)
    ∙ ap (λ x. went (le bytes) b x) (drop_at bytes rest n e)

pub takes-read : (n : ℕ) → Takes n (read n)
takes-read n = record { at = λ b bytes e. goes (le bytes) b (λ rest. read_whole n b bytes rest e) }

-- ---- one operation after another

module _ {A B : Type 0} (m : Act A) (f : A → Act B) (b : Book) (p q : List ℕ) where
  after_both : (a : A) (b' : Book) → ((rest : List ℕ) → m b (p ++ rest) ≡ went a b' rest) → Taken (f a) b' q → Taken (m >>= f) b (p ++ q)
  unfolding ◌>>=◌
  after_both a b' h (goes a₂ b₂ h₂) =
      goes a₂ b₂ (λ rest. ap (λ z. on (m b z) f) (append_assoc p q rest) ∙ ap (λ o. on o f) (h (q ++ rest)) ∙ h₂ rest)
  after_both a b' h (halts c b₂ h₂) =
      halts c b₂ (λ rest. ap (λ z. on (m b z) f) (append_assoc p q rest) ∙ ap (λ o. on o f) (h (q ++ rest)) ∙ h₂ rest)

  pub then_taken : Taken m b p → ((a : A) (b' : Book) → Taken (f a) b' q) → Taken (m >>= f) b (p ++ q)
  unfolding ◌>>=◌
  then_taken (goes a b' h) k = after_both a b' h (k a b')
  then_taken (halts c b' h) k =
      halts c b' (λ rest. ap (λ z. on (m b z) f) (append_assoc p q rest) ∙ ap (λ o. on o f) (h (q ++ rest)))

  -- where the value is known
  pub then_known : (a : A) → ((rest : List ℕ) → m b (p ++ rest) ≡ went a b rest) → Taken (f a) b q → Taken (m >>= f) b (p ++ q)
  then_known a h t = after_both a b h t

pub takes_bind : {A B : Type 0} {m : Act A} {f : A → Act B} (n k t : ℕ) → t ≡ n + k → Takes n m → ((a : A) → Takes k (f a)) → Takes t (m >>= f)
takes_bind {m = m} {f = f} n k t e tm tf = record {
  at = λ b bytes h.
      let h₁ : length (take n bytes) ≡ n = length-take n bytes ∙ omega arith in
      let h₂ : length (drop n bytes) ≡ k = length-drop n bytes ∙ omega arith in
      subst (λ z. Taken (m >>= f) b z) (take-append-drop n bytes)
      (then_taken m f b (take n bytes) (drop n bytes) (tm.at b (take n bytes) h₁) (λ a b'. (tf a).at b' (drop n bytes) h₂));
}

-- ---- what reads nothing

empty : (bytes : List ℕ) → length bytes ≡ 0 → bytes ≡ []
empty [] e = refl
empty (x ∷ xs) e = let no_way : ⊥ = omega arith in absurd no_way

takes_none : {A : Type 0} {m : Act A} → ((b : Book) → Taken m b []) → Takes 0 m
takes_none {m = m} t = record { at = λ b bytes e. subst (λ z. Taken m b z) (sym (empty bytes e)) (t b) }

takes-give : {A : Type 0} (a : A) → Takes 0 (give a)
unfolding give
takes-give a = takes_none (λ b. goes a b (λ rest. refl))

takes-look : {A : Type 0} (f : Book → A) → Takes 0 (look f)
unfolding look
takes-look f = takes_none (λ b. goes (f b) b (λ rest. refl))

takes-change : (f : Book → Book) → Takes 0 (change f)
unfolding change
takes-change f = takes_none (λ b. goes tt (f b) (λ rest. refl))

takes-the : {A : Type 0} (o : Option A) (c : Cause) → Takes 0 (the o c)
unfolding the
takes-the (Some a) c = takes_none (λ b. goes a b (λ rest. refl))
takes-the None c = takes_none (λ b. halts c b (λ rest. refl))

takes-ask : (t : Bool) (c : Cause) → Takes 0 (ask t c)
unfolding ask
takes-ask true c = takes_none (λ b. goes tt b (λ rest. refl))
takes-ask false c = takes_none (λ b. halts c b (λ rest. refl))

-- ---- each operation

takes-text : Takes 4 read_text
unfolding read_text
takes-text = takes_bind 4 0 4 refl (takes-read 4) (λ s. takes_bind 0 0 0 refl (takes-look _) (λ o. takes-the o _))

takes_bits : Takes 8 read_bits
unfolding read_bits
takes_bits = takes_bind 8 0 8 refl (takes-read 8) (λ n. takes-give _)

takes_operand : (o : Operand) → Takes (operand_length o) (read_operand o)
unfolding read_operand
takes_operand S = takes_bind 4 0 4 refl takes-text (λ t. takes-give _)
takes_operand F = takes_bind 8 0 8 refl takes_bits (λ n. takes-give _)
takes_operand I = takes_bind 8 0 8 refl (takes-read 8) (λ t. takes-give _)
takes_operand i32 = takes_bind 4 0 4 refl (takes-read 4) (λ t. takes-give _)

takes_attribute : (a : Attribute) → Takes (attribute_length a) (read_attribute a)
unfolding read_attribute
takes_attribute (f by s) = takes_bind (operand_length s) 0 (operand_length s) (omega arith) (takes_operand s) (λ t. takes-give _)
takes_attribute S_S = takes_bind 4 4 8 refl takes-text (λ k. takes_bind 4 0 4 refl takes-text (λ v. takes-give _))
takes_attribute S_F = takes_bind 4 8 12 refl takes-text (λ k. takes_bind 8 0 8 refl takes_bits (λ n. takes-give _))

takes-fields : (fs : List (Field × Operand)) → Takes (fields_length fs) (read_fields fs)
unfolding read_fields
takes-fields [] = takes-give []
takes-fields (f ∷ fs) =
    takes_bind (operand_length f.1) (fields_length fs) (operand_length f.1 + fields_length fs) refl (takes_operand f.1) (λ v.
    takes_bind (fields_length fs) 0 (fields_length fs) (omega arith) (takes-fields fs) (λ ws. takes-give _))

takes-live : (id : ℕ) → Takes 0 (live_span id)
unfolding live_span
takes-live id = takes_bind 0 0 0 refl (takes-look _) (λ o. takes-the o _)

takes_write : (id : ℕ) (w : Writing) → Takes 0 (write_span id w)
unfolding write_span
takes_write id w = takes_bind 0 0 0 refl (takes-live id) (λ s. takes_bind 0 0 0 refl (takes-ask _ _) (λ _. takes-change _))

takes-found : (id : ℕ) (w : Writing) (o : Option Segment) → Takes 0 (write_found id w o)
unfolding write_found
takes-found id w None = takes-give tt
takes-found id w (Some g) = takes_bind 0 0 0 refl (takes-ask _ _) (λ _. takes-change _)

takes-segment : (id : ℕ) (w : Writing) → Takes 0 (write_segment id w)
unfolding write_segment
takes-segment id w = takes_bind 0 0 0 refl (takes-look _) (λ o. takes-found id w o)

takes-make : (id s : ℕ) (ws : List Writing) → Takes 0 (make id s ws)
unfolding make
takes-make id s ws =
    takes_bind 0 0 0 refl (takes-look _) (λ _. takes_bind 0 0 0 refl (takes-ask _ _) (λ _.
    takes_bind 0 0 0 refl (takes-look _) (λ _. takes_bind 0 0 0 refl (takes-ask _ _) (λ _. takes-change _))))

takes_pair : (a : Attribute) (id : ℕ) → Takes (attribute_length a) (set_attribute a id)
unfolding set_attribute
takes_pair a id = takes_bind (attribute_length a) 0 (attribute_length a) (omega arith) (takes_attribute a) (λ w. takes_write id w)

takes-times : (c n : ℕ) (m : Act (Unit {0})) → Takes n m → Takes (c * n) (times c m)
unfolding times
takes-times zero n m t = subst (λ (k : ℕ). Takes k (give tt)) (sym (zero-mul n)) (takes-give tt)
takes-times (suc c) n m t = takes_bind n (c * n) (suc c * n) (suc-mul c n ∙ add_comm (c * n) n) t (λ _. takes-times c n m t)

-- an operation's operands, by the table's lengths
pub takes-perform : (op : Operation) (id : ℕ) (b : Book) (bytes : List ℕ) → length bytes ≡ operands_length op bytes → Taken (perform op id) b bytes
unfolding perform
takes-perform (create fs) id b bytes e =
    (takes_bind 16 (16 + fields_length fs) (32 + fields_length fs) (omega arith) (takes-read 16) (λ t.
    takes_bind 8 (8 + fields_length fs) (16 + fields_length fs) (omega arith) (takes-read 8) (λ s.
    takes_bind 8 (fields_length fs) (8 + fields_length fs) refl (takes-read 8) (λ p.
    takes_bind (fields_length fs) 0 (fields_length fs) (omega arith) (takes-fields fs) (λ ws. takes-make id s _))))).at b bytes e
takes-perform (on_span a) id b bytes e =
    (takes_bind 0 (attribute_length a) (attribute_length a) (omega arith) (takes-live id) (λ _. takes_pair a id)).at b bytes e
takes-perform (on_segment a) id b bytes e =
    (takes_bind 0 (attribute_length a) (attribute_length a) (omega arith) (takes-live id) (λ s.
    takes_bind (attribute_length a) 0 (attribute_length a) (omega arith) (takes_attribute a) (λ w. takes-segment s.segment w))).at b bytes e
takes-perform (batch a) id b bytes e =
    let h₁ : length (take 4 bytes) ≡ 4 = length-take 4 bytes ∙ omega arith in
    let h₂ : length (drop 4 bytes) ≡ le (take 4 bytes) * attribute_length a = length-drop 4 bytes ∙ omega arith in
    then_taken _ _ b [] bytes ((takes-live id).at b [] refl) (λ s b'.
    subst (λ z. Taken (read 4 >>= (λ n. times n (set_attribute a id))) b' z) (take-append-drop 4 bytes)
    (then_known (read 4) (λ n. times n (set_attribute a id)) b' (take 4 bytes) (drop 4 bytes) (le (take 4 bytes))
    (λ rest. read_whole 4 b' (take 4 bytes) rest h₁)
    ((takes-times (le (take 4 bytes)) (attribute_length a) (set_attribute a id) (takes_pair a id)).at b' (drop 4 bytes) h₂)))

known-goes : (o : Option Operation) (op : Operation) (c : Cause) (b : Book) → o ≡ Some op → (rest : List ℕ) → the o c b rest ≡ went op b rest
unfolding the
known-goes o op c b e rest = ap (λ (x : Option Operation). the x c b rest) e

three : (bytes : List ℕ) → take 2 bytes ++ (take 8 (drop 2 bytes) ++ drop 10 bytes) ≡ bytes
three bytes = ap (λ z. take 2 bytes ++ (take 8 (drop 2 bytes) ++ z)) (sym (drop-drop 8 2 bytes)) ∙ ap (λ z. take 2 bytes ++ z) (take-append-drop 8 (drop 2 bytes)) ∙ take-append-drop 2 bytes

pub takes-operation : (b : Book) (bytes : List ℕ) → Whole bytes → Taken operation b bytes
unfolding operation
takes-operation b bytes o =
    let h₁ : length (take 2 bytes) ≡ 2 = length-take 2 bytes ∙ omega arith in
    let h₂ : length (take 8 (drop 2 bytes)) ≡ 8 = simp (length-take, length-drop) (omega arith) in
    let h₃ : length (drop 10 bytes) ≡ operands_length o.op (drop 10 bytes) = length-drop 10 bytes ∙ omega arith in
    subst (λ z. Taken operation b z) (three bytes)
    (then_known _ _ b (take 2 bytes) (take 8 (drop 2 bytes) ++ drop 10 bytes) (le (take 2 bytes)) (λ rest. read_whole 2 b (take 2 bytes) rest h₁)
    (then_known _ _ b [] (take 8 (drop 2 bytes) ++ drop 10 bytes) o.op (λ rest. known-goes _ o.op _ b o.known rest)
    (then_known _ _ b (take 8 (drop 2 bytes)) (drop 10 bytes) (le (take 8 (drop 2 bytes))) (λ rest. read_whole 8 b _ rest h₂)
    (takes-perform o.op _ b (drop 10 bytes) h₃))))

pub takes_wholes : {n : ℕ} {bytes : List ℕ} → Wholes n bytes → (b : Book) → Taken (times n operation) b bytes
unfolding times give
takes_wholes none b = goes tt b (λ rest. refl)
takes_wholes (more bytes rest o os) b = then_taken _ _ b bytes rest (takes-operation b bytes o) (λ _ b'. takes_wholes os b')
