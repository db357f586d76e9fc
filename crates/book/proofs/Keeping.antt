-- What each write and each create keeps, a whole flush keeps.
use Rattle.std.proofs.Common.{◌≡◌, ℕ, zero, suc, ◌%◌, ◌^◌, Bool, true, false, cond, leb, List, [], ◌∷◌, length, take, drop, Some, None, Option, refl, lit≤}
use Rattle.layout.specs.Numbers.{le}
use Rattle.book.specs.Limits.{span_text_limit, span_number_limit, segment_text_limit, segment_number_limit}
use Rattle.book.specs.Maps.{find, put}
use Rattle.book.specs.Book.{Field, trace, parent, word, Writing, ◌≔◌, has_place, Span, Segment, written, write, note, Book, with_live, with_segments}
use Rattle.book.specs.Refusals.{Cause, span_not_found, no_record, no_segment_record, row_full}
use Rattle.book.specs.Actions.{short, Out, went, stopped, Act, on, ◌>>=◌, give, look, change, the, ask, times, read, settled}
use Rattle.book.specs.Flush.{Operand, S, F, I, i32, read_text, read_bits, read_operand, Attribute, ◌by◌, S_S, S_F, Operation, create, on_span, on_segment, batch, table, read_attribute, read_fields, live_span, write_span, write_found, write_segment, record_for, segment_record_for, created_in, make, set_attribute, perform, operation, operations, flush}
use Rattle.book.specs.Sound.{Within}

-- ---- steps that keep what P says of the book, and whose values are as R says

abbrev Ends : {A : Type 0} → (Book → Type 0) → (A → Type 0) → Out A → Type 0
Ends P R (went a b rest) = R a × P b
Ends P R (stopped f b) = P b

pub record Keeps {A : Type 0} (P : Book → Type 0) (R : A → Type 0) (m : Act A) : Type 0 where
  pub at : (b : Book) (rest : List ℕ) → P b → Ends P R (m b rest)

abbrev pub Any : {A : Type 0} → A → Type 0
Any a = Unit {0}

module _ (P : Book → Type 0) where
  on_keeps : {A B : Type 0} {R : A → Type 0} {S : B → Type 0} (o : Out A) (f : A → Act B) → ((a : A) → R a → Keeps P S (f a)) → Ends P R o → Ends P S (on o f)
  on_keeps (went a b rest) f h e = (h a e.0).at b rest e.1
  on_keeps (stopped r b) f h e = e

  keeps_bind : {A B : Type 0} {R : A → Type 0} {S : B → Type 0} {m : Act A} {f : A → Act B} → Keeps P R m → ((a : A) → R a → Keeps P S (f a)) → Keeps P S (m >>= f)
  unfolding ◌>>=◌
  keeps_bind {m = m} {f = f} k h = record { at = λ b rest p. on_keeps (m b rest) f h (k.at b rest p) }

  -- where nothing is known of the value
  keeps_then : {A B : Type 0} {S : B → Type 0} {m : Act A} {f : A → Act B} → Keeps P Any m → ((a : A) → Keeps P S (f a)) → Keeps P S (m >>= f)
  keeps_then k h = keeps_bind k (λ a _. h a)

  keeps_give : {A : Type 0} {R : A → Type 0} (a : A) → R a → Keeps P R (give a)
  unfolding give
  keeps_give a r = record { at = λ b rest p. (r, p) }

  gives_any : {A : Type 0} (a : A) → Keeps P Any (give a)
  gives_any a = keeps_give a tt

  keeps_look : {A : Type 0} (f : Book → A) → Keeps P Any (look f)
  unfolding look
  keeps_look f = record { at = λ b rest p. (tt, p) }

  keeps_the : {A : Type 0} (o : Option A) (c : Cause) → Keeps P Any (the o c)
  unfolding the
  keeps_the (Some a) c = record { at = λ b rest p. (tt, p) }
  keeps_the None c = record { at = λ b rest p. p }

  keeps_read : (n : ℕ) → Keeps P Any (read n)
  unfolding read
  keeps_read n = record {
    at = λ b rest p.
        elim (leb n (length rest)) as (λ t. Ends P Any (cond t (went (le (take n rest)) b (drop n rest)) (stopped (short (length rest) n) b)))
        [ true ↦ (tt, p) | false ↦ p ];
  }

  keeps_times : (n : ℕ) {m : Act (Unit {0})} → Keeps P Any m → Keeps P Any (times n m)
  unfolding times
  keeps_times zero k = gives_any tt
  keeps_times (suc n) k = keeps_then k (λ _. keeps_times n k)

  ruleset basic = (keeps_then, gives_any, keeps_look, keeps_the, keeps_read, keeps_times)

  keeps_text : Keeps P Any read_text
  unfolding read_text
  keeps_text = search basic

  keeps_bits : Keeps P Any read_bits
  unfolding read_bits
  keeps_bits = search basic

  keeps_operand : (o : Operand) → Keeps P Any (read_operand o)
  unfolding read_operand
  keeps_operand S = search (basic, keeps_text)
  keeps_operand F = search (basic, keeps_bits)
  keeps_operand I = search basic
  keeps_operand i32 = search basic

  keeps_attribute : (a : Attribute) → Keeps P Any (read_attribute a)
  unfolding read_attribute
  keeps_attribute (f by o) = search (basic, keeps_operand)
  keeps_attribute S_S = search (basic, keeps_text)
  keeps_attribute S_F = search (basic, keeps_text, keeps_bits)

  -- operands are fields alone
  keeps_fields : (fs : List (Field × Operand)) → Keeps P (Within 0 0) (read_fields fs)
  unfolding read_fields
  keeps_fields [] = keeps_give [] (lit≤ tt, lit≤ tt)
  keeps_fields (f ∷ fs) = keeps_then (keeps_operand f.1) (λ v. keeps_bind (keeps_fields fs) (λ ws h. keeps_give (f.0 ≔ v ∷ ws) h))

  keeps_live : (id : ℕ) → Keeps P Any (live_span id)
  unfolding live_span
  keeps_live id = search basic

  -- a question before a change
  asked : (t : Bool) (c : Cause) (f : Book → Book) (b : Book) (rest : List ℕ) → P b → (t ≡ true → P (f b)) → Ends P Any (on (ask t c b rest) (λ _. change f))
  unfolding ask change
  asked true c f b rest p h = (tt, h refl)
  asked false c f b rest p h = p

-- ---- what one more writing to a span or a segment keeps, and a create, the whole flush keeps

module _ (P : Book → Type 0)
    (writes : (b : Book) (id : ℕ) (s : Span) (w : Writing) → P b → find id b.live ≡ Some s → has_place span_text_limit span_number_limit (written s) w ≡ true → P (with_live (put id (write w s) b.live) b))
    (notes : (b : Book) (id : ℕ) (g : Segment) (w : Writing) → P b → find id b.segments ≡ Some g → has_place segment_text_limit segment_number_limit g.since w ≡ true → P (with_segments (put id (note w g) b.segments) b))
    (creates : (b : Book) (id s : ℕ) (ws : List Writing) → P b → Within 0 0 ws → record_for id b ≡ true → segment_record_for s b ≡ true → P (created_in id s ws b)) where
  wrote : (id : ℕ) (w : Writing) (b : Book) (rest : List ℕ) → P b → (o : Option Span) → find id b.live ≡ o →
      Ends P Any (on (the o (span_not_found id) b rest) (λ s b rest. on (ask (has_place span_text_limit span_number_limit (written s) w) (row_full id) b rest) (λ _. change (λ b. with_live (put id (write w s) b.live) b))))
  unfolding the
  wrote id w b rest p None e = p
  wrote id w b rest p (Some s) e = asked P _ _ _ b rest p (λ t. writes b id s w p e t)

  keeps_write : (id : ℕ) (w : Writing) → Keeps P Any (write_span id w)
  unfolding write_span live_span ◌>>=◌ look
  keeps_write id w = record { at = λ b rest p. wrote id w b rest p (find id b.live) refl }

  noted : (id : ℕ) (w : Writing) (b : Book) (rest : List ℕ) → P b → (o : Option Segment) → find id b.segments ≡ o → Ends P Any (write_found id w o b rest)
  unfolding write_found give ◌>>=◌
  noted id w b rest p None e = (tt, p)
  noted id w b rest p (Some g) e = asked P _ _ _ b rest p (λ t. notes b id g w p e t)

  keeps_segment : (id : ℕ) (w : Writing) → Keeps P Any (write_segment id w)
  unfolding write_segment ◌>>=◌ look
  keeps_segment id w = record { at = λ b rest p. noted id w b rest p (find id b.segments) refl }

  keeps_make : (id s : ℕ) (ws : List Writing) → Within 0 0 ws → Keeps P Any (make id s ws)
  unfolding make ◌>>=◌ look ask
  keeps_make id s ws h = record { at = λ b rest p. asks b rest p (record_for id b) refl }
    where
      asks : (b : Book) (rest : List ℕ) → P b → (t : Bool) → record_for id b ≡ t →
          Ends P Any (on (ask t (no_record id) b rest) (λ _ b rest. on (ask (segment_record_for s b) (no_segment_record s) b rest) (λ _. change (created_in id s ws))))
      asks b rest p true e = asked P _ _ _ b rest p (λ r. creates b id s ws p h e r)
      asks b rest p false e = p

  keeps_set : (a : Attribute) (id : ℕ) → Keeps P Any (set_attribute a id)
  unfolding set_attribute
  keeps_set a id = keeps_then P (keeps_attribute P a) (λ w. keeps_write id w)

  keeps_perform : (op : Operation) (id : ℕ) → Keeps P Any (perform op id)
  unfolding perform
  keeps_perform (create fs) id =
      keeps_then P (keeps_read P 16) (λ t. keeps_then P (keeps_read P 8) (λ s. keeps_then P (keeps_read P 8) (λ p.
      keeps_bind P (keeps_fields P fs) (λ ws h. keeps_make id s (trace ≔ word t ∷ parent ≔ word p ∷ ws) h))))
  keeps_perform (on_span a) id = keeps_then P (keeps_live P id) (λ _. keeps_set a id)
  keeps_perform (on_segment a) id = keeps_then P (keeps_live P id) (λ s. keeps_then P (keeps_attribute P a) (λ w. keeps_segment s.segment w))
  keeps_perform (batch a) id = keeps_then P (keeps_live P id) (λ _. keeps_then P (keeps_read P 4) (λ n. keeps_times P n (keeps_set a id)))

  keeps_operation : Keeps P Any operation
  unfolding operation
  keeps_operation = keeps_then P (keeps_read P 2) (λ code. keeps_then P (keeps_the P (find code table) _) (λ op. keeps_then P (keeps_read P 8) (λ id. keeps_perform op id)))

  keeps_operations : Keeps P Any operations
  unfolding operations
  keeps_operations = keeps_then P (keeps_read P 8) (λ n. keeps_times P (n % 2 ^ 32) keeps_operation)

  settles : (len : ℕ) (o : Out (Unit {0})) → Ends P Any o → P (settled len o).0
  settles len (went a b rest) e = e.1
  settles len (stopped f b) e = e

  pub flush_keeps : (b : Book) (bytes : List ℕ) → P b → P (flush b bytes).0
  unfolding flush
  flush_keeps b bytes p = settles (length bytes) (operations b bytes) (keeps_operations.at b bytes p)
