-- No operation adds to the bytes that are left, and a read that is short says how many those were.
use Rattle.std.proofs.Common.{ℕ, zero, suc, ◌≤◌, Bool, true, false, cond, leb, List, [], ◌∷◌, length, take, drop, Some, None, Option, le_trans, le_refl, arith, length-drop}
use Rattle.layout.specs.Numbers.{le}
use Rattle.book.specs.Book.{Field, Writing, Segment, Book}
use Rattle.book.specs.Refusals.{Cause}
use Rattle.book.specs.Actions.{short, fault, Out, went, stopped, Act, on, ◌>>=◌, give, look, change, the, ask, times, read}
use Rattle.book.specs.Flush.{Operand, S, F, I, i32, read_text, read_bits, read_operand, Attribute, ◌by◌, S_S, S_F, Operation, create, on_span, on_segment, batch, read_attribute, read_fields, live_span, write_span, write_found, write_segment, make, set_attribute, perform, operation}

abbrev pub Within : {A : Type 0} → ℕ → Out A → Type 0
Within n (went a b rest) = length rest ≤ n
Within n (stopped (short left size) b) = left ≤ n
Within n (stopped (fault c) b) = Unit {0}

pub record Shrinks {A : Type 0} (m : Act A) : Type 0 where
  pub at : (b : Book) (rest : List ℕ) → Within (length rest) (m b rest)

pub wider : {A : Type 0} (n k : ℕ) (o : Out A) → n ≤ k → Within n o → Within k o
wider n k (went a b rest) h w = le_trans w h
wider n k (stopped (short left size) b) h w = le_trans w h
wider n k (stopped (fault c) b) h w = tt

on-within : {A B : Type 0} (n : ℕ) (o : Out A) (f : A → Act B) → ((a : A) → Shrinks (f a)) → Within n o → Within n (on o f)
on-within n (went a b rest) f t w = wider (length rest) n (f a b rest) w ((t a).at b rest)
on-within n (stopped (short left size) b) f t w = w
on-within n (stopped (fault c) b) f t w = tt

shrinks_bind : {A B : Type 0} {m : Act A} {f : A → Act B} → Shrinks m → ((a : A) → Shrinks (f a)) → Shrinks (m >>= f)
unfolding ◌>>=◌
shrinks_bind {m = m} {f = f} tm tf = record { at = λ b rest. on-within (length rest) (m b rest) f tf (tm.at b rest) }

shrinks_read : (n : ℕ) → Shrinks (read n)
unfolding read
shrinks_read n = record {
  at = λ b rest.
      elim (leb n (length rest)) as (λ t. Within (length rest) (cond t (went (le (take n rest)) b (drop n rest)) (stopped (short (length rest) n) b)))
      [ true ↦ simp length-drop (omega arith) | false ↦ le_refl (length rest) ];
}

shrinks_give : {A : Type 0} (a : A) → Shrinks (give a)
unfolding give
shrinks_give a = record { at = λ b rest. le_refl (length rest) }

shrinks_look : {A : Type 0} (f : Book → A) → Shrinks (look f)
unfolding look
shrinks_look f = record { at = λ b rest. le_refl (length rest) }

shrinks_change : (f : Book → Book) → Shrinks (change f)
unfolding change
shrinks_change f = record { at = λ b rest. le_refl (length rest) }

shrinks_the : {A : Type 0} (o : Option A) (c : Cause) → Shrinks (the o c)
unfolding the
shrinks_the (Some a) c = record { at = λ b rest. le_refl (length rest) }
shrinks_the None c = record { at = λ b rest. tt }

shrinks_ask : (t : Bool) (c : Cause) → Shrinks (ask t c)
unfolding ask
shrinks_ask true c = record { at = λ b rest. le_refl (length rest) }
shrinks_ask false c = record { at = λ b rest. tt }

pub shrinks_times : (n : ℕ) {m : Act (Unit {0})} → Shrinks m → Shrinks (times n m)
unfolding times
shrinks_times zero t = shrinks_give tt
shrinks_times (suc n) t = shrinks_bind t (λ _. shrinks_times n t)

ruleset basic = (shrinks_bind, shrinks_read, shrinks_give, shrinks_look, shrinks_change, shrinks_the, shrinks_ask, shrinks_times)

shrinks_text : Shrinks read_text
unfolding read_text
shrinks_text = search basic

shrinks_bits : Shrinks read_bits
unfolding read_bits
shrinks_bits = search basic

shrinks_operand : (o : Operand) → Shrinks (read_operand o)
unfolding read_operand
shrinks_operand S = search (basic, shrinks_text)
shrinks_operand F = search (basic, shrinks_bits)
shrinks_operand I = search basic
shrinks_operand i32 = search basic

shrinks_attribute : (a : Attribute) → Shrinks (read_attribute a)
unfolding read_attribute
shrinks_attribute (f by s) = search (basic, shrinks_operand)
shrinks_attribute S_S = search (basic, shrinks_text)
shrinks_attribute S_F = search (basic, shrinks_text, shrinks_bits)

shrinks_fields : (fs : List (Field × Operand)) → Shrinks (read_fields fs)
unfolding read_fields
shrinks_fields [] = search basic
shrinks_fields (f ∷ fs) = shrinks_bind (shrinks_operand f.1) (λ v. shrinks_bind (shrinks_fields fs) (λ ws. shrinks_give _))

shrinks_live : (id : ℕ) → Shrinks (live_span id)
unfolding live_span
shrinks_live id = search basic

shrinks_write : (id : ℕ) (w : Writing) → Shrinks (write_span id w)
unfolding write_span
shrinks_write id w = search (basic, shrinks_live)

shrinks_found : (id : ℕ) (w : Writing) (o : Option Segment) → Shrinks (write_found id w o)
unfolding write_found
shrinks_found id w None = search basic
shrinks_found id w (Some g) = search basic

shrinks_segment : (id : ℕ) (w : Writing) → Shrinks (write_segment id w)
unfolding write_segment
shrinks_segment id w = search (basic, shrinks_found)

shrinks_make : (id s : ℕ) (ws : List Writing) → Shrinks (make id s ws)
unfolding make
shrinks_make id s ws = search basic depth 8

shrinks_pair : (a : Attribute) (id : ℕ) → Shrinks (set_attribute a id)
unfolding set_attribute
shrinks_pair a id = search (basic, shrinks_attribute, shrinks_write)

shrinks_perform : (op : Operation) (id : ℕ) → Shrinks (perform op id)
unfolding perform
shrinks_perform (create fs) id = search (basic, shrinks_fields, shrinks_make) depth 8
shrinks_perform (on_span a) id = search (basic, shrinks_live, shrinks_pair)
shrinks_perform (on_segment a) id = search (basic, shrinks_live, shrinks_attribute, shrinks_segment)
shrinks_perform (batch a) id = search (basic, shrinks_live, shrinks_pair)

pub shrinks_operation : Shrinks operation
unfolding operation
shrinks_operation = search (basic, shrinks_perform)
