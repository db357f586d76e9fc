-- Reads of the code against the book's.
use Rattle.std.proofs.Common.{◌≡◌, ℕ, ◌+◌, ◌≤◌, List, length, get_or, Some, None, Ok, Err, Option, sym, refl, ap, ◌∙◌, subst, inl, inr}
use lib.Ieee.{Float, binary64, of_bits}
use Rattle.std.proofs.lemmas.List.{get_or_past}
use Rattle.std.proofs.lemmas.Option.{none-some, slice_get-get_or, slice_get_past}
use Rattle.std.proofs.lemmas.Bool.{cases_lt}
use Rattle.refusals.specs.declared.ChangeBufferError.{ChangeBufferError}
use Rattle.refusals.specs.declared.ChangeBufferError.TheVariants.{OutOfOrder, TooManyDefaults, KeyBeyond, NoSegment, NotHandedOut, ListShort, SpanNotFound, ReadOutOfBounds, UnknownOpcode, StringNotFound, NoRecord, NoSegmentRecord, RowFull}
use Rattle.refusals.specs.Told as code
use Rattle.layout.specs.Reads.{number_at, Misses, Reads, ReadsString}
use Rattle.book.specs.Book.{Text, bits_of, Book}
use Rattle.book.specs.Refusals.{Refusal, because, read_out_of_bounds, string_not_found, told}
use Rattle.book.specs.Actions.{◌>>=◌, give, look, the, read}
use Rattle.book.specs.Acts.{reached, turned_down, Acts}
use Rattle.book.specs.Maps.{find}
use Rattle.book.specs.Flush.{read_text, read_bits}
use Rattle.book.proofs.Telling.{told-apart}
use Rattle.book.proofs.Acted.{acts_then, acts_stop, acts-give, acts-found, acts-missing, acts-read, acts_past}
use Rattle.tables.specs.Store.{Store}
use Rattle.tables.specs.Shows.{string_of, string_at, Shows}
use Rattle.recorder.specs.Answers.{refusal}

-- ---- refusals

told_same : (e : ChangeBufferError) → code.told e ≡ told (refusal e)
told_same OutOfOrder = refl
told_same TooManyDefaults = refl
told_same KeyBeyond = refl
told_same (NoSegment x) = refl
told_same (NotHandedOut x) = refl
told_same ListShort = refl
told_same (SpanNotFound x) = refl
told_same (ReadOutOfBounds o s l) = refl
told_same (UnknownOpcode x) = refl
told_same (StringNotFound x) = refl
told_same (NoRecord x) = refl
told_same (NoSegmentRecord x) = refl
told_same (RowFull x) = refl

-- the refusal of a number and values
pub refusal_is : (e : ChangeBufferError) (q : Refusal) → code.told e ≡ told q → refusal e ≡ q
refusal_is e q h = told-apart (refusal e) q (sym (told_same e) ∙ h)

module _ (buffer : List ℕ) (P : Book → Type 0) where
  -- ---- numbers

  pub number_reads : (size p p' : ℕ) → p + size ≤ length buffer → p' ≡ p + size → Acts (read size) buffer P p P (reached p' (number_at size buffer p))
  number_reads size p p' l e = subst (λ (z : ℕ). Acts (read size) buffer P p P (reached z (number_at size buffer p))) (sym e) (acts-read buffer P p size l)

  pub number-misses : (size p p' : ℕ) (e : ChangeBufferError) → Misses size buffer p p' e → Acts (read size) buffer P p P (turned_down (refusal e))
  number-misses size p p' e h =
      subst (λ z. Acts (read size) buffer P p P (turned_down z)) (sym (refusal_is e (read_out_of_bounds p size (length buffer)) h.1)) (acts_past buffer P p size h.0)

  -- ---- a float's bits

  pub bits_reads : (p p' : ℕ) (x : Float) → Reads (of_bits binary64) 8 buffer p p' (Ok x) → Acts read_bits buffer P p P (reached p' (bits_of x))
  unfolding read_bits
  bits_reads p p' x h =
      subst (λ z. Acts (read 8 >>= (λ n. give (bits_of (of_bits binary64 n)))) buffer P p P (reached p' (bits_of z))) (sym h.1)
      (acts_then buffer (read 8) (λ n. give (bits_of (of_bits binary64 n))) P P P p p' (number_at 8 buffer p) _ (number_reads 8 p p' h.0 h.2) (acts-give buffer P p' _))

  pub bits_misses : (p p' : ℕ) (e : ChangeBufferError) → Misses 8 buffer p p' e → Acts read_bits buffer P p P (turned_down (refusal e))
  unfolding read_bits
  bits_misses p p' e h = acts_stop buffer (read 8) _ P P p (refusal e) (number-misses 8 p p' e h)

-- ---- strings

module _ {T : Type 0} (bytes : T → Text) where
  found_string : (strings : List (Option T)) (n : ℕ) (x : T) → get_or strings n None ≡ Some x → string_at bytes strings n ≡ Some (bytes x)
  found_string strings n x e = elim (cases_lt n (length strings)) [
    | inl lt ↦ ap (string_of bytes) (slice_get-get_or strings n None lt) ∙ ap (λ z. string_of bytes (Some z)) e
    | inr ge ↦ absurd (none-some x (sym (get_or_past strings n None ge) ∙ e))
  ]

  lacking_string : (strings : List (Option T)) (n : ℕ) → get_or strings n None ≡ None → string_at bytes strings n ≡ None
  lacking_string strings n e = elim (cases_lt n (length strings)) [
    | inl lt ↦ ap (string_of bytes) (slice_get-get_or strings n None lt) ∙ ap (λ z. string_of bytes (Some z)) e
    | inr ge ↦ ap (string_of bytes) (slice_get_past strings n ge)
  ]

  module _ (buffer : List ℕ) (m : Store T) where
    pub text_reads : (p p' : ℕ) (x : T) → ReadsString m.strings buffer p p' (Ok x) → Acts read_text buffer (Shows bytes m) p (Shows bytes m) (reached p' (bytes x))
    unfolding read_text
    text_reads p p' x h =
        let n = number_at 4 buffer p in
        acts_then buffer (read 4) (λ n. look (λ b. find n b.strings) >>= (λ found. the found (string_not_found n))) (Shows bytes m) (Shows bytes m) (Shows bytes m) p p' n _ (number_reads buffer (Shows bytes m) 4 p p' h.0 h.2)
        (acts-found buffer (λ b. find n b.strings) (bytes x) (string_not_found n) (Shows bytes m) p' (λ b s. sym (s.strings n) ∙ found_string m.strings n x h.1))

    pub text_fails : (p p' : ℕ) (e : ChangeBufferError) → ReadsString m.strings buffer p p' (Err e) → Acts read_text buffer (Shows bytes m) p (Shows bytes m) (turned_down (refusal e))
    unfolding read_text
    text_fails p p' e (inl h) = acts_stop buffer (read 4) _ (Shows bytes m) (Shows bytes m) p (refusal e) (number-misses buffer (Shows bytes m) 4 p p' e h)
    text_fails p p' e (inr h) =
        let n = number_at 4 buffer p in
        subst (λ z. Acts (read 4 >>= (λ n. look (λ b. find n b.strings) >>= (λ found. the found (string_not_found n)))) buffer (Shows bytes m) p (Shows bytes m) (turned_down z)) (sym (refusal_is e (because (string_not_found n)) h.2))
        (acts_then buffer (read 4) (λ n. look (λ b. find n b.strings) >>= (λ found. the found (string_not_found n))) (Shows bytes m) (Shows bytes m) (Shows bytes m) p p' n _ (number_reads buffer (Shows bytes m) 4 p p' h.0 h.3)
        (acts-missing buffer (λ b. find n b.strings) (string_not_found n) (Shows bytes m) p' (λ b s. sym (s.strings n) ∙ lacking_string m.strings n h.1)))
