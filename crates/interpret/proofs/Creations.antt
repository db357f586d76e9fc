-- A create's reads against the book's.
use Rattle.std.proofs.Common.{◌≡◌, ℕ, ◌+◌, ◌*◌, ◌^◌, List, [], ◌∷◌, ℤ, Ok, sym, refl, ap, ◌∙◌, subst, w64, to_z}
use native.Mathlib.Nat.{mod-add-div}
use Rattle.refusals.specs.declared.ChangeBufferError.{ChangeBufferError}
use Rattle.layout.specs.declared.utils.TraceId.{TraceId}
use Rattle.layout.specs.Reads.{number_at, Misses, Reads}
use Rattle.layout.specs.Traces.{words}
use Rattle.book.specs.Book.{Text, Field, trace, parent, Value, text, word, int, Writing, ◌≔◌, Book}
use Rattle.book.specs.Refusals.{Refusal}
use Rattle.book.specs.Actions.{Out, went, stopped, Act, on, ◌>>=◌, give, read}
use Rattle.book.specs.Acts.{Ending, reached, turned_down, Acts}
use Rattle.book.specs.Flush.{Operand, S, I, read_text, read_operand, read_fields, create, make, perform}
use Rattle.book.proofs.Acted.{acts_then, acts_stop, acts-give}
use Rattle.recorder.specs.Answers.{refusal}
use Rattle.operations.specs.declared.values.Making.{Making}
use Rattle.operations.specs.Made.{Gives}
use Rattle.operations.proofs.Writing.{by_field}
use Rattle.interpret.specs.declared.creation.Extra.{Extra}
use Rattle.interpret.specs.declared.creation.Extra.TheVariants.{Bare, Named, Full}
use Rattle.interpret.specs.Creation.{read_create, made_writings, RestBlank}
use Rattle.interpret.proofs.Reading.{number_reads, number-misses}

module _ (buffer : List ℕ) (P : Book → Type 0) where
  -- ---- fields by their operands

  pub fields-none : (p : ℕ) → Acts (read_fields []) buffer P p P (reached p [])
  unfolding read_fields
  fields-none p = acts-give buffer P p []

  -- with one writing more in front, unless it is refused
  abbrev led_by : Writing → Ending (List Writing) → Ending (List Writing)
  led_by w (reached p ws) = reached p (w ∷ ws)
  led_by w (turned_down r) = turned_down r

  module _ (f : Field) (fs : List (Field × Operand)) (p p₁ : ℕ) where
    field_then : (o : Operand) (v : Value) (e : Ending (List Writing)) → Acts (read_operand o) buffer P p P (reached p₁ v) → Acts (read_fields fs) buffer P p₁ P e → Acts (read_fields ((f, o) ∷ fs)) buffer P p P (led_by (f ≔ v) e)
    unfolding read_fields
    field_then o v (reached p₂ ws) a b = acts_then buffer (read_operand o) _ P P P p p₁ v _ a (acts_then buffer (read_fields fs) _ P P P p₁ p₂ ws _ b (acts-give buffer P p₂ _))
    field_then o v (turned_down r) a b = acts_then buffer (read_operand o) _ P P P p p₁ v _ a (acts_stop buffer (read_fields fs) _ P P p₁ r b)

    field_stops : (o : Operand) (r : Refusal) → Acts (read_operand o) buffer P p P (turned_down r) → Acts (read_fields ((f, o) ∷ fs)) buffer P p P (turned_down r)
    unfolding read_fields
    field_stops o r a = acts_stop buffer (read_operand o) _ P P p r a

    -- a text, and then the other fields, however they end
    pub text_then : (t : Text) (e : Ending (List Writing)) → Acts read_text buffer P p P (reached p₁ t) → Acts (read_fields fs) buffer P p₁ P e → Acts (read_fields ((f, S) ∷ fs)) buffer P p P (led_by (f ≔ text t) e)
    unfolding read_operand
    text_then t e a b = field_then S (text t) e (acts_then buffer read_text _ P P P p p₁ t _ a (acts-give buffer P p₁ _)) b

    pub text_stops : (r : Refusal) → Acts read_text buffer P p P (turned_down r) → Acts (read_fields ((f, S) ∷ fs)) buffer P p P (turned_down r)
    unfolding read_operand
    text_stops r a = field_stops S r (acts_stop buffer read_text _ P P p r a)

    -- a time
    pub time_then : (x : ℤ) (e : Ending (List Writing)) → Reads (to_z w64) 8 buffer p p₁ (Ok x) → Acts (read_fields fs) buffer P p₁ P e → Acts (read_fields ((f, I) ∷ fs)) buffer P p P (led_by (f ≔ int x) e)
    unfolding read_operand
    time_then x e h b =
        field_then I (int x) e
        (subst (λ z. Acts (read 8 >>= (λ n. give (int (to_z w64 n)))) buffer P p P (reached p₁ (int z))) (sym h.1)
        (acts_then buffer (read 8) (λ n. give (int (to_z w64 n))) P P P p p₁ (number_at 8 buffer p) _ (number_reads buffer P 8 p p₁ h.0 h.2) (acts-give buffer P p₁ _))) b

    pub time_stops : (e : ChangeBufferError) → Misses 8 buffer p p₁ e → Acts (read_fields ((f, I) ∷ fs)) buffer P p P (turned_down (refusal e))
    unfolding read_operand
    time_stops e h = field_stops I (refusal e) (acts_stop buffer (read 8) _ P P p (refusal e) (number-misses buffer P 8 p p₁ e h))

  -- ---- the whole create

  pub plain_reads : (size p p₁ x : ℕ) → Reads (λ n. n) size buffer p p₁ (Ok x) → Acts (read size) buffer P p P (reached p₁ x)
  plain_reads size p p₁ x h = subst (λ (z : ℕ). Acts (read size) buffer P p P (reached p₁ z)) (sym h.1) (number_reads buffer P size p p₁ h.0 h.2)

  pub trace_reads : (p p₁ : ℕ) (x : TraceId) → Reads words 16 buffer p p₁ (Ok x) → Acts (read 16) buffer P p P (reached p₁ (x.low + 2 ^ 64 * x.high))
  trace_reads p p₁ x h =
      let e : x.low + 2 ^ 64 * x.high ≡ number_at 16 buffer p = ap (λ z. z.low + 2 ^ 64 * z.high) h.1 ∙ mod-add-div (number_at 16 buffer p) (2 ^ 64) in
      subst (λ (z : ℕ). Acts (read 16) buffer P p P (reached p₁ z)) (sym e) (number_reads buffer P 16 p p₁ h.0 h.2)

  module _ (fs : List (Field × Operand)) (p : ℕ) where
    pub create_no_trace : (r : Refusal) → Acts (read 16) buffer P p P (turned_down r) → Acts (read_create fs) buffer P p P (turned_down r)
    unfolding read_create
    create_no_trace r a = acts_stop buffer (read 16) _ P P p r a

    module _ (p₁ t : ℕ) (a : Acts (read 16) buffer P p P (reached p₁ t)) where
      pub create_no_segment : (r : Refusal) → Acts (read 8) buffer P p₁ P (turned_down r) → Acts (read_create fs) buffer P p P (turned_down r)
      unfolding read_create
      create_no_segment r b = acts_then buffer (read 16) _ P P P p p₁ t _ a (acts_stop buffer (read 8) _ P P p₁ r b)

      module _ (p₂ s : ℕ) (b : Acts (read 8) buffer P p₁ P (reached p₂ s)) where
        pub create_no_parent : (r : Refusal) → Acts (read 8) buffer P p₂ P (turned_down r) → Acts (read_create fs) buffer P p P (turned_down r)
        unfolding read_create
        create_no_parent r c = acts_then buffer (read 16) _ P P P p p₁ t _ a (acts_then buffer (read 8) _ P P P p₁ p₂ s _ b (acts_stop buffer (read 8) _ P P p₂ r c))

        module _ (p₃ q : ℕ) (c : Acts (read 8) buffer P p₂ P (reached p₃ q)) where
          pub create_no_fields : (r : Refusal) → Acts (read_fields fs) buffer P p₃ P (turned_down r) → Acts (read_create fs) buffer P p P (turned_down r)
          unfolding read_create
          create_no_fields r d =
              acts_then buffer (read 16) _ P P P p p₁ t _ a (acts_then buffer (read 8) _ P P P p₁ p₂ s _ b (acts_then buffer (read 8) _ P P P p₂ p₃ q _ c (acts_stop buffer (read_fields fs) _ P P p₃ r d)))

          pub create_reads : (p₄ : ℕ) (ws : List Writing) → Acts (read_fields fs) buffer P p₃ P (reached p₄ ws) → Acts (read_create fs) buffer P p P (reached p₄ (s, trace ≔ word t ∷ parent ≔ word q ∷ ws))
          unfolding read_create
          create_reads p₄ ws d =
              acts_then buffer (read 16) _ P P P p p₁ t _ a (acts_then buffer (read 8) _ P P P p₁ p₂ s _ b (acts_then buffer (read 8) _ P P P p₂ p₃ q _ c (acts_then buffer (read_fields fs) _ P P P p₃ p₄ ws _ d (acts-give buffer P p₄ _))))

-- ---- the reads, and then the making

on_same : {A B : Type 0} (o : Out A) (f g : A → Act B) → ((a : A) (b : Book) (rest : List ℕ) → f a b rest ≡ g a b rest) → on o f ≡ on o g
on_same (went a b rest) f g e = e a b rest
on_same (stopped r b) f g e = refl

on-on : {A B C : Type 0} (o : Out A) (f : A → Act B) (g : B → Act C) → on (on o f) g ≡ on o (λ a b rest. on (f a b rest) g)
on-on (went a b rest) f g = refl
on-on (stopped r b) f g = refl

pub perform-create : (fs : List (Field × Operand)) (id : ℕ) (b : Book) (rest : List ℕ) → perform (create fs) id b rest ≡ (read_create fs >>= (λ x. make id x.0 x.1)) b rest
unfolding perform read_create ◌>>=◌ give
perform-create fs id b rest =
    sym (on-on (read 16 b rest) _ _
    ∙ on_same (read 16 b rest) _ _ (λ t b rest. on-on (read 8 b rest) _ _
    ∙ on_same (read 8 b rest) _ _ (λ s b rest. on-on (read 8 b rest) _ _
    ∙ on_same (read 8 b rest) _ _ (λ p b rest. on-on (read_fields fs b rest) _ _))))

-- ---- what the operands give

module _ {T : Type 0} (bytes : T → Text) (k : Making T) where
  abbrev both_ids : List Writing → List Writing
  both_ids ws = trace ≔ word (k.trace.low + 2 ^ 64 * k.trace.high) ∷ parent ≔ word k.parent ∷ ws

  pub gives : (extra : Extra) → RestBlank bytes extra k → Gives bytes k (both_ids (made_writings bytes extra k))
  gives Bare b = record { no_texts = refl; no_numbers = refl; fields = by_field _ refl refl (ap text b.0) (ap text b.1) (ap text b.2) (ap text b.3) (ap int b.4) refl refl refl refl refl refl }
  gives Named b = record { no_texts = refl; no_numbers = refl; fields = by_field _ refl refl (ap text b.0) refl (ap text b.1) (ap text b.2) refl refl refl refl refl refl refl }
  gives Full b = record { no_texts = refl; no_numbers = refl; fields = by_field _ refl refl refl refl refl refl refl refl refl refl refl refl refl }
