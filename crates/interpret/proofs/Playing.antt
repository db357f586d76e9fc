-- Operations that read what they write, and then write it.
use Rattle.std.proofs.Common.{◌≡◌, ℕ, List, ℤ, Ok, Err, Option, Result, sym, subst, w32, w64, to_z}
use Rattle.refusals.specs.declared.ChangeBufferError.{ChangeBufferError}
use Rattle.layout.specs.Reads.{number_at, Misses, Reads}
use Rattle.book.specs.Book.{Text, Field, error, text, int, Writing, ◌≔◌, meta, metric, Book}
use Rattle.book.specs.Refusals.{Refusal}
use Rattle.book.specs.Actions.{Act, ◌>>=◌, give, times, read}
use Rattle.book.specs.Acts.{Ending, reached, turned_down, Acts}
use Rattle.book.specs.Flush.{S, I, i32, read_text, read_bits, read_operand, Attribute, ◌by◌, S_S, S_F, read_attribute, write_span, write_segment, set_attribute}
use Rattle.book.proofs.Acted.{acts_then, acts_stop, acts-give}
use Rattle.tables.specs.Store.{Store, free}
use Rattle.tables.specs.InOrder.{InOrder}
use Rattle.tables.specs.Shows.{Shows}
use Rattle.recorder.specs.Answers.{refusal}
use Rattle.recorder.specs.Strings.{with_strings}
use Rattle.operations.specs.Done.{ending, Done, NoneMade, gone}
use Rattle.operations.proofs.Keeping.{records-same}
use Rattle.operations.specs.declared.values.PairKind.{PairKind}
use Rattle.operations.specs.declared.values.PairKind.TheVariants.{Meta, Metric}
use Rattle.interpret.specs.Attributes.{pair_attribute}
use Rattle.interpret.specs.Played.{Played, note_attribute, set_counted}
use Rattle.interpret.proofs.Reading.{number_reads, number-misses}

-- the same attribute, and the same ending
pub as_attribute : (buffer : List ℕ) (P : Book → Type 0) (p : ℕ) (a a' : Attribute) (e e' : Ending Writing) → a' ≡ a → e' ≡ e → Acts (read_attribute a) buffer P p P e → Acts (read_attribute a') buffer P p P e'
as_attribute buffer P p a a' e e' x y h = subst (λ z. Acts (read_attribute z) buffer P p P e') (sym x) (subst (λ z. Acts (read_attribute a) buffer P p P z) (sym y) h)

-- the same strings, as another slice
pub by_strings : {T A : Type 0} (bytes : T → Text) (act : Act A) (buffer : List ℕ) (p : ℕ) (e : Ending A) (m : Store T) {ss ts : List (Option T)} → ss ≡ ts → Acts act buffer (Shows bytes (with_strings ss m)) p (Shows bytes (with_strings ss m)) e → Acts act buffer (Shows bytes (with_strings ts m)) p (Shows bytes (with_strings ts m)) e
by_strings bytes act buffer p e m x a = subst (λ ss. Acts act buffer (Shows bytes (with_strings ss m)) p (Shows bytes (with_strings ss m)) e) x a

module _ (buffer : List ℕ) (P : Book → Type 0) (p : ℕ) where
  -- ---- pairs

  pub pair_no_key : (k : PairKind) (r : Refusal) → Acts read_text buffer P p P (turned_down r) → Acts (read_attribute (pair_attribute k)) buffer P p P (turned_down r)
  unfolding read_attribute
  pair_no_key Meta r a = acts_stop buffer read_text _ P P p r a
  pair_no_key Metric r a = acts_stop buffer read_text _ P P p r a

  pub meta_reads : (p₁ p₂ : ℕ) (k v : Text) → Acts read_text buffer P p P (reached p₁ k) → Acts read_text buffer P p₁ P (reached p₂ v) → Acts (read_attribute S_S) buffer P p P (reached p₂ (meta k v))
  unfolding read_attribute
  meta_reads p₁ p₂ k v a b = acts_then buffer read_text _ P P P p p₁ k _ a (acts_then buffer read_text _ P P P p₁ p₂ v _ b (acts-give buffer P p₂ _))

  pub meta_no_value : (p₁ : ℕ) (k : Text) (r : Refusal) → Acts read_text buffer P p P (reached p₁ k) → Acts read_text buffer P p₁ P (turned_down r) → Acts (read_attribute S_S) buffer P p P (turned_down r)
  unfolding read_attribute
  meta_no_value p₁ k r a b = acts_then buffer read_text _ P P P p p₁ k _ a (acts_stop buffer read_text _ P P p₁ r b)

  pub metric_reads : (p₁ p₂ : ℕ) (k : Text) (n : ℕ) → Acts read_text buffer P p P (reached p₁ k) → Acts read_bits buffer P p₁ P (reached p₂ n) → Acts (read_attribute S_F) buffer P p P (reached p₂ (metric k n))
  unfolding read_attribute
  metric_reads p₁ p₂ k n a b = acts_then buffer read_text _ P P P p p₁ k _ a (acts_then buffer read_bits _ P P P p₁ p₂ n _ b (acts-give buffer P p₂ _))

  pub metric_no_value : (p₁ : ℕ) (k : Text) (r : Refusal) → Acts read_text buffer P p P (reached p₁ k) → Acts read_bits buffer P p₁ P (turned_down r) → Acts (read_attribute S_F) buffer P p P (turned_down r)
  unfolding read_attribute
  metric_no_value p₁ k r a b = acts_then buffer read_text _ P P P p p₁ k _ a (acts_stop buffer read_bits _ P P p₁ r b)

  -- ---- fields

  pub text_field_reads : (f : Field) (p₁ : ℕ) (t : Text) → Acts read_text buffer P p P (reached p₁ t) → Acts (read_attribute (f by S)) buffer P p P (reached p₁ (f ≔ text t))
  unfolding read_attribute read_operand
  text_field_reads f p₁ t a = acts_then buffer (read_text >>= (λ t. give (text t))) _ P P P p p₁ (text t) _ (acts_then buffer read_text _ P P P p p₁ t _ a (acts-give buffer P p₁ _)) (acts-give buffer P p₁ _)

  pub text_field_fails : (f : Field) (r : Refusal) → Acts read_text buffer P p P (turned_down r) → Acts (read_attribute (f by S)) buffer P p P (turned_down r)
  unfolding read_attribute read_operand
  text_field_fails f r a = acts_stop buffer (read_text >>= (λ t. give (text t))) _ P P p r (acts_stop buffer read_text _ P P p r a)

  pub time_field_reads : (f : Field) (p₁ : ℕ) (x : ℤ) → Reads (to_z w64) 8 buffer p p₁ (Ok x) → Acts (read_attribute (f by I)) buffer P p P (reached p₁ (f ≔ int x))
  unfolding read_attribute read_operand
  time_field_reads f p₁ x h =
      subst (λ z. Acts ((read 8 >>= (λ n. give (int (to_z w64 n)))) >>= (λ v. give (f ≔ v))) buffer P p P (reached p₁ (f ≔ int z))) (sym h.1)
      (acts_then buffer (read 8 >>= (λ n. give (int (to_z w64 n)))) (λ v. give (f ≔ v)) P P P p p₁ (int (to_z w64 (number_at 8 buffer p))) _
      (acts_then buffer (read 8) (λ n. give (int (to_z w64 n))) P P P p p₁ (number_at 8 buffer p) _ (number_reads buffer P 8 p p₁ h.0 h.2) (acts-give buffer P p₁ _)) (acts-give buffer P p₁ _))

  pub time_field_fails : (f : Field) (p₁ : ℕ) (e : ChangeBufferError) → Misses 8 buffer p p₁ e → Acts (read_attribute (f by I)) buffer P p P (turned_down (refusal e))
  unfolding read_attribute read_operand
  time_field_fails f p₁ e h =
      acts_stop buffer (read 8 >>= (λ n. give (int (to_z w64 n)))) (λ v. give (f ≔ v)) P P p (refusal e) (acts_stop buffer (read 8) (λ n. give (int (to_z w64 n))) P P p (refusal e) (number-misses buffer P 8 p p₁ e h))

  pub error_reads : (p₁ : ℕ) (x : ℤ) → Reads (to_z w32) 4 buffer p p₁ (Ok x) → Acts (read_attribute (error by i32)) buffer P p P (reached p₁ (error ≔ int x))
  unfolding read_attribute read_operand
  error_reads p₁ x h =
      subst (λ z. Acts ((read 4 >>= (λ n. give (int (to_z w32 n)))) >>= (λ v. give (error ≔ v))) buffer P p P (reached p₁ (error ≔ int z))) (sym h.1)
      (acts_then buffer (read 4 >>= (λ n. give (int (to_z w32 n)))) (λ v. give (error ≔ v)) P P P p p₁ (int (to_z w32 (number_at 4 buffer p))) _
      (acts_then buffer (read 4) (λ n. give (int (to_z w32 n))) P P P p p₁ (number_at 4 buffer p) _ (number_reads buffer P 4 p p₁ h.0 h.2) (acts-give buffer P p₁ _)) (acts-give buffer P p₁ _))

  pub error_fails : (p₁ : ℕ) (e : ChangeBufferError) → Misses 4 buffer p p₁ e → Acts (read_attribute (error by i32)) buffer P p P (turned_down (refusal e))
  unfolding read_attribute read_operand
  error_fails p₁ e h =
      acts_stop buffer (read 4 >>= (λ n. give (int (to_z w32 n)))) (λ v. give (error ≔ v)) P P p (refusal e) (acts_stop buffer (read 4) (λ n. give (int (to_z w32 n))) P P p (refusal e) (number-misses buffer P 4 p p₁ e h))

-- ---- a read, and then what it gives

module _ {T : Type 0} (bytes : T → Text) (buffer : List ℕ) (m : Store T) (p : ℕ) where
  -- nothing changed where the read is refused
  pub unread : {A : Type 0} (Made : ℕ → Type 0) (first : Act A) (f : A → Act (Unit {0})) (p₁ : ℕ) (e : ChangeBufferError) → InOrder m → Acts first buffer (Shows bytes m) p (Shows bytes m) (turned_down (refusal e))
      → Played bytes (first >>= f) Made buffer m m p p₁ (Err e)
  unread Made first f p₁ e o h = record {
    order = o;
    acts = acts_stop buffer first f (Shows bytes m) (Shows bytes m) p (refusal e) h;
    spans_kept = records-same free (λ x. x.meta) (λ x. x.metrics) Made m.spans m.ids;
    segments_kept = records-same gone (λ y. y.meta) (λ y. y.metrics) _ m.segments m.seats;
  }

  pub read_done : {A : Type 0} (Made : ℕ → Type 0) (first : Act A) (f : A → Act (Unit {0})) (a : A) (p₁ : ℕ) (m' : Store T) (answer : Result (Unit {0}) ChangeBufferError) → Acts first buffer (Shows bytes m) p (Shows bytes m) (reached p₁ a)
      → Done bytes (f a) Made m m' answer → Played bytes (first >>= f) Made buffer m m' p p₁ answer
  read_done Made first f a p₁ m' answer h d = record {
    order = d.order;
    acts = acts_then buffer first f (Shows bytes m) (Shows bytes m) (Shows bytes m') p p₁ a (ending p₁ answer) h (d.plays buffer p₁);
    spans_kept = d.spans_kept;
    segments_kept = d.segments_kept;
  }

  -- an attribute of a live span
  pub attribute_unread : (a : Attribute) (id p₁ : ℕ) (e : ChangeBufferError) → InOrder m → Acts (read_attribute a) buffer (Shows bytes m) p (Shows bytes m) (turned_down (refusal e)) → Played bytes (set_attribute a id) NoneMade buffer m m p p₁ (Err e)
  unfolding set_attribute
  attribute_unread a id p₁ e o h = unread NoneMade (read_attribute a) (λ w. write_span id w) p₁ e o h

  pub attribute_done : (a : Attribute) (id : ℕ) (w : Writing) (p₁ : ℕ) (m' : Store T) (answer : Result (Unit {0}) ChangeBufferError) → Acts (read_attribute a) buffer (Shows bytes m) p (Shows bytes m) (reached p₁ w)
      → Done bytes (write_span id w) NoneMade m m' answer → Played bytes (set_attribute a id) NoneMade buffer m m' p p₁ answer
  unfolding set_attribute
  attribute_done a id w p₁ m' answer h d = read_done NoneMade (read_attribute a) (λ w. write_span id w) w p₁ m' answer h d

  -- an attribute of a segment
  pub note-unread : (a : Attribute) (segment p₁ : ℕ) (e : ChangeBufferError) → InOrder m → Acts (read_attribute a) buffer (Shows bytes m) p (Shows bytes m) (turned_down (refusal e)) → Played bytes (note_attribute a segment) NoneMade buffer m m p p₁ (Err e)
  unfolding note_attribute
  note-unread a segment p₁ e o h = unread NoneMade (read_attribute a) (λ w. write_segment segment w) p₁ e o h

  pub note_done : (a : Attribute) (segment : ℕ) (w : Writing) (p₁ : ℕ) (m' : Store T) (answer : Result (Unit {0}) ChangeBufferError) → Acts (read_attribute a) buffer (Shows bytes m) p (Shows bytes m) (reached p₁ w)
      → Done bytes (write_segment segment w) NoneMade m m' answer → Played bytes (note_attribute a segment) NoneMade buffer m m' p p₁ answer
  unfolding note_attribute
  note_done a segment w p₁ m' answer h d = read_done NoneMade (read_attribute a) (λ w. write_segment segment w) w p₁ m' answer h d

  -- a count, and then as many
  pub count-unread : (a : Attribute) (id p₁ : ℕ) (e : ChangeBufferError) → InOrder m → Misses 4 buffer p p₁ e → Played bytes (set_counted a id) NoneMade buffer m m p p₁ (Err e)
  unfolding set_counted
  count-unread a id p₁ e o h = unread NoneMade (read 4) (λ n. times n (set_attribute a id)) p₁ e o (number-misses buffer (Shows bytes m) 4 p p₁ e h)

  pub count_done : (a : Attribute) (id n p₁ p₂ : ℕ) (m' : Store T) (answer : Result (Unit {0}) ChangeBufferError) → Reads (λ n. n) 4 buffer p p₁ (Ok n)
      → Played bytes (times n (set_attribute a id)) NoneMade buffer m m' p₁ p₂ answer → Played bytes (set_counted a id) NoneMade buffer m m' p p₂ answer
  unfolding set_counted
  count_done a id n p₁ p₂ m' answer h d = record {
    order = d.order;
    acts = acts_then buffer (read 4) (λ n. times n (set_attribute a id)) (Shows bytes m) (Shows bytes m) (Shows bytes m') p p₁ n (ending p₂ answer)
        (subst (λ (z : ℕ). Acts (read 4) buffer (Shows bytes m) p (Shows bytes m) (reached p₁ z)) (sym h.1) (number_reads buffer (Shows bytes m) 4 p p₁ h.0 h.2)) d.acts;
    spans_kept = d.spans_kept;
    segments_kept = d.segments_kept;
  }
