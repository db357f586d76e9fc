-- One operation with its head, and a whole buffer of them.
use Rattle.std.proofs.Common.{◌≡◌, ℕ, ◌+◌, ◌%◌, ◌^◌, ◌≤◌, true, List, length, Some, None, Ok, Err, Option, Result, sym, refl, ap, ◌∙◌, subst, inl, inr, zero-le, arith}
use Rattle.std.proofs.lemmas.Bool.{false≢true}
use Rattle.index.specs.declared.entry.Entry.{Entry}
use Rattle.index.specs.Held.{at}
use Rattle.refusals.specs.declared.ChangeBufferError.{ChangeBufferError}
use Rattle.layout.specs.declared.operation.BufferedOperation.{BufferedOperation}
use Rattle.layout.specs.OpCodes.{code}
use Rattle.layout.specs.Reads.{number_at, Misses, Reads, ReadsOperation}
use Rattle.book.specs.Maps.{find, has}
use Rattle.book.specs.Book.{Text, Book}
use Rattle.book.specs.Refusals.{because, unknown_opcode, refused}
use Rattle.book.specs.Actions.{Out, ◌>>=◌, the, times, read, settled}
use Rattle.book.specs.Acts.{Ending, reached, turned_down, Ended, Acts}
use Rattle.book.specs.Flush.{table, perform, operation, operations, flush}
use Rattle.book.specs.Flush as book
use Rattle.book.proofs.Telling.{opcodes_known}
use Rattle.book.proofs.Acted.{acts_then, acts_stop, acts-the, acts-none}
use Rattle.tables.specs.Store.{Store, free}
use Rattle.tables.specs.InOrder.{InOrder}
use Rattle.tables.specs.Shows.{Shows}
use Rattle.recorder.specs.Answers.{refusal, answer}
use Rattle.tables.specs.declared.tables.Tables.{Tables}
use Rattle.tables.proofs.Memory.{memory_kept, memory_then}
use Rattle.operations.specs.declared.inner.flush_tables.FlushTables.{FlushTables}
use Rattle.operations.specs.Parts.{SharedKept, SharedStay}
use Rattle.operations.specs.Done.{SpansKept, ending, gone}
use Rattle.operations.proofs.Keeping.{records-same}
use Rattle.interpret.specs.Creation.{fields_of}
use Rattle.interpret.specs.Played.{Played}
use Rattle.interpret.proofs.Following.{tables_kept, tables_then}
use Rattle.interpret.proofs.Reading.{refusal_is, number_reads, number-misses}
use Rattle.flush.specs.declared.operation.Operation.{Operation}
use Rattle.flush.specs.declared.operation.Operation.TheVariants.{Creates, Spans, Segments}
use Rattle.flush.specs.Flushes.{Flushes}
use Rattle.flush.specs.Found.{Cached}
use Rattle.flush.specs.Operation.{meaning, made_by, Created}

-- what was found last stays found
pub still_cached : (es es' : List Entry) (last : Option Entry) → ((id r : ℕ) → at es id ≡ Some r → at es' id ≡ Some r) → Cached es last → Cached es' last
still_cached es es' None stays c = tt
still_cached es es' (Some f) stays c = stays f.id f.number c

-- nothing changed
pub shared_start : {T : Type 0} (t : Tables T) → SharedStay t t
shared_start t = record { memory = memory_kept t; strings = refl; defaults = refl }

pub kept_start : {T : Type 0} (t : FlushTables T) → SharedKept t t
kept_start t = record { memory = tables_kept t; strings = refl; defaults = refl }

-- strings and default pairs that stayed, and then again
pub shared_then : {T : Type 0} (t t₁ t₂ : Tables T) → SharedStay t t₁ → SharedStay t₁ t₂ → SharedStay t t₂
shared_then t t₁ t₂ a b = record { memory = memory_then t t₁ t₂ a.memory b.memory; strings = b.strings ∙ a.strings; defaults = b.defaults ∙ a.defaults }

pub kept_then : {T : Type 0} (t t₁ t₂ : FlushTables T) → SharedKept t t₁ → SharedKept t₁ t₂ → SharedKept t t₂
kept_then t t₁ t₂ a b = record { memory = tables_then t t₁ t₂ a.memory b.memory; strings = b.strings ∙ a.strings; defaults = b.defaults ∙ a.defaults }

-- ---- the head of an operation

some_of : {A : Type 0} (o : Option A) → has o ≡ true → (x : A) × (o ≡ Some x)
some_of None e = absurd (false≢true e)
some_of (Some x) e = (x, refl)

module _ (buffer : List ℕ) (P : Book → Type 0) (p p₁ : ℕ) where
  pub head-acts : (h : BufferedOperation) (o : book.Operation) (Q : Book → Type 0) (e : Ending (Unit {0})) → ReadsOperation buffer p p₁ (Ok h) → find (code h.opcode) table ≡ Some o → Acts (perform o h.span_id) buffer P p₁ Q e
      → Acts operation buffer P p Q e
  unfolding operation
  head-acts h o Q e r known d =
      let a : p + 2 ≤ length buffer = (let l = r.0 in omega (arith, l)) in
      let b : p + 2 + 8 ≤ length buffer = (let l = r.0 in omega (arith, l)) in
      let s : p₁ ≡ p + 2 + 8 = (let l = r.3 in omega (arith, l)) in
      let k : find (number_at 2 buffer p) table ≡ Some o = ap (λ (n : ℕ). find n table) (sym r.1) ∙ known in
      acts_then buffer (read 2) _ P P Q p (p + 2) (number_at 2 buffer p) e (number_reads buffer P 2 p (p + 2) a refl)
      (acts_then buffer (the (find (number_at 2 buffer p) table) (unknown_opcode (number_at 2 buffer p))) _ P P Q (p + 2) (p + 2) o e (acts-the buffer P (p + 2) (find (number_at 2 buffer p) table) o (unknown_opcode (number_at 2 buffer p)) k)
      (acts_then buffer (read 8) (λ id. perform o id) P P Q (p + 2) p₁ h.span_id e
      (subst (λ (z : ℕ). Acts (read 8) buffer P (p + 2) P (reached p₁ z)) (sym r.2) (number_reads buffer P 8 (p + 2) p₁ b s)) d))

  pub head_fails : (e : ChangeBufferError) → ReadsOperation buffer p p₁ (Err e) → Acts operation buffer P p P (turned_down (refusal e))
  unfolding operation
  head_fails e (inl h) = acts_stop buffer (read 2) _ P P p (refusal e) (number-misses buffer P 2 p p₁ e h)
  head_fails e (inr (inl h)) =
      let n = number_at 2 buffer p in
      subst (λ z. Acts (read 2 >>= (λ code. the (find code table) (unknown_opcode code) >>= (λ op. read 8 >>= (λ id. perform op id)))) buffer P p P (turned_down z)) (sym (refusal_is e (because (unknown_opcode n)) h.1.1))
      (acts_then buffer (read 2) _ P P P p (p + 2) n _ (number_reads buffer P 2 p (p + 2) h.0 refl)
      (acts_stop buffer (the (find n table) (unknown_opcode n)) _ P P (p + 2) _ (acts-none buffer P (p + 2) (find n table) (unknown_opcode n) (opcodes_known.unknown n (let l = h.1.0 in omega (arith, l))))))
  head_fails e (inr (inr h)) =
      let n = number_at 2 buffer p in
      let k = some_of (find n table) (opcodes_known.known n (let l = h.1 in omega (arith, l))) in
      acts_then buffer (read 2) _ P P P p (p + 2) n _ (number_reads buffer P 2 p (p + 2) h.0 refl)
      (acts_then buffer (the (find n table) (unknown_opcode n)) _ P P P (p + 2) (p + 2) k.0 _ (acts-the buffer P (p + 2) (find n table) k.0 (unknown_opcode n) k.1)
      (acts_stop buffer (read 8) _ P P (p + 2) (refusal e) (number-misses buffer P 8 (p + 2) p₁ e h.2)))

-- ---- which spans are made

spans_weaker : {T : Type 0} (m m' : Store T) (Made Made₁ : ℕ → Type 0) → ((id : ℕ) → Made₁ id → Made id) → SpansKept Made₁ m m' → SpansKept Made m m'
spans_weaker m m' Made Made₁ weaker a = record {
  long = a.long;
  stays = a.stays;
  fresh = a.fresh;
  used = a.used;
  marks = λ r x x' e e'. elim (a.marks r x x' e e') [
    | inl y ↦ inl y
    | inr y ↦ inr (y.0, y.1, weaker y.0 y.2, y.3, y.4)
  ];
}

pub created-here : (buffer : List ℕ) (p p₁ : ℕ) (h : BufferedOperation) (o : Operation) → ReadsOperation buffer p p₁ (Ok h) → find (code h.opcode) table ≡ Some (meaning o) → (q : ℕ) → made_by o h.span_id q → Created buffer q
created-here buffer p p₁ h (Creates extra) r known q e = record {
  offset = p;
  fields = fields_of extra;
  opcode = ap (λ (n : ℕ). find n table) (sym r.1) ∙ known;
  its_id = sym r.2 ∙ sym e;
}
created-here buffer p p₁ h (Spans o) r known q e = absurd e
created-here buffer p p₁ h (Segments o) r known q e = absurd e

module _ {T : Type 0} (bytes : T → Text) (buffer : List ℕ) (m : Store T) (p p₁ : ℕ) where
  pub operated : (h : BufferedOperation) (o : Operation) (m' : Store T) (p₂ : ℕ) (a : Result (Unit {0}) ChangeBufferError) → ReadsOperation buffer p p₁ (Ok h) → find (code h.opcode) table ≡ Some (meaning o)
      → Played bytes (perform (meaning o) h.span_id) (made_by o h.span_id) buffer m m' p₁ p₂ a → Played bytes operation (Created buffer) buffer m m' p p₂ a
  operated h o m' p₂ a r known d = record {
    order = d.order;
    acts = head-acts buffer (Shows bytes m) p p₁ h (meaning o) (Shows bytes m') (ending p₂ a) r known d.acts;
    spans_kept = spans_weaker m m' (Created buffer) (made_by o h.span_id) (created-here buffer p p₁ h o r known) d.spans_kept;
    segments_kept = d.segments_kept;
  }

  pub unheaded : (e : ChangeBufferError) → InOrder m → ReadsOperation buffer p p₁ (Err e) → Played bytes operation (Created buffer) buffer m m p p₁ (Err e)
  unheaded e o r = record {
    order = o;
    acts = head_fails buffer (Shows bytes m) p p₁ e r;
    spans_kept = records-same free (λ x. x.meta) (λ x. x.metrics) (Created buffer) m.spans m.ids;
    segments_kept = records-same gone (λ y. y.meta) (λ y. y.metrics) _ m.segments m.seats;
  }

  -- ---- the count, and then as many

  pub uncounted : (e : ChangeBufferError) → InOrder m → Misses 8 buffer p p₁ e → Played bytes operations (Created buffer) buffer m m p p₁ (Err e)
  unfolding operations
  uncounted e o h = record {
    order = o;
    acts = acts_stop buffer (read 8) _ (Shows bytes m) (Shows bytes m) p (refusal e) (number-misses buffer (Shows bytes m) 8 p p₁ e h);
    spans_kept = records-same free (λ x. x.meta) (λ x. x.metrics) (Created buffer) m.spans m.ids;
    segments_kept = records-same gone (λ y. y.meta) (λ y. y.metrics) _ m.segments m.seats;
  }

  pub counted : (n : ℕ) (m' : Store T) (p₂ : ℕ) (a : Result (Unit {0}) ChangeBufferError) → Reads (λ n. n) 8 buffer p p₁ (Ok n) → Played bytes (times (n % 2 ^ 32) operation) (Created buffer) buffer m m' p₁ p₂ a → Played bytes operations (Created buffer) buffer m m' p p₂ a
  unfolding operations
  counted n m' p₂ a h d = record {
    order = d.order;
    acts = acts_then buffer (read 8) (λ n. times (n % 2 ^ 32) operation) (Shows bytes m) (Shows bytes m) (Shows bytes m') p p₁ n (ending p₂ a)
        (subst (λ (z : ℕ). Acts (read 8) buffer (Shows bytes m) p (Shows bytes m) (reached p₁ z)) (sym h.1) (number_reads buffer (Shows bytes m) 8 p p₁ h.0 h.2)) d.acts;
    spans_kept = d.spans_kept;
    segments_kept = d.segments_kept;
  }

-- ---- a whole flush

module _ {T : Type 0} (bytes : T → Text) (buffer : List ℕ) (m m' : Store T) (p' : ℕ) where
  ended-flush : (b : Book) (r : Result (Unit {0}) ChangeBufferError) (o : Out (Unit {0})) → Ended buffer (Shows bytes m') (ending p' r) o → Shows bytes m' (settled (length buffer) o).0 × (answer r ≡ (settled (length buffer) o).1)
  ended-flush b (Ok x) o e = subst (λ z. Shows bytes m' (settled (length buffer) z).0 × (answer (Ok x) ≡ (settled (length buffer) z).1)) (sym e.1) (e.3, refl)
  ended-flush b (Err x) o e =
      subst (λ z. Shows bytes m' (settled (length buffer) z).0 × (answer (Err x) ≡ (settled (length buffer) z).1)) (sym e.1.1) (e.1.3, ap refused e.1.2)

  pub flushed : (r : Result (Unit {0}) ChangeBufferError) → Played bytes operations (Created buffer) buffer m m' 0 p' r → Flushes bytes buffer m m' (answer r)
  unfolding flush
  flushed r d = record {
    order = d.order;
    shows = λ b s. ended-flush b r (operations b buffer) (d.acts.acts b zero-le s);
    spans_kept = d.spans_kept;
    segments_kept = d.segments_kept;
  }
